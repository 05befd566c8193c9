-- What a step keeps, and what it enters.
use Rattle.std.proofs.Common.{◌≡◌, ◌≤◌, ◌<◌, ℕ, ◌+◌, ◌^◌, Bool, true, false, cond, fold, List, [], ◌∷◌, ◌++◌, Option}
use Rattle.std.proofs.Common.{None, Some, length, refl, sym, ap, ◌∙◌, subst, arith}
use Rattle.std.specs.Prelude.{count_by, IfOk, IfSome, OnErr, Result, Ok, Err}
use Rattle.desk_common.specs.Causes.{Rose}
use Rattle.sms_construct.specs.declared.entry.Answer.{Answer}
use Rattle.sms_construct.specs.declared.entry.Entry.{Entry}
use Rattle.sms_construct.specs.declared.reply.Reply.TheVariants as replies
use Rattle.sms_construct.specs.declared.request.Op.{Op}
use Rattle.sms_construct.specs.declared.request.Request.{Request}
use Rattle.sms_keeper.specs.declared.rows.Rows.{Rows}
use Rattle.sms_keeper.specs.Log.{LogView}
use Rattle.sms_keeper.specs.Tables.{AreSame}
use Rattle.sms_keeper.specs.Told.{Stays}
use Rattle.desk_law.specs.State.{DeskState, Opening, start_of}
use Rattle.desk_law.specs.Kept.{is_entered}
use Rattle.desk_law.specs.Step.{IsStep, activates, is_activation}
use Rattle.desk_law.specs.History.{Reaches}
use Rattle.desk_law.specs.Records.{IsTables}
use Rattle.desk_law.proofs.HistoryLemmas.{leads-one}
use Rattle.desk_records.specs.Full.{is_full_for}
use Rattle.desk_records.specs.Logged.{IsUntouched, SameLog}
use Rattle.desk_records.specs.Recall.{IsUnknown}
use Rattle.desk_records.specs.Tied.{IsLogOf, IsSoundOpening}
use Rattle.desk_records.proofs.OpeningLemmas.{tied-opened}
use Rattle.desk_records.proofs.StepLemmas.{activations-fit, activations-push, log-below, log-none}
use Rattle.desk_records.proofs.TiedLemmas.{tied-lawful, tied-reserved, tied-same}
use Rattle.desk_state.specs.declared.running.Running.{Running}
use Rattle.desk_state.specs.Standing.{IsRunning, IsSomeState}
use Rattle.sms_core.specs.Core.{Enters, HasTables, needs_no_commit}
use Rattle.sms_core.specs.Inner.Standing.{HasEntered, IsCore, IsHeld, SameRunning, IsUnmade}

-- Counts.

one-more : (b : Bool) → cond b 1 0 ≤ 1
one-more true = omega arith
one-more false = omega arith

count-few : {X : Type 0} (p : X → Bool) (n : ℕ) (xs : List X) → fold (λ n y. n + cond (p y) 1 0) n xs ≤ n + length xs
count-few p n [] = omega arith
count-few p n (x ∷ xs) = omega (arith, one-more (p x), count-few p (n + cond (p x) 1 0) xs)

-- no more entries ask for an activation than there are
pub asked-few : (h : List Entry) → count_by activates h ≤ length h
asked-few h = omega (arith, count-few activates 0 h)

-- What is told.

pub stays-self : (told : Option Rows) → Stays told told
stays-self None = tt
stays-self (Some rows) = (rows, refl, record { sets = λ dsn. refl; replies = λ job number. refl; decks = λ count. refl; statuses = λ target. refl; floors = λ job. refl })

-- tables of the state that the history reached are those of the history
pub tables-reached : (o : Opening) (h : List Entry) (s : DeskState) (told : Option Rows) → Reaches o h s → IfSome told (λ rows. IsTables o h s rows) → HasTables o h told
tables-reached o h s None reaches tables = tt
tables-reached o h s (Some rows) reaches tables = λ t other.
    let same : s ≡ t = leads-one o [] (start_of o) h s t reaches other in
    subst (λ (u : DeskState). IsTables o h u rows) same tables

-- What is held before the first entry.

-- no journal, and a keeper, a log and a running state of the opening
pub core-opened : (o : Opening) (base : ℕ) (h : List Entry) (running : Running) (log : LogView) (told : Option Rows) (mark count : ℕ) → h ≡ [] → mark ≡ count → base ≡ o.base → IsSoundOpening o
    → IsLogOf o.rows.floors o.rows.replies log → IfSome told (λ rows. AreSame rows o.rows) → IsRunning (start_of o) running → IsCore o base 0 h running log told mark count
core-opened o base h running log told mark count none same base_is sound log_is tables stands = rw (none, same) (record {
  held = record { state = start_of o; tied = tied-opened o log told count sound log_is tables; stands = stands };
  base_is = base_is;
  asked_is = refl;
})

-- the log of no rows
pub log-empty : (log : LogView) → log.kept ≡ [] → log.floors ≡ [] → IsLogOf [] [] log
log-empty log kept floors = record { floors_are = λ job. rw floors refl; replies_are = λ job number above. rw kept refl }

-- What is held.

-- room was taken
pub held-room : (o : Opening) (h : List Entry) (running running' : Running) (log log' : LogView) (told : Option Rows) (mark count : ℕ)
    → IsHeld o h running log told mark count → SameRunning running running' → SameLog log log' → IsHeld o h running' log' told mark count
held-room o h running running' log log' told mark count held same same_log = record {
  state = held.state;
  tied = tied-reserved o h held.state log log' told mark count held.tied same_log;
  stands = same held.state held.stands;
}

-- nothing was made
pub held-untouched : (o : Opening) (h : List Entry) (running running' : Running) (log log' : LogView) (told told' : Option Rows) (mark old new : ℕ)
    → IsHeld o h running log told mark old → SameRunning running running' → IsUntouched told told' log log' → old ≤ new → IsHeld o h running' log' told' mark new
held-untouched o h running running' log log' told told' mark old new held same untouched later =
    let same_log : SameLog log log' = rw untouched.log_is (record { kept = λ key. refl; floors = λ job. refl }) in
    record {
      state = held.state;
      tied = tied-same o h held.state log log' told told' mark old new held.tied same_log untouched.stays later;
      stands = same held.state held.stands;
    }

-- What a step enters.

-- the answer of an entry
pub enters-one : (o : Opening) (h h' : List Entry) (told told' : Option Rows) (old new : ℕ) (request : Request) (answer : Answer) (s after : DeskState)
    → Reaches o h s → IsStep o h s (record { request = request; answer = answer }) after → is_full_for h request.op ≡ false → h' ≡ h ++ record { request = request; answer = answer } ∷ []
    → (answer.reply ≡ replies.KeeperFault → Rose old new) → ((answer.reply ≡ replies.KeeperFault → ⊥) → new ≡ old) → old ≤ new → Enters o h h' told told' old new request answer
enters-one o h h' told told' old new request answer s after reaches step not_full grown cause stands later =
    let entered : is_entered answer.reply ≡ true = step.entered in
    record {
      journal_is = rw entered grown;
      lawful = λ _. record { state = s; after = after; reaches = reaches; step = step };
      no_place = λ none. let no : true ≡ false = sym entered ∙ none in absurd cc;
      no_change = λ none. let no : true ≡ false = sym entered ∙ none in absurd cc;
      full = (λ full. (let no : true ≡ false = sym entered ∙ ap is_entered full in absurd cc), λ full. (let no : true ≡ false = sym full ∙ not_full in absurd cc));
      cause = cause;
      stands = stands;
      rises = later;
    }

-- all is held behind one entry more
pub core-entered : (o : Opening) (base asked more : ℕ) (h h' : List Entry) (s : DeskState) (e : Entry) (running : Running) (log : LogView) (told : Option Rows) (mark count : ℕ)
    → base ≡ o.base → asked ≡ count_by activates h → more ≡ cond (is_activation e.request.op) 1 0 → HasEntered o h s e running log told mark count → h' ≡ h ++ e ∷ []
    → IsCore o base (asked + more) h' running log told mark count
core-entered o base asked more h h' s e running log told mark count base_is asked_is more_is has grown = record {
  held = rw grown (record { state = has.after; tied = has.entered.tied; stands = has.stands });
  base_is = base_is;
  asked_is = rw (grown, asked_is, more_is) (sym (activations-push h e));
}

-- Where the running state is one that can be asked.

-- it stands for a lawful state
pub held-some : (o : Opening) (h : List Entry) (running : Running) (log : LogView) (told : Option Rows) (mark count : ℕ) → IsHeld o h running log told mark count → IsSomeState running
held-some o h running log told mark count held = record { state = held.state; lawful = tied-lawful o h held.state log told mark count held.tied; stands = held.stands }

-- the number of the next activation is one of 64 bits
pub held-counted : (o : Opening) (h : List Entry) (running : Running) (log : LogView) (told : Option Rows) (mark count : ℕ) (op : Op) → IsHeld o h running log told mark count → is_full_for h op ≡ false → running.activations + 1 < 2 ^ 64
held-counted o h running log told mark count op held not_full = rw held.stands.activations (activations-fit o h held.state log told mark count op held.tied not_full)

-- it stands for each state that the journal reaches
pub held-stands : (o : Opening) (h : List Entry) (running : Running) (log : LogView) (told : Option Rows) (mark count : ℕ) (s : DeskState) → IsHeld o h running log told mark count → Reaches o h s → IsRunning s running
held-stands o h running log told mark count s held reaches =
    subst (λ (t : DeskState). IsRunning t running) (leads-one o [] (start_of o) h held.state s held.tied.reaches reaches) held.stands

-- a fresh number of a journal that isn't full needs a commit
pub idle-known : (o : Opening) (h : List Entry) (running : Running) (log : LogView) (told : Option Rows) (mark count : ℕ) (request : Request)
    → IsHeld o h running log told mark count → is_full_for h request.op ≡ false → needs_no_commit o h request ≡ true → IsUnknown log request → ⊥
idle-known o h running log told mark count request held not_full idle unknown =
    let above = log-below o h log request false held.tied.log_is unknown.above in
    let none = log-none o h log request held.tied.log_is unknown in
    let no : false ≡ true = rw (not_full, above, none) at idle in absurd cc

-- Answers that are handed on.

-- what follows of a success
pub if-ok : {T E : Type 0} (P Q : T → Type 0) (r : Result T E) → IfOk r P → ((x : T) → P x → Q x) → IfOk r Q
if-ok P Q (Ok x) is give = give x is
if-ok P Q (Err e) is give = tt

-- what hasn't changed stands as it was
pub unmade-self : (running : Running) (log : LogView) (told : Option Rows) (count : ℕ) → IsUnmade running running log log told told count count
unmade-self running log told count = record { running_is = λ s stands. stands; records_are = record { stays = stays-self told; log_is = refl }; spared = refl }

-- nor what was first put in the running state's place
pub unmade-behind : (running more running' : Running) (log log' : LogView) (told told' : Option Rows) (old new : ℕ) {T E : Type 0} (r : Result T E)
    → SameRunning running more → OnErr r (IsUnmade more running' log log' told told' old new) → OnErr r (IsUnmade running running' log log' told told' old new)
unmade-behind running more running' log log' told told' old new (Ok x) same is = tt
unmade-behind running more running' log log' told told' old new (Err e) same is = record { running_is = λ s stands. is.running_is s (same s stands); records_are = is.records_are; spared = is.spared }

-- what holds anyway holds on a failure
pub on-err : {T E : Type 0} (P : Type 0) (r : Result T E) → P → OnErr r P
on-err P (Ok x) is = tt
on-err P (Err e) is = is

-- the entry that was made joins the journal
pub enters-made : (o : Opening) (h h' : List Entry) (told told' : Option Rows) (old new mark : ℕ) (request : Request) (answer : Answer) (s : DeskState) (e : Entry) (running : Running) (log : LogView)
    → HasEntered o h s e running log told' mark new → Reaches o h s → e.request ≡ request → answer ≡ e.answer → is_full_for h request.op ≡ false → h' ≡ h ++ e ∷ []
    → (e.answer.reply ≡ replies.KeeperFault → Rose old new) → ((e.answer.reply ≡ replies.KeeperFault → ⊥) → new ≡ old) → old ≤ new → Enters o h h' told told' old new request answer
enters-made o h h' told told' old new mark request answer s e running log has reaches p q not_full grown cause stands later =
    let still : is_full_for h e.request.op ≡ false = rw p not_full in
    rw (← p, q) (enters-one o h h' told told' old new e.request e.answer s has.after reaches has.entered.step still grown cause stands later)
