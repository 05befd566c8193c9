-- What is tied after one more entry.
use Rattle.std.proofs.Common.{◌≡◌, ◌≤◌, ℕ, ◌+◌, max, Bool, true, false, cond, List, [], ◌∷◌, ◌++◌, Option, None, Some}
use Rattle.std.proofs.Common.{length, refl, ap, ◌∙◌, arith, append-nil, length-append, inl, inr}
use Rattle.std.specs.Prelude.{◌==◌, nat_lt, if◌then◌else◌, IfSome}
use Rattle.std.specs.List.{AllByRecursion}
use Rattle.std.proofs.lemmas.Bool.Decides.{nat_tests}
use Rattle.desk_common.specs.Causes.{Rose}
use Rattle.sms_construct.specs.Configuration.{Configuration}
use Rattle.sms_construct.specs.declared.entry.Entry.{Entry}
use Rattle.sms_construct.specs.declared.reply.Reply.{Reply}
use Rattle.sms_construct.specs.declared.reply.Reply.TheVariants as replies
use Rattle.sms_keeper.specs.declared.deck_row.DeckRow.{DeckRow}
use Rattle.sms_keeper.specs.declared.effect.Effect.{Effect}
use Rattle.sms_keeper.specs.declared.floor.Floor.{Floor}
use Rattle.sms_keeper.specs.declared.kept_row.KeptRow.{KeptRow}
use Rattle.sms_keeper.specs.declared.rows.Rows.{Rows}
use Rattle.sms_keeper.specs.Log.{LogView}
use Rattle.sms_keeper.specs.Suits.{deck_of}
use Rattle.sms_keeper.specs.Tables.{is_reply_of}
use Rattle.sms_keeper.specs.Told.{Applies, Stays}
use Rattle.desk_law.specs.State.{DeskState, Opening, start_of}
use Rattle.desk_law.specs.Kept.{all_floors, all_rows, floor_of, floor_told, greatest_floor, is_entered, is_fault}
use Rattle.desk_law.specs.Kept.{kept_for, row_of_entry}
use Rattle.desk_law.specs.Step.{IsStep}
use Rattle.desk_law.specs.Lawful.{IsLawful}
use Rattle.desk_law.specs.Records.{IsTables, decks_of, decks_of_entry, decks_told}
use Rattle.desk_law.proofs.ActivationLemmas.{AreEarlier, reaches-counts}
use Rattle.desk_law.proofs.ByteLemmas.{bytes-self}
use Rattle.desk_law.proofs.FloorLemmas.{floor-more}
use Rattle.desk_law.proofs.HistoryLemmas.{leads-lawful, leads-push}
use Rattle.desk_law.proofs.PlaceLemmas.{find-each}
use Rattle.desk_records.specs.Effects.{Matches, change_of, state_with}
use Rattle.desk_records.specs.Logged.{IsDone, IsUntouched, SameLog}
use Rattle.desk_records.specs.Tied.{IsGoodRow, IsLogOf, IsTied, faults_in}
use Rattle.desk_records.proofs.EffectLemmas.{kept-no_fault}
use Rattle.desk_records.proofs.GreatestLemmas.{greatest-append}
use Rattle.desk_records.proofs.KeptLemmas.{IsKnown, kept-quiet}
use Rattle.desk_records.proofs.LogLemmas.{log-fresh, log-quiet, log-same}
use Rattle.desk_records.proofs.TableLemmas.{faults-push, floors-push, rows-fault, rows-more, tables-fresh, tables-quiet}
use Rattle.desk_records.proofs.TableLemmas.{tables-same}

-- Each of a list.

each-append : {X : Type 0} (P : X → Type 0) (xs ys : List X) → AllByRecursion P xs → AllByRecursion P ys → AllByRecursion P (xs ++ ys)
each-append P [] ys all more = more
each-append P (x ∷ xs) ys all more = (all.0, each-append P xs ys all.1 more)

pub each-weaker : {X : Type 0} (P Q : X → Type 0) → ((x : X) → P x → Q x) → (xs : List X) → AllByRecursion P xs → AllByRecursion Q xs
each-weaker P Q give [] all = tt
each-weaker P Q give (x ∷ xs) all = (give x all.0, each-weaker P Q give xs all.1)

-- Good rows.

good-more : (f g : List ℕ → ℕ) (last more : ℕ) (row : KeptRow) → ((job : List ℕ) → f job ≤ g job) → last ≤ more → IsGoodRow f last row → IsGoodRow g more row
good-more f g last more row higher less good = record {
  place = omega (arith, less, good.place);
  entered = good.entered;
  no_fault = good.no_fault;
  floors_stand = each-weaker _ _ (λ told stands. omega (arith, stands, higher told.job)) (floor_told row.reply) good.floors_stand;
}

-- a floor that is told stands
own-stands : (F : List Floor) (reply : Reply) → AllByRecursion (λ (told : Floor). told.floor ≤ greatest_floor told.job (F ++ floor_told reply)) (floor_told reply)
own-stands F (replies.Purged job floor) =
    let own : greatest_floor job (record { job = job; floor = floor } ∷ []) ≡ max floor 0 = rw (bytes-self job) refl in
    (omega (arith, own, greatest-append job F (record { job = job; floor = floor } ∷ [])), tt)
own-stands F reply = tt

-- the rows of a history with one more entry are good
good-push : (o : Opening) (h : List Entry) (e : Entry) → AllByRecursion (IsGoodRow (floor_of o h) (o.base + length h)) (all_rows o h) → e.answer.place ≡ o.base + length h + 1
    → is_entered e.answer.reply ≡ true → is_fault e.answer.reply ≡ false → AllByRecursion (IsGoodRow (floor_of o (h ++ e ∷ [])) (o.base + length (h ++ e ∷ []))) (all_rows o (h ++ e ∷ []))
good-push o h e good place entered no_fault =
    let longer : length (h ++ e ∷ []) ≡ length h + 1 = length-append h (e ∷ []) in
    let stand : AllByRecursion (λ (told : Floor). told.floor ≤ floor_of o (h ++ e ∷ []) told.job) (floor_told e.answer.reply) =
    rw (floors-push o h e) (own-stands (all_floors o h) e.answer.reply) in
    let own : IsGoodRow (floor_of o (h ++ e ∷ [])) (o.base + length (h ++ e ∷ [])) (row_of_entry e) =
    record { place = omega (arith, place, longer); entered = entered; no_fault = no_fault; floors_stand = stand } in
    rw (rows-more o h e no_fault)
    (each-append _ (all_rows o h) (row_of_entry e ∷ [])
    (each-weaker _ _ (λ row one. good-more (floor_of o h) (floor_of o (h ++ e ∷ [])) (o.base + length h) (o.base + length (h ++ e ∷ [])) row (λ job. floor-more o h (e ∷ []) job) (omega (arith, longer)) one) (all_rows o h) good)
    (own, tt))

-- the kept row of a number is good
pub kept-good : (o : Opening) (h : List Entry) (s : DeskState) (log : LogView) (told : Option Rows) (mark count : ℕ) (job : List ℕ) (number : ℕ) (row : KeptRow)
    → IsTied o h s log told mark count → kept_for o h job number ≡ Some row → IsGoodRow (floor_of o h) (o.base + length h) row
kept-good o h s log told mark count job number row tied found = find-each _ (is_reply_of job number) (all_rows o h) row tied.good found

-- What follows of what is tied.

-- the state is lawful
pub tied-lawful : (o : Opening) (h : List Entry) (s : DeskState) (log : LogView) (told : Option Rows) (mark count : ℕ) → IsTied o h s log told mark count → IsLawful s
tied-lawful o h s log told mark count tied = leads-lawful o [] (start_of o) h s tied.sound.lawful tied.reaches

one-deck : (reply : Reply) (deck : Option (List ℕ)) → length (decks_told reply deck) ≤ 1
one-deck (replies.Activated count) None = omega arith
one-deck (replies.Activated count) (Some bytes) = omega arith
one-deck reply deck = omega arith

entry-decks : (b : Bool) (e : Entry) → length (cond b (decks_told e.answer.reply (deck_of e.request.op)) []) ≤ 1
entry-decks true e = one-deck e.answer.reply (deck_of e.request.op)
entry-decks false e = omega arith

few-decks : (h : List Entry) → length (decks_of h) ≤ length h
few-decks [] = omega arith
few-decks (e ∷ h) = omega (arith, length-append (decks_of_entry e) (decks_of h), entry-decks (e.answer.first == e.answer.place) e, few-decks h)

-- there were no more activations than recorded decks and entries
pub tied-few : (o : Opening) (h : List Entry) (s : DeskState) (log : LogView) (told : Option Rows) (mark count : ℕ) → IsTied o h s log told mark count → s.activations ≤ length o.rows.decks + length h
tied-few o h s log told mark count tied =
    let earlier : AreEarlier o.base o.rows.replies = each-weaker _ _ (λ row good. good.place) o.rows.replies tied.sound.good in
    omega (arith, reaches-counts o h s earlier tied.reaches, few-decks h)

-- Nothing was entered.

stays-tables : (o : Opening) (h : List Entry) (s : DeskState) (before after : Option Rows) → IfSome before (λ rows. IsTables o h s rows) → Stays before after → IfSome after (λ rows. IsTables o h s rows)
stays-tables o h s before None tables stays = tt
stays-tables o h s before (Some rows) tables stays = tables-same o h s stays.0 rows stays.2 (rw stays.1 at tables)

pub tied-same : (o : Opening) (h : List Entry) (s : DeskState) (log log' : LogView) (before after : Option Rows) (mark old new : ℕ)
    → IsTied o h s log before mark old → SameLog log log' → Stays before after → old ≤ new → IsTied o h s log' after mark new
tied-same o h s log log' before after mark old new tied same stays later = record {
  sound = tied.sound;
  reaches = tied.reaches;
  good = tied.good;
  log_is = log-same _ _ log log' same tied.log_is;
  tables = stays-tables o h s before after tied.tables stays;
  counted = omega (arith, tied.counted, later);
}

-- room was taken in the log
pub tied-reserved : (o : Opening) (h : List Entry) (s : DeskState) (log log' : LogView) (told : Option Rows) (mark count : ℕ) → IsTied o h s log told mark count → SameLog log log' → IsTied o h s log' told mark count
tied-reserved o h s log log' told mark count tied same = record {
  sound = tied.sound;
  reaches = tied.reaches;
  good = tied.good;
  log_is = log-same _ _ log log' same tied.log_is;
  tables = tied.tables;
  counted = tied.counted;
}

-- The change of a fresh request was made.

applied-tables : (o : Opening) (h : List Entry) (s : DeskState) (e : Entry) (effect : Effect) (config : Option Configuration) (before after : Option Rows) → Matches (floor_of o h) e.request.op e.answer.reply effect
    → kept_for o h e.request.job e.request.number ≡ None → e.answer.first ≡ e.answer.place → IfSome before (λ rows. IsTables o h s rows) → Applies (change_of e effect) before after
    → IfSome after (λ rows. IsTables o (h ++ e ∷ []) (state_with s effect config) rows)
applied-tables o h s e effect config before None match_ none first tables applies = tt
applied-tables o h s e effect config before (Some rows) match_ none first tables applies =
    tables-fresh o h s e effect config applies.0 rows match_ none first applies.2 (rw applies.1 at tables)

fresh-log : (o : Opening) (h : List Entry) (e : Entry) (effect : Effect) (before after : Option Rows) (log log' : LogView) → Matches (floor_of o h) e.request.op e.answer.reply effect
    → kept_for o h e.request.job e.request.number ≡ None → IsLogOf (all_floors o h) (all_rows o h) log → IsDone (change_of e effect) before after log log'
    → IsLogOf (all_floors o (h ++ e ∷ [])) (all_rows o (h ++ e ∷ [])) log'
fresh-log o h e effect before after log log' match_ none is done =
    rw (floors-push o h e ∙ ap (λ (l : List Floor). all_floors o h ++ l) match_.floors_match, rows-more o h e (kept-no_fault e.answer.reply match_.kept))
    (log-fresh (all_floors o h) (all_rows o h) log log' (change_of e effect) is none done.logged)

no-more : (h : List Entry) (e : Entry) → is_fault e.answer.reply ≡ false → faults_in (h ++ e ∷ []) ≡ faults_in h + 0
no-more h e no_fault = faults-push h e ∙ rw no_fault refl

pub tied-fresh : (o : Opening) (h : List Entry) (s : DeskState) (log log' : LogView) (before after : Option Rows) (mark old new : ℕ) (e : Entry) (effect : Effect) (config : Option Configuration)
    → IsTied o h s log before mark old → IsStep o h s e (state_with s effect config) → Matches (floor_of o h) e.request.op e.answer.reply effect
    → kept_for o h e.request.job e.request.number ≡ None → e.answer.first ≡ e.answer.place → IsDone (change_of e effect) before after log log' → old ≤ new
    → IsTied o (h ++ e ∷ []) (state_with s effect config) log' after mark new
tied-fresh o h s log log' before after mark old new e effect config tied step match_ none first done later =
    let no_fault = kept-no_fault e.answer.reply match_.kept in
    record {
      sound = tied.sound;
      reaches = leads-push o [] (start_of o) h e s (state_with s effect config) tied.reaches step;
      good = good-push o h e tied.good step.place step.entered no_fault;
      log_is = fresh-log o h e effect before after log log' match_ none tied.log_is done;
      tables = applied-tables o h s e effect config before after match_ none first tied.tables done.applies;
      counted = omega (arith, tied.counted, later, no-more h e no_fault);
    }

-- The number was no fresh one.

-- an entry that changes nothing: it is no fault, the floors that it tells stand, it has no decks, and its number is
-- known
pub record IsStill (o : Opening) (h : List Entry) (e : Entry) : Type 0 where
  pub no_fault : is_fault e.answer.reply ≡ false
  pub floors_stand : AllByRecursion (λ (told : Floor). told.floor ≤ floor_of o h told.job) (floor_told e.answer.reply)
  pub no_decks : decks_of_entry e ≡ []
  pub known : IsKnown (all_floors o h) (all_rows o h) e.request.job e.request.number

quiet-tables : (o : Opening) (h : List Entry) (s : DeskState) (e : Entry) (told : Option Rows) → IsStill o h e → IfSome told (λ rows. IsTables o h s rows) → IfSome told (λ rows. IsTables o (h ++ e ∷ []) s rows)
quiet-tables o h s e None still tables = tt
quiet-tables o h s e (Some rows) still tables =
    tables-quiet o h s e rows still.no_decks
    (rw (floors-push o h e, rows-more o h e still.no_fault)
    (kept-quiet (all_floors o h) (all_rows o h) rows.replies rows.floors (row_of_entry e) (floor_told e.answer.reply) tables.kept_are still.floors_stand still.known)) tables

tied-quiet : (o : Opening) (h : List Entry) (s : DeskState) (log : LogView) (told : Option Rows) (mark count : ℕ) (e : Entry) → IsTied o h s log told mark count → IsStep o h s e s → IsStill o h e → IsTied o (h ++ e ∷ []) s log told mark count
tied-quiet o h s log told mark count e tied step still = record {
  sound = tied.sound;
  reaches = leads-push o [] (start_of o) h e s s tied.reaches step;
  good = good-push o h e tied.good step.place step.entered still.no_fault;
  log_is = rw (floors-push o h e, rows-more o h e still.no_fault) (log-quiet (all_floors o h) (all_rows o h) log (row_of_entry e) (floor_told e.answer.reply) tied.log_is still.floors_stand still.known);
  tables = quiet-tables o h s e told still tied.tables;
  counted = omega (arith, tied.counted, no-more h e still.no_fault);
}

if-none : (b : Bool) (rows : List DeckRow) → rows ≡ [] → (if b then rows else []) ≡ []
if-none true rows is = is
if-none false rows is = refl

-- the number is below its floor
pub tied-below : (o : Opening) (h : List Entry) (s : DeskState) (log : LogView) (told : Option Rows) (mark count floor : ℕ) (e : Entry)
    → IsTied o h s log told mark count → IsStep o h s e s → nat_lt e.request.number (floor_of o h e.request.job) ≡ true → e.answer.reply ≡ replies.Below floor
    → IsTied o (h ++ e ∷ []) s log told mark count
tied-below o h s log told mark count floor e tied step below reply =
    tied-quiet o h s log told mark count e tied step (record { no_fault = rw reply refl; floors_stand = rw reply tt; no_decks = if-none (e.answer.first == e.answer.place) _ (rw reply refl); known = inl below })

-- the number was used for another op
pub tied-reused : (o : Opening) (h : List Entry) (s : DeskState) (log : LogView) (told : Option Rows) (mark count : ℕ) (e : Entry) (row : KeptRow)
    → IsTied o h s log told mark count → IsStep o h s e s → kept_for o h e.request.job e.request.number ≡ Some row → e.answer.reply ≡ replies.Reused row.place
    → IsTied o (h ++ e ∷ []) s log told mark count
tied-reused o h s log told mark count e row tied step found reply =
    tied-quiet o h s log told mark count e tied step (record { no_fault = rw reply refl; floors_stand = rw reply tt; no_decks = if-none (e.answer.first == e.answer.place) _ (rw reply refl); known = inr (row, found) })

-- the kept reply again
pub tied-repeat : (o : Opening) (h : List Entry) (s : DeskState) (log : LogView) (told : Option Rows) (mark count : ℕ) (e : Entry) (row : KeptRow)
    → IsTied o h s log told mark count → IsStep o h s e s → kept_for o h e.request.job e.request.number ≡ Some row → e.answer.reply ≡ row.reply → e.answer.first ≡ row.place
    → IsTied o (h ++ e ∷ []) s log told mark count
tied-repeat o h s log told mark count e row tied step found reply first =
    let good = kept-good o h s log told mark count e.request.job e.request.number row tied found in
    let later : (e.answer.first == e.answer.place) ≡ false = grind (arith, nat_tests, first, step.place, good.place) in
    tied-quiet o h s log told mark count e tied step (record { no_fault = rw reply good.no_fault; floors_stand = rw reply good.floors_stand; no_decks = rw later refl; known = inr (row, found) })

-- The keeper failed.

fault-tables-at : (o : Opening) (h : List Entry) (s : DeskState) (e : Entry) (rows : Rows) → decks_of_entry e ≡ [] → all_floors o (h ++ e ∷ []) ≡ all_floors o h → all_rows o (h ++ e ∷ []) ≡ all_rows o h
    → IsTables o h s rows → IsTables o (h ++ e ∷ []) s rows
fault-tables-at o h s e rows decks floors_same rows_same tables = tables-quiet o h s e rows decks (rw (floors_same, rows_same) tables.kept_are) tables

fault-tables : (o : Opening) (h : List Entry) (s : DeskState) (e : Entry) (before after : Option Rows) → decks_of_entry e ≡ [] → all_floors o (h ++ e ∷ []) ≡ all_floors o h → all_rows o (h ++ e ∷ []) ≡ all_rows o h
    → IfSome before (λ rows. IsTables o h s rows) → Stays before after → IfSome after (λ rows. IsTables o (h ++ e ∷ []) s rows)
fault-tables o h s e before None decks floors_same rows_same tables stays = tt
fault-tables o h s e before (Some rows) decks floors_same rows_same tables stays =
    fault-tables-at o h s e rows decks floors_same rows_same (tables-same o h s stays.0 rows stays.2 (rw stays.1 at tables))

one-more : (h : List Entry) (e : Entry) → is_fault e.answer.reply ≡ true → faults_in (h ++ e ∷ []) ≡ faults_in h + 1
one-more h e fault = faults-push h e ∙ rw fault refl

pub tied-fault : (o : Opening) (h : List Entry) (s : DeskState) (log log' : LogView) (before after : Option Rows) (mark old new : ℕ) (e : Entry)
    → IsTied o h s log before mark old → IsStep o h s e s → e.answer.reply ≡ replies.KeeperFault → IsUntouched before after log log' → Rose old new
    → IsTied o (h ++ e ∷ []) s log' after mark new
tied-fault o h s log log' before after mark old new e tied step reply untouched rose =
    let fault : is_fault e.answer.reply ≡ true = rw reply refl in
    let floors_same : all_floors o (h ++ e ∷ []) ≡ all_floors o h = floors-push o h e ∙ (rw reply (append-nil (all_floors o h))) in
    let rows_same : all_rows o (h ++ e ∷ []) ≡ all_rows o h = rows-fault o h e fault in
    let longer : length (h ++ e ∷ []) ≡ length h + 1 = length-append h (e ∷ []) in
    let decks : decks_of_entry e ≡ [] = if-none (e.answer.first == e.answer.place) _ (rw reply refl) in
    record {
      sound = tied.sound;
      reaches = leads-push o [] (start_of o) h e s s tied.reaches step;
      good = rw rows_same
          (each-weaker _ _ (λ row one. good-more (floor_of o h) (floor_of o (h ++ e ∷ [])) (o.base + length h) (o.base + length (h ++ e ∷ [])) row (λ job. floor-more o h (e ∷ []) job) (omega (arith, longer)) one) (all_rows o h) tied.good);
      log_is = rw (floors_same, rows_same, untouched.log_is) tied.log_is;
      tables = fault-tables o h s e before after decks floors_same rows_same tied.tables untouched.stays;
      counted = omega (arith, tied.counted, rose, one-more h e fault);
    }
