-- The steps that a core makes.
use Rattle.std.proofs.Common.{◌≡◌, ◌≤◌, ◌<◌, ℕ, ◌+◌, ◌^◌, Bool, true, false, cond, List, [], ◌∷◌, ◌++◌, Option, None}
use Rattle.std.proofs.Common.{Some, length, refl, sym, ap, ◌∙◌, arith, inl, inr}
use Rattle.std.specs.Prelude.{◌&&◌, ◌||◌, ◌⊎◌, nat_lt, nat_le, count_by, option_map}
use Rattle.std.proofs.lemmas.Bool.Decides.{nat_tests}
use Rattle.desk_common.specs.Causes.{Rose}
use Rattle.sms_construct.specs.Configuration.{Configuration}
use Rattle.sms_construct.specs.declared.entry.Answer.{Answer}
use Rattle.sms_construct.specs.declared.entry.Entry.{Entry}
use Rattle.sms_construct.specs.declared.reply.Reply.{Reply}
use Rattle.sms_construct.specs.declared.reply.Reply.TheVariants as replies
use Rattle.sms_construct.specs.declared.request.Op.{Op}
use Rattle.sms_construct.specs.declared.request.Request.{Request}
use Rattle.sms_keeper.specs.declared.effect.Effect.{Effect}
use Rattle.sms_keeper.specs.declared.kept.KeptReply.{KeptReply}
use Rattle.sms_keeper.specs.declared.kept_row.KeptRow.{KeptRow}
use Rattle.sms_keeper.specs.declared.rows.Rows.{Rows}
use Rattle.sms_keeper.specs.Log.{LogView, floor_in, is_below, kept_in, key_of}
use Rattle.desk_law.specs.State.{DeskState, Opening}
use Rattle.desk_law.specs.Limits.{most_activations, most_entries}
use Rattle.desk_law.specs.Kept.{all_floors, all_rows, floor_of, is_entered, is_fault, kept_for}
use Rattle.desk_law.specs.Rule.{Rule}
use Rattle.desk_law.specs.Step.{IsFault, IsStep, RepeatsReply, ReusesNumber, activates, is_activation}
use Rattle.desk_records.specs.Effects.{IsDecided, change_of, state_with}
use Rattle.desk_records.specs.Full.{is_full_for}
use Rattle.desk_records.specs.Logged.{IsDone, IsUntouched}
use Rattle.desk_records.specs.Recall.{IsUnknown, Recalls, RecallsFloor, RecallsOther, RecallsReply}
use Rattle.desk_records.specs.Tied.{IsEntered, IsLogOf, IsReady, IsTied, reply_of_row}
use Rattle.desk_records.proofs.EffectLemmas.{kept-entered, matches-floors, rule-floors}
use Rattle.desk_records.proofs.TableLemmas.{count-push}
use Rattle.desk_records.proofs.TiedLemmas.{kept-good, tied-below, tied-few, tied-fault, tied-fresh, tied-repeat}
use Rattle.desk_records.proofs.TiedLemmas.{tied-reused}

-- Room.

room-at : (a b c : Bool) → (a || (b && c)) ≡ false → (a ≡ false) × (b ≡ true → c ≡ false)
room-at true b c is = absurd cc
room-at false true c is = (refl, λ yes. is)
room-at false false c is = (refl, λ yes. absurd (cc yes))

-- a journal that isn't full has a place for an entry of this op
pub not-full : (h : List Entry) (op : Op) → is_full_for h op ≡ false → (length h < most_entries) × (is_activation op ≡ true → count_by activates h < most_activations)
not-full h op is =
    let parts = room-at (nat_le most_entries (length h)) (is_activation op) (nat_le most_activations (count_by activates h)) is in
    (grind (arith, nat_tests, parts.0), λ yes. let small : nat_le most_activations (count_by activates h) ≡ false = parts.1 yes in grind (arith, nat_tests, small))

-- the entries that ask for an activation, with one entry more
pub activations-push : (h : List Entry) (e : Entry) → count_by activates (h ++ e ∷ []) ≡ count_by activates h + cond (activates e) 1 0
activations-push h e = count-push activates h e

-- the next place is a number of 64 bits
pub place-fits : (o : Opening) (h : List Entry) (s : DeskState) (log : LogView) (told : Option Rows) (mark count : ℕ) (op : Op)
    → IsTied o h s log told mark count → is_full_for h op ≡ false → o.base + length h + 1 < 2 ^ 64
place-fits o h s log told mark count op tied not_full = omega (arith, tied.sound.base_fits, (not-full h op not_full).0)

-- the number of the next activation is one of 64 bits
pub activations-fit : (o : Opening) (h : List Entry) (s : DeskState) (log : LogView) (told : Option Rows) (mark count : ℕ) (op : Op)
    → IsTied o h s log told mark count → is_full_for h op ≡ false → s.activations + 1 < 2 ^ 64
activations-fit o h s log told mark count op tied not_full = omega (arith, tied-few o h s log told mark count tied, tied.sound.decks_fit, (not-full h op not_full).0)

-- What the log says of the history.

pub log-below : (o : Opening) (h : List Entry) (log : LogView) (request : Request) (b : Bool) → IsLogOf (all_floors o h) (all_rows o h) log → is_below log request ≡ b → nat_lt request.number (floor_of o h request.job) ≡ b
log-below o h log request b is below = rw (is.floors_are request.job) at below

map-some : (found : Option KeptRow) (kept : KeptReply) → option_map reply_of_row found ≡ Some kept → (row : KeptRow) × (found ≡ Some row) × (kept ≡ reply_of_row row)
map-some None kept is = absurd cc
map-some (Some row) kept is = (row, refl, (let same : reply_of_row row ≡ kept = cc in sym same))

map-none : (found : Option KeptRow) → option_map reply_of_row found ≡ None → found ≡ None
map-none None is = refl
map-none (Some row) is = absurd cc

-- the row whose reply the log keeps
log-kept : (o : Opening) (h : List Entry) (log : LogView) (request : Request) (kept : KeptReply) → IsLogOf (all_floors o h) (all_rows o h) log → is_below log request ≡ false
    → kept_in (key_of request) log.kept ≡ Some kept → (row : KeptRow) × (kept_for o h request.job request.number ≡ Some row) × (kept ≡ reply_of_row row)
log-kept o h log request kept is above found =
    map-some (kept_for o h request.job request.number) kept (sym (is.replies_are request.job request.number (log-below o h log request false is above)) ∙ found)

-- the history keeps nothing for an unknown number
pub log-none : (o : Opening) (h : List Entry) (log : LogView) (request : Request) → IsLogOf (all_floors o h) (all_rows o h) log → IsUnknown log request → kept_for o h request.job request.number ≡ None
log-none o h log request is unknown =
    map-none (kept_for o h request.job request.number) (sym (is.replies_are request.job request.number (log-below o h log request false is unknown.above)) ∙ unknown.none)

-- A recalled answer.

-- an entry that joins the journal and changes nothing else
pub record IsQuiet (o : Opening) (h : List Entry) (s : DeskState) (log : LogView) (told : Option Rows) (mark count : ℕ) (e : Entry) : Type 0 where
  pub entered : IsEntered o h s e s log told mark count
  pub no_fault : is_fault e.answer.reply ≡ false

below-step : (o : Opening) (h : List Entry) (s : DeskState) (log : LogView) (told : Option Rows) (mark count : ℕ) (e : Entry)
    → IsReady o h s log told mark count e.answer.place e.request → RecallsFloor log e.request e.answer → IsQuiet o h s log told mark count e
below-step o h s log told mark count e ready recalls =
    let below = log-below o h log e.request true ready.tied.log_is recalls.below in
    let reply : e.answer.reply ≡ replies.Below (floor_of o h e.request.job) = rw (ready.tied.log_is.floors_are e.request.job) at recalls.reply_is in
    let room = not-full h e.request.op ready.not_full in
    let step : IsStep o h s e s = record {
      few = room.0;
      few_activations = room.1;
      number = ready.number;
      sound = ready.sound;
      place = ready.place_is;
      entered = rw reply refl;
      answer = rw below (record { reply_is = reply; first_is = recalls.first_is; after_is = refl });
    } in
    record { entered = record { step = step; tied = tied-below o h s log told mark count (floor_of o h e.request.job) e ready.tied step below reply }; no_fault = rw reply refl }

-- the step of a number that has a row
kept-step : (o : Opening) (h : List Entry) (s : DeskState) (log : LogView) (told : Option Rows) (mark count : ℕ) (e : Entry) (row : KeptRow) → IsReady o h s log told mark count e.answer.place e.request
    → is_below log e.request ≡ false → kept_for o h e.request.job e.request.number ≡ Some row → is_entered e.answer.reply ≡ true → RepeatsReply row e ⊎ ReusesNumber row e → IsStep o h s e s
kept-step o h s log told mark count e row ready above found entered answer =
    let room = not-full h e.request.op ready.not_full in record {
      few = room.0;
      few_activations = room.1;
      number = ready.number;
      sound = ready.sound;
      place = ready.place_is;
      entered = entered;
      answer = rw (log-below o h log e.request false ready.tied.log_is above, found) (record { answer = answer; after_is = refl });
    }

repeat-step : (o : Opening) (h : List Entry) (s : DeskState) (log : LogView) (told : Option Rows) (mark count : ℕ) (e : Entry)
    → IsReady o h s log told mark count e.answer.place e.request → RecallsReply log e.request e.answer → IsQuiet o h s log told mark count e
repeat-step o h s log told mark count e ready recalls =
    let there = log-kept o h log e.request recalls.same.kept ready.tied.log_is recalls.above recalls.same.found_is in
    let row = there.0 in
    let good = kept-good o h s log told mark count e.request.job e.request.number row ready.tied there.1 in
    let op : e.request.op ≡ row.request.op = recalls.same.same ∙ ap (λ (k : KeptReply). k.op) there.2 in
    let reply : e.answer.reply ≡ row.reply = recalls.same.reply_is ∙ ap (λ (k : KeptReply). k.reply) there.2 in
    let first : e.answer.first ≡ row.place = recalls.same.first_is ∙ ap (λ (k : KeptReply). k.place) there.2 in
    let step = kept-step o h s log told mark count e row ready recalls.above there.1 (rw reply good.entered) (inl (record { same = op; reply_is = reply; first_is = first })) in
    record { entered = record { step = step; tied = tied-repeat o h s log told mark count e row ready.tied step there.1 reply first }; no_fault = rw reply good.no_fault }

reuse-step : (o : Opening) (h : List Entry) (s : DeskState) (log : LogView) (told : Option Rows) (mark count : ℕ) (e : Entry)
    → IsReady o h s log told mark count e.answer.place e.request → RecallsOther log e.request e.answer → IsQuiet o h s log told mark count e
reuse-step o h s log told mark count e ready recalls =
    let there = log-kept o h log e.request recalls.other.kept ready.tied.log_is recalls.above recalls.other.found_is in
    let row = there.0 in
    let other : e.request.op ≡ row.request.op → ⊥ = λ same. recalls.other.other (same ∙ sym (ap (λ (k : KeptReply). k.op) there.2)) in
    let place : recalls.place ≡ row.place = recalls.other.first_is ∙ ap (λ (k : KeptReply). k.place) there.2 in
    let reply : e.answer.reply ≡ replies.Reused row.place = recalls.reply_is ∙ ap replies.Reused place in
    let step = kept-step o h s log told mark count e row ready recalls.above there.1 (rw reply refl) (inr (record { other = other; reply_is = reply; first_is = recalls.first_is })) in
    record { entered = record { step = step; tied = tied-reused o h s log told mark count e row ready.tied step there.1 reply }; no_fault = rw reply refl }

quiet-entry : (o : Opening) (h : List Entry) (s : DeskState) (log : LogView) (told : Option Rows) (mark count : ℕ) (e : Entry)
    → IsReady o h s log told mark count e.answer.place e.request → Recalls log e.request e.answer → IsQuiet o h s log told mark count e
quiet-entry o h s log told mark count e ready (inl below) = below-step o h s log told mark count e ready below
quiet-entry o h s log told mark count e ready (inr (inl same)) = repeat-step o h s log told mark count e ready same
quiet-entry o h s log told mark count e ready (inr (inr other)) = reuse-step o h s log told mark count e ready other

-- the answer of the log is a lawful step, which changes nothing: the entry may hold any copies of request and answer
pub quiet-step : (o : Opening) (h : List Entry) (s : DeskState) (log : LogView) (told : Option Rows) (mark count place : ℕ) (request entered : Request) (answer answered : Answer)
    → IsReady o h s log told mark count place request → Recalls log request answer → answer.place ≡ place → entered ≡ request → answered ≡ answer
    → IsQuiet o h s log told mark count (record { request = entered; answer = answered })
quiet-step o h s log told mark count place request entered answer answered ready recalls there p q =
    let here : IsReady o h s log told mark count answer.place request = rw there ready in
    rw (p, q) (quiet-entry o h s log told mark count (record { request = request; answer = answer }) here recalls)

-- A fresh answer.

fresh-step : (o : Opening) (h : List Entry) (s after : DeskState) (log : LogView) (told : Option Rows) (mark count : ℕ) (e : Entry) → IsReady o h s log told mark count e.answer.place e.request
    → e.answer.first ≡ e.answer.place → IsUnknown log e.request → is_entered e.answer.reply ≡ true
    → IsFault s e after ⊎ Rule (floor_of o h) s e.request.job e.request.op e.answer.reply after → IsStep o h s e after
fresh-step o h s after log told mark count e ready first unknown entered answer =
    let room = not-full h e.request.op ready.not_full in record {
      few = room.0;
      few_activations = room.1;
      number = ready.number;
      sound = ready.sound;
      place = ready.place_is;
      entered = entered;
      answer = rw (log-below o h log e.request false ready.tied.log_is unknown.above, log-none o h log e.request ready.tied.log_is unknown) (record { first_is = first; answer = answer });
    }

made-entry : (o : Opening) (h : List Entry) (s : DeskState) (log log' : LogView) (told told' : Option Rows) (mark old new : ℕ) (e : Entry) (effect : Effect) (config : Option Configuration)
    → IsReady o h s log told mark old e.answer.place e.request → e.answer.first ≡ e.answer.place → IsUnknown log e.request
    → IsDecided (λ job. floor_in job log.floors) s e.request e.answer.reply effect config → IsDone (change_of e effect) told told' log log' → old ≤ new
    → IsEntered o h s e (state_with s effect config) log' told' mark new
made-entry o h s log log' told told' mark old new e effect config ready first unknown decided done later =
    let floors = ready.tied.log_is.floors_are in
    let rule = rule-floors (λ job. floor_in job log.floors) (floor_of o h) s e.request.job e.request.op e.answer.reply (state_with s effect config) floors decided.rule in
    let match_ = matches-floors (λ job. floor_in job log.floors) (floor_of o h) e.request.op e.answer.reply effect floors decided.matches in
    let step = fresh-step o h s (state_with s effect config) log told mark old e ready first unknown (kept-entered e.answer.reply match_.kept) (inr rule) in
    record { step = step; tied = tied-fresh o h s log log' told told' mark old new e effect config ready.tied step match_ (log-none o h log e.request ready.tied.log_is unknown) first done later }

-- the change of a fresh number was made: the entry may hold any copies of request and reply
pub made-step : (o : Opening) (h : List Entry) (s after : DeskState) (log log' : LogView) (told told' : Option Rows) (mark old new place : ℕ) (request committed entered : Request) (reply answered : Reply)
    (effect : Effect) (config : Option Configuration)
    → IsReady o h s log told mark old place request → IsUnknown log request → IsDecided (λ job. floor_in job log.floors) s request reply effect config
    → committed ≡ request → entered ≡ request → answered ≡ reply → after ≡ state_with s effect config
    → IsDone (record { place = place; request = committed; reply = reply; effect = effect }) told told' log log' → old ≤ new
    → IsEntered o h s (record { request = entered; answer = record { place = place; first = place; reply = answered } }) after log' told' mark new
made-step o h s after log log' told told' mark old new place request committed entered reply answered effect config ready unknown decided p q r t done later =
    let e : Entry = record { request = request; answer = record { place = place; first = place; reply = reply } } in
    let made : IsDone (change_of e effect) told told' log log' = rw p at done in
    rw (q, r, t) (made-entry o h s log log' told told' mark old new e effect config ready refl unknown decided made later)

failed-entry : (o : Opening) (h : List Entry) (s : DeskState) (log log' : LogView) (told told' : Option Rows) (mark old new : ℕ) (e : Entry)
    → IsReady o h s log told mark old e.answer.place e.request → e.answer.first ≡ e.answer.place → IsUnknown log e.request → e.answer.reply ≡ replies.KeeperFault
    → IsUntouched told told' log log' → Rose old new → IsEntered o h s e s log' told' mark new
failed-entry o h s log log' told told' mark old new e ready first unknown reply untouched rose =
    let step = fresh-step o h s s log told mark old e ready first unknown (rw reply refl) (inl (record { reply_is = reply; after_is = refl })) in
    record { step = step; tied = tied-fault o h s log log' told told' mark old new e ready.tied step reply untouched rose }

-- the keeper failed at a fresh number, and nothing was made
pub failed-step : (o : Opening) (h : List Entry) (s after : DeskState) (log log' : LogView) (told told' : Option Rows) (mark old new place : ℕ) (request entered : Request)
    → IsReady o h s log told mark old place request → IsUnknown log request → entered ≡ request → after ≡ s → IsUntouched told told' log log' → Rose old new
    → IsEntered o h s (record { request = entered; answer = record { place = place; first = place; reply = replies.KeeperFault } }) after log' told' mark new
failed-step o h s after log log' told told' mark old new place request entered ready unknown q t untouched rose =
    let e : Entry = record { request = request; answer = record { place = place; first = place; reply = replies.KeeperFault } } in
    rw (q, t) (failed-entry o h s log log' told told' mark old new e ready refl unknown refl untouched rose)
