-- A history without reserved requests: the job of space management has no kept reply and no floor.
use Rattle.std.proofs.Common.{◌≡◌, ◌⊎◌, ◌&&◌, ◌||◌, ℕ, not, Bool, true, false, List, [], ◌∷◌, ◌++◌, refl, sym, ap}
use Rattle.std.proofs.Common.{subst, append-nil, append_assoc, inl, inr}
use Rattle.std.specs.Prelude.{None, Some, bytes_eq, find}
use Rattle.std.specs.List.{list_all}
use Rattle.std.proofs.lemmas.Bool.{cases_Bool}
use Rattle.sms_construct.specs.declared.entry.Answer.{Answer}
use Rattle.sms_construct.specs.declared.entry.Entry.{Entry}
use Rattle.sms_construct.specs.declared.reply.Reply.{Reply}
use Rattle.sms_construct.specs.declared.request.Op.{Op}
use Rattle.sms_construct.specs.declared.request.Op.TheVariants as ops
use Rattle.sms_construct.specs.declared.request.Request.{Request}
use Rattle.sms_keeper.specs.declared.floor.Floor.{Floor}
use Rattle.sms_keeper.specs.declared.kept_row.KeptRow.{KeptRow}
use Rattle.sms_keeper.specs.Tables.{is_floor_of, is_reply_of}
use Rattle.desk_law.specs.State.{DeskState, start_of}
use Rattle.desk_law.specs.Kept.{floor_of, floor_told, floors_of, greatest_floor, is_entered, is_fault, row_of_entry}
use Rattle.desk_law.specs.Kept.{rows_of, rows_of_entry}
use Rattle.desk_law.specs.Records.{empty_opening}
use Rattle.desk_law.specs.Rule.{Rule}
use Rattle.desk_law.specs.Step.{IsFault, IsStep, RepeatsReply, ReusesNumber}
use Rattle.desk_law.specs.History.{IsLegal, Leads}
use Rattle.desk_law.proofs.StepLemmas.{on-step}
use Rattle.sms_core.specs.Core.{entry_of}
use Rattle.sms_script.specs.Script.{items_of}
use Rattle.sms_script.specs.declared.item.Item.{Item}
use Rattle.desk_workers.specs.Phases.{entries_for}
use Rattle.desk_calls.specs.Run.{AnswersInOrder}
use Rattle.sms_manage.specs.Managed.{IsUnused, manager}
use Rattle.manage_calls.specs.Reserved.{are_free, is_reserved, purges_manager}
use Rattle.manage_calls.proofs.FloorlessLemmas.{rule-floorless}

-- no request of these is reserved
abbrev pub AreFree : List Entry → Type 0
AreFree [] = Unit {0}
AreFree (e ∷ es) = (is_reserved e.request ≡ false) × AreFree es

-- none of the floors is that of the job
abbrev NoFloors : List Floor → Type 0
NoFloors [] = Unit {0}
NoFloors (row ∷ rows) = (is_floor_of manager row ≡ false) × NoFloors rows

-- no reply of these tells one
abbrev AreQuiet : List Entry → Type 0
AreQuiet [] = Unit {0}
AreQuiet (e ∷ es) = NoFloors (floor_told e.answer.reply) × AreQuiet es

-- Lists of such.

floors-both : (a b : List Floor) → NoFloors a → NoFloors b → NoFloors (a ++ b)
floors-both [] b one two = two
floors-both (row ∷ a) b one two = (one.0, floors-both a b one.1 two)

no-greatest : (floors : List Floor) → NoFloors floors → greatest_floor manager floors ≡ 0
no-greatest [] none = refl
no-greatest (row ∷ rows) none = rw none.0 (no-greatest rows none.1)

quiet-floors : (h : List Entry) → AreQuiet h → NoFloors (floors_of h)
quiet-floors [] quiet = tt
quiet-floors (e ∷ h) quiet = floors-both (floor_told e.answer.reply) (floors_of h) quiet.0 (quiet-floors h quiet.1)

quiet-push : (h : List Entry) (e : Entry) → AreQuiet h → NoFloors (floor_told e.answer.reply) → AreQuiet (h ++ e ∷ [])
quiet-push [] e quiet one = (one, tt)
quiet-push (x ∷ h) e quiet one = (quiet.0, quiet-push h e quiet.1 one)

-- Where a reply is from.

or-false : (a b : Bool) → (a || b) ≡ false → (a ≡ false) × (b ≡ false)
or-false false b is = (refl, is)
or-false true b is = absurd cc

-- the reply of a kept row tells no floor of the job
row-quiet-at : (p : KeptRow → Bool) (e : Entry) (rest : List KeptRow) (row : KeptRow) (b : Bool) → is_fault e.answer.reply ≡ b → NoFloors (floor_told e.answer.reply)
    → (find p rest ≡ Some row → NoFloors (floor_told row.reply)) → find p (rows_of_entry e ++ rest) ≡ Some row → NoFloors (floor_told row.reply)
row-quiet-at p e rest row true is quiet later found = later (rw is at found)
row-quiet-at p e rest row false is quiet later found = elim (cases_Bool (p (row_of_entry e))) [
  | inl takes ↦
      let here : Some (row_of_entry e) ≡ Some row = rw (is, takes) at found in
      let same : row_of_entry e ≡ row = cc in
      subst (λ (r : KeptRow). NoFloors (floor_told r.reply)) same quiet
  | inr passes ↦ let there : find p rest ≡ Some row = rw (is, passes) at found in later there
]

row-quiet : (p : KeptRow → Bool) (h : List Entry) (row : KeptRow) → AreQuiet h → find p (rows_of h) ≡ Some row → NoFloors (floor_told row.reply)
row-quiet p [] row quiet found = absurd cc
row-quiet p (e ∷ h) row quiet found = row-quiet-at p e (rows_of h) row _ refl quiet.0 (row-quiet p h row quiet.1) found

floorless : (reply : Reply) → floor_told reply ≡ [] → NoFloors (floor_told reply)
floorless reply none = rw none tt

-- the reply to a request that isn't reserved
rule-quiet : (old_floor : List ℕ → ℕ) (s : DeskState) (job : List ℕ) (op : Op) (reply : Reply) (after : DeskState) → purges_manager op ≡ false → Rule old_floor s job op reply after → NoFloors (floor_told reply)
rule-quiet old_floor s job (ops.Purge other floor) reply after free rule = rw rule.reply_is (free, tt)
rule-quiet old_floor s job (ops.Alloc alloc) reply after free rule = floorless reply (rule-floorless old_floor s job (ops.Alloc alloc) reply after tt rule)
rule-quiet old_floor s job (ops.Activate deck) reply after free rule = floorless reply (rule-floorless old_floor s job (ops.Activate deck) reply after tt rule)
rule-quiet old_floor s job (ops.Extend dsn) reply after free rule = floorless reply (rule-floorless old_floor s job (ops.Extend dsn) reply after tt rule)
rule-quiet old_floor s job (ops.Delete dsn) reply after free rule = floorless reply (rule-floorless old_floor s job (ops.Delete dsn) reply after tt rule)
rule-quiet old_floor s job (ops.Used dsn tracks) reply after free rule = floorless reply (rule-floorless old_floor s job (ops.Used dsn tracks) reply after tt rule)
rule-quiet old_floor s job (ops.Release dsn) reply after free rule = floorless reply (rule-floorless old_floor s job (ops.Release dsn) reply after tt rule)
rule-quiet old_floor s job (ops.Display target) reply after free rule = floorless reply (rule-floorless old_floor s job (ops.Display target) reply after tt rule)
rule-quiet old_floor s job (ops.Vary target action) reply after free rule = floorless reply (rule-floorless old_floor s job (ops.Vary target action) reply after tt rule)

step-quiet : (h : List Entry) (s : DeskState) (e : Entry) (after : DeskState) → AreQuiet h → is_reserved e.request ≡ false → IsStep empty_opening h s e after → NoFloors (floor_told e.answer.reply)
step-quiet h s e after quiet free step =
    on-step empty_opening h s e after (NoFloors (floor_told e.answer.reply)) step
    (λ below. floorless e.answer.reply (ap floor_told below.reply_is))
    (λ fresh. answered fresh.answer)
    (λ row found repeat. repeated row found repeat.answer)
  where
    answered : IsFault s e after ⊎ Rule (floor_of empty_opening h) s e.request.job e.request.op e.answer.reply after → NoFloors (floor_told e.answer.reply)
    answered (inl fault) = floorless e.answer.reply (ap floor_told fault.reply_is)
    answered (inr rule) = rule-quiet (floor_of empty_opening h) s e.request.job e.request.op e.answer.reply after (or-false (bytes_eq e.request.job manager) (purges_manager e.request.op) free).1 rule

    repeated : (row : KeptRow) → find (is_reply_of e.request.job e.request.number) (rows_of h) ≡ Some row → RepeatsReply row e ⊎ ReusesNumber row e → NoFloors (floor_told e.answer.reply)
    repeated row found (inl same) = rw same.reply_is (row-quiet (is_reply_of e.request.job e.request.number) h row quiet found)
    repeated row found (inr other) = floorless e.answer.reply (ap floor_told other.reply_is)

leads-quiet : (h : List Entry) (s : DeskState) (es : List Entry) (after : DeskState) → AreQuiet h → AreFree es → Leads empty_opening h s es after → AreQuiet (h ++ es)
leads-quiet h s [] after quiet free leads = rw (append-nil h) quiet
leads-quiet h s (e ∷ es) after quiet free leads =
    subst AreQuiet (append_assoc h (e ∷ []) es)
    (leads-quiet (h ++ e ∷ []) leads.0 es after (quiet-push h e quiet (step-quiet h s e leads.0 quiet free.0 leads.1)) free.1 leads.2)

-- The rows of the entries are of other jobs.

no-row-at : (number : ℕ) (e : Entry) (rest : List KeptRow) (b : Bool) → is_fault e.answer.reply ≡ b → bytes_eq e.request.job manager ≡ false → find (is_reply_of manager number) rest ≡ None
    → find (is_reply_of manager number) (rows_of_entry e ++ rest) ≡ None
no-row-at number e rest true is other none = rw is none
no-row-at number e rest false is other none = rw is (rw other none)

no-row : (number : ℕ) (h : List Entry) → AreFree h → find (is_reply_of manager number) (rows_of h) ≡ None
no-row number [] free = refl
no-row number (e ∷ h) free = no-row-at number e (rows_of h) _ refl (or-false (bytes_eq e.request.job manager) (purges_manager e.request.op) free.0).0 (no-row number h free.1)

-- the job has neither
pub free-unused : (h : List Entry) → AreFree h → IsLegal empty_opening h → IsUnused empty_opening h
free-unused h free legal = record {
  floor = no-greatest (floors_of h) (quiet-floors h (leads-quiet [] (start_of empty_opening) h legal.0 tt free legal.1));
  kept = λ number. no-row number h free;
}

-- The entries of answers to items.

entry-free : (request : Request) (answer : Answer) (rest : List Entry) → is_reserved request ≡ false → AreFree rest → AreFree (entry_of request answer ++ rest)
entry-free request answer rest free more = elim (cases_Bool (is_entered answer.reply)) [
  | inl is ↦ rw is (free, more)
  | inr isnt ↦ rw isnt more
]

not-false : (a b : Bool) → (not a && b) ≡ true → (a ≡ false) × (b ≡ true)
not-false false b is = (refl, is)
not-false true b is = absurd cc

entries-free : (answers : List Answer) (items : List Item) → list_all (λ item. not (is_reserved item.request)) items ≡ true → AreFree (entries_for answers items)
entries-free [] items free = tt
entries-free (a ∷ answers) [] free = tt
entries-free (a ∷ answers) (item ∷ items) free =
    let both = not-false (is_reserved item.request) (list_all (λ i. not (is_reserved i.request)) items) free in
    entry-free item.request a (entries_for answers items) both.0 (entries-free answers items both.1)

-- behind a run of such a script the job is unused
pub run-unused : (phases : List (List Item)) (answers : List Answer) (h : List Entry) → are_free phases ≡ true → AnswersInOrder (items_of phases) answers [] h → IsLegal empty_opening h → IsUnused empty_opening h
run-unused phases answers h free done legal = free-unused h (subst AreFree (sym done.once) (entries-free answers (items_of phases) free)) legal
