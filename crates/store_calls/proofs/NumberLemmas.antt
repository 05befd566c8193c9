-- The numbers that a job may still use.
use Rattle.std.proofs.Common.{◌≡◌, ◌≤◌, ◌<◌, ◌&&◌, ℕ, List, ◌∷◌, false, true, inl, inr, refl, arith, Option, Some, None}
use Rattle.std.specs.Prelude.{IfSome, bytes_eq, find, max}
use Rattle.std.proofs.lemmas.Bool.{cases_Bool}
use Rattle.std.proofs.lemmas.Bool.Decides.{nat_tests}
use Rattle.sms_keeper.specs.Tables.{is_floor_of, is_reply_of}
use Rattle.sms_keeper.specs.declared.floor.Floor.{Floor}
use Rattle.sms_keeper.specs.declared.kept_row.KeptRow.{KeptRow}
use Rattle.sms_keeper.specs.declared.rows.Rows.{Rows}
use Rattle.desk_law.specs.Kept.{greatest_floor}
use Rattle.sms_construct.specs.declared.request.Op.TheVariants as ops
use Rattle.sms_construct.specs.declared.request.Request.{Request}
use Rattle.store_calls.specs.Checked.{IsFreeFrom, activation, administrator}
use Rattle.store_calls.specs.Inner.Numbers.{floor_in, is_from}

max_le : (a b x : ℕ) → a ≤ x → b ≤ x → max a b ≤ x
max_le a b x one two = grind (arith, nat_tests, one, two)

-- the greatest floor with one row more
pub greatest_le : (job : List ℕ) (row : Floor) (rest : List Floor) (x : ℕ) → floor_in job row ≤ x → greatest_floor job rest ≤ x → greatest_floor job (row ∷ rest) ≤ x
greatest_le job row rest x one others = elim (cases_Bool (is_floor_of job row)) [
  | inl own ↦ let here : row.floor ≤ x = rw own at one in rw own (max_le row.floor (greatest_floor job rest) x here others)
  | inr other ↦ rw other others
]

-- a row before the number isn't the reply of it or of a later one
pub other_row : (job : List ℕ) (n first : ℕ) (row : KeptRow) → is_from job first row ≡ false → first ≤ n → is_reply_of job n row ≡ false
other_row job n first row off later = elim (cases_Bool (bytes_eq row.job job)) [
  | inl own ↦ let before = rw own at off in rw own (grind (arith, nat_tests, before, later))
  | inr other ↦ rw other refl
]

-- nor is a row whose number is passed
pub passed_row : (job : List ℕ) (n : ℕ) (row : KeptRow) → row.number < n → is_reply_of job n row ≡ false
passed_row job n row passed = elim (cases_Bool (bytes_eq row.job job)) [
  | inl own ↦ rw own (grind (arith, nat_tests, passed))
  | inr other ↦ rw other refl
]

pub find_past : (job : List ℕ) (n : ℕ) (row : KeptRow) (rest : List KeptRow) → is_reply_of job n row ≡ false → find (is_reply_of job n) rest ≡ None → find (is_reply_of job n) (row ∷ rest) ≡ None
find_past job n row rest other none = rw other none

-- the number is free
pub free_case : (r : Option ℕ) (job : List ℕ) (rows : Rows) (least : ℕ) → 1 ≤ least → greatest_floor job rows.floors ≤ least → IfSome r (λ first. least ≤ first)
    → IfSome r (λ first. (n : ℕ) → first ≤ n → find (is_reply_of job n) rows.replies ≡ None) → IfSome r (IsFreeFrom job rows)
free_case None job rows least one floor from unkept = tt
free_case (Some first) job rows least one floor from unkept = record { least = omega (arith, one, from); floor = omega (arith, floor, from); unkept = unkept }

-- a request of the administrator to activate a deck
pub is_activation : (request : Request) (deck : List ℕ) → request.job ≡ administrator → request.op ≡ ops.Activate deck → request ≡ activation request.number deck
is_activation request deck job op = rw (job, op) refl
