-- Rows that a desk may keep, and rows that none keeps.
use Rattle.std.proofs.Common.{◌≡◌, ◌≤◌, ℕ, ◌+◌, Bool, true, false, cond, [], ◌∷◌, refl, arith}
use Rattle.std.specs.Prelude.{codes, nat_eq}
use Rattle.std.proofs.lemmas.Bool.Decides.{nat_tests}
use Rattle.sms_construct.specs.declared.reply.Reply.{Reply}
use Rattle.sms_construct.specs.declared.reply.Reply.TheVariants as replies
use Rattle.sms_construct.specs.declared.request.Op.TheVariants as ops
use Rattle.sms_keeper.specs.declared.kept_row.KeptRow.{KeptRow}
use Rattle.desk_law.specs.KeptRows.{AreKeptRows, IsKeptRow}

-- the row of a DELETE by JOB1 at this place
abbrev row : ℕ → ℕ → Reply → KeptRow
row number place reply = record { job = codes "JOB1"; number = number; place = place; request = record { job = codes "JOB1"; number = number; op = ops.Delete (codes "A.B") }; reply = reply }

one-at-most : (b c : Bool) → (b ≡ true → c ≡ false) → cond b 1 0 + (cond c 1 0 + 0) ≤ 1
one-at-most true true differ = let bad : true ≡ false = differ refl in absurd cc
one-at-most true false differ = omega arith
one-at-most false true differ = omega arith
one-at-most false false differ = omega arith

other-place : (place : ℕ) → nat_eq 3 place ≡ true → nat_eq 7 place ≡ false
other-place place is = grind (arith, nat_tests)

two_rows : AreKeptRows 7 (row 1 3 replies.NotFound ∷ row 2 7 (replies.Deleted 10) ∷ [])
two_rows = record {
  each = (
    record { fate = refl; job = refl; number = refl; some = omega arith; within = omega arith },
    (record { fate = refl; job = refl; number = refl; some = omega arith; within = omega arith }, tt),
  );
  apart = λ place. one-at-most (nat_eq 3 place) (nat_eq 7 place) (other-place place);
}

-- two rows of one place
same_place : AreKeptRows 7 (row 1 3 replies.NotFound ∷ row 2 3 replies.NotFound ∷ []) → ⊥
same_place are =
    let two : 2 ≤ 1 = are.apart 3 in omega (arith, two)

-- replies that aren't kept, and one that comes with no entry

no_reused : IsKeptRow 7 (row 1 3 (replies.Reused 1)) → ⊥
no_reused is = let bad = is.fate in absurd cc

no_below : IsKeptRow 7 (row 1 3 (replies.Below 5)) → ⊥
no_below is = let bad = is.fate in absurd cc

no_fault : IsKeptRow 7 (row 1 3 replies.KeeperFault) → ⊥
no_fault is = let bad = is.fate in absurd cc

no_full : IsKeptRow 7 (row 1 3 replies.JournalFull) → ⊥
no_full is = let bad = is.fate in absurd cc

no_memory : IsKeptRow 7 (row 1 3 replies.Memory) → ⊥
no_memory is = let bad = is.fate in absurd cc

-- the number of another request, no place, and a place to come

other_number : IsKeptRow 7 (record (row 1 3 replies.NotFound) { number = 2 }) → ⊥
other_number is = let same : 2 ≡ 1 = is.number in omega (arith, same)

no_place : IsKeptRow 7 (row 1 0 replies.NotFound) → ⊥
no_place is = let some : 1 ≤ 0 = is.some in omega (arith, some)

to_come : IsKeptRow 7 (row 1 8 replies.NotFound) → ⊥
to_come is = let within : 8 ≤ 7 = is.within in omega (arith, within)
