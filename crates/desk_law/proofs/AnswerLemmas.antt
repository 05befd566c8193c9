-- What the step says of an entry's number.
use Rattle.std.proofs.Common.{◌≡◌, Bool, true, false, List}
use Rattle.std.specs.Prelude.{Option, None, Some, MatchBool, MatchOption, nat_lt}
use Rattle.sms_construct.specs.declared.entry.Entry.{Entry}
use Rattle.sms_keeper.specs.declared.kept_row.KeptRow.{KeptRow}
use Rattle.desk_law.specs.State.{DeskState, Opening}
use Rattle.desk_law.specs.Kept.{floor_of, kept_for}
use Rattle.desk_law.specs.Step.{IsBelow, IsFresh, IsRepeat, IsStep}

bool-true : (b : Bool) (P Q : Type 0) → MatchBool b P Q → b ≡ true → P
bool-true true P Q rule is = rule
bool-true false P Q rule is = absurd cc

bool-false : (b : Bool) (P Q : Type 0) → MatchBool b P Q → b ≡ false → Q
bool-false true P Q rule is = absurd cc
bool-false false P Q rule is = rule

option-none : {A : Type 0} (o : Option A) (P : Type 0) (Q : A → Type 0) → MatchOption o P Q → o ≡ None → P
option-none None P Q rule is = rule
option-none (Some x) P Q rule is = absurd cc

option-some : {A : Type 0} (o : Option A) (x : A) (P : Type 0) (Q : A → Type 0) → MatchOption o P Q → o ≡ Some x → Q x
option-some None x P Q rule is = absurd cc
option-some (Some y) x P Q rule is = subst-some y x P Q rule is
  where
    subst-some : {A : Type 0} (y x : A) (P : Type 0) (Q : A → Type 0) → Q y → Some y ≡ Some x → Q x
    subst-some y x P Q rule is =
        let same : y ≡ x = cc in rw same at rule

pub step-below : (o : Opening) (before : List Entry) (s : DeskState) (e : Entry) (after : DeskState) → IsStep o before s e after → nat_lt e.request.number (floor_of o before e.request.job) ≡ true
    → IsBelow (floor_of o before e.request.job) s e after
step-below o before s e after step is = bool-true (nat_lt e.request.number (floor_of o before e.request.job)) (IsBelow (floor_of o before e.request.job) s e after) _ step.answer is

pub step-fresh : (o : Opening) (before : List Entry) (s : DeskState) (e : Entry) (after : DeskState) → IsStep o before s e after → nat_lt e.request.number (floor_of o before e.request.job) ≡ false
    → kept_for o before e.request.job e.request.number ≡ None → IsFresh (floor_of o before) s e after
step-fresh o before s e after step is missing =
    option-none (kept_for o before e.request.job e.request.number) _ (λ (kept : KeptRow). IsRepeat kept s e after)
    (bool-false (nat_lt e.request.number (floor_of o before e.request.job)) (IsBelow (floor_of o before e.request.job) s e after) _ step.answer is) missing

pub step-kept : (o : Opening) (before : List Entry) (s : DeskState) (e : Entry) (after : DeskState) (row : KeptRow) → IsStep o before s e after → nat_lt e.request.number (floor_of o before e.request.job) ≡ false
    → kept_for o before e.request.job e.request.number ≡ Some row → IsRepeat row s e after
step-kept o before s e after row step is found =
    option-some (kept_for o before e.request.job e.request.number) row (IsFresh (floor_of o before) s e after) (λ (kept : KeptRow). IsRepeat kept s e after)
    (bool-false (nat_lt e.request.number (floor_of o before e.request.job)) (IsBelow (floor_of o before e.request.job) s e after) _ step.answer is) found
