-- The thing, or its first fault (docs/developers/HOUSE.md, "Answers: the thing, or its first fault").
use Rattle.std.specs.Prelude.{◌≡◌, ◌≤◌, ◌⊎◌, ℕ, Option, Some, Result, Ok, Err, IsErrAnd}

-- where a fault is met, and its rank among those that are met there
pub record Place : Type 0 where
  pub at : ℕ
  pub rank : ℕ

-- at an earlier place, or at the same place and of no higher rank
abbrev pub NotBehind : Place → Place → Type 0
NotBehind one other = (one.at ≤ other.at) × (one.at ≡ other.at → one.rank ≤ other.rank)

-- this fault is met, and no other is met before it
pub record IsFirst {E : Type 0} (is_met : E → Type 0) (place : E → Place) (err : E) : Type 0 where
  pub met : is_met err
  pub first : (other : E) → is_met other → NotBehind (place err) (place other)

-- the error is want of memory; where the call needs none, no error is
abbrev pub IsWant : {E : Type 0} → Option E → E → Type 0
IsWant memory err = memory ≡ Some err

-- the error may be answered: it is the fault, or want of memory
abbrev pub MayRefuse : {E : Type 0} → (E → Type 0) → Option E → E → Type 0
MayRefuse fault memory err = fault err ⊎ IsWant memory err

-- the thing is answered wherever there is one, and the fault wherever there is one; want of memory alone may come
-- in their place
pub record IsExact {T E : Type 0} (is : T → Type 0) (fault : E → Type 0) (memory : Option E)
    (result : Result T E) : Type 0 where
  pub thing : (made : T) → is made → (result ≡ Ok made) ⊎ IsErrAnd result (IsWant memory)
  pub refused : (err : E) → fault err → (result ≡ Err err) ⊎ IsErrAnd result (IsWant memory)
