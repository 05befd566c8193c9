-- What holds of a statement inside a transaction, whatever it answers.
use Rattle.std.proofs.Common.{◌≡◌, ℕ, Bool, true, false, List, Ok, Err, Result, OnOk, refl}
use Rattle.std.specs.Prelude.{IfOk}
use Rattle.sqlite.specs.declared.error.Error.{Error}
use Rattle.sqlite.specs.Order.{Row}
use Rattle.sqlite.specs.State.{State, Executes, ExecutesInside}

pub on_ok : (sql : List ℕ) (params : Row) (old new : State) (r : Result ℕ Error) (P : Type 0) → ((count : ℕ) → Executes sql params old new (Ok count) → P) → ExecutesInside 0 sql params old new r → OnOk r P
on_ok sql params old new (Ok count) P f h = f count h.0
on_ok sql params old new (Err e) P f h = tt

pub if_ok : (sql : List ℕ) (params : Row) (old new : State) (r : Result ℕ Error) (P : ℕ → Type 0) → ((count : ℕ) → Executes sql params old new (Ok count) → P count) → ExecutesInside 0 sql params old new r → IfOk r P
if_ok sql params old new (Ok count) P f h = f count h.0
if_ok sql params old new (Err e) P f h = tt

-- what follows of an answer
pub ok_then : {X E : Type 0} (r : Result X E) (P Q : X → Type 0) → ((x : X) → P x → Q x) → IfOk r P → IfOk r Q
ok_then (Ok x) P Q f h = f x h
ok_then (Err e) P Q f h = tt

-- what follows of an answer in either case
pub ok_either : {X E : Type 0} (is : Bool) (r : Result X E) (P Q R : X → Type 0) → (is ≡ true → IfOk r P) → (is ≡ false → IfOk r Q)
    → (is ≡ true → (x : X) → P x → R x) → (is ≡ false → (x : X) → Q x → R x) → IfOk r R
ok_either true (Ok x) P Q R first second f g = f refl x (first refl)
ok_either false (Ok x) P Q R first second f g = g refl x (second refl)
ok_either is (Err e) P Q R first second f g = tt
