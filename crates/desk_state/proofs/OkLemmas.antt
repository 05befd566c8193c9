-- What holds of an answer, where others do.
use Rattle.std.proofs.Common.{◌≡◌, refl}
use Rattle.std.specs.Prelude.{Option, None, Some, IfSome, option_map, Result, Ok, Err, IfOk}
use Rattle.std.specs.declared.alloc.AllocError.{AllocError}

pub on-ok : {A : Type 0} (P Q : A → Type 0) (r : Result A AllocError) → ((x : A) → P x → Q x) → IfOk r P → IfOk r Q
on-ok P Q (Ok x) step is = step x is
on-ok P Q (Err e) step is = is

pub on-found : {A : Type 0} (P : A → Type 0) (o : Option A) → ((x : A) → o ≡ Some x → P x) → IfSome o P
on-found P None step = tt
on-found P (Some x) step = step x refl

pub none-mapped : {A B : Type 0} (f : A → B) (o : Option A) → None ≡ option_map f o → o ≡ None
none-mapped f None is = refl
none-mapped f (Some x) is = absurd cc
