-- Fewer than two operands have no key twice.
use Rattle.std.proofs.Common.{◌≡◌, ◌<◌, ℕ, true, not, List, [], ◌∷◌, length, refl, arith}
use Rattle.std.specs.Prelude.{Option, None, Some}
use Rattle.std.specs.List.{cons_option, list_all}
use Rattle.sms_construct.specs.Parts.{behind_front}
use Rattle.sms_script.specs.Operands.{are_many, is_once}

not_many : (value : Option (List ℕ)) → not (are_many (cons_option value [])) ≡ true
not_many None = refl
not_many (Some value) = refl

once : (operands : List (List ℕ)) (key : List ℕ) → length operands < 2 → is_once operands key ≡ true
once [] key few = refl
once (word ∷ []) key few = not_many (behind_front key word)
once (word ∷ other ∷ operands) key few = absurd (omega (arith, few))

pub few_are_once : (operands keys : List (List ℕ)) → length operands < 2 → list_all (is_once operands) keys ≡ true
few_are_once operands [] few = refl
few_are_once operands (key ∷ keys) few = rw (once operands key few) (few_are_once operands keys few)
