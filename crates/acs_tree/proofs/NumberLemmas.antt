-- The value of digits, against a bound.
use Rattle.std.proofs.Common.{◌≡◌, ◌≤◌, ◌<◌, ◌+◌, ◌-◌, ◌*◌, ◌&&◌, ℕ, List, [], ◌∷◌, refl, sym, ◌∙◌, ap, arith}
use Rattle.std.specs.Prelude.{Option, Some, None, is_some}
use Rattle.std.proofs.lemmas.Bool.Decides.{nat_tests}
use Rattle.acs_tree.specs.Numbers.{times, value_behind, value_of, within}

value_grows : (front : ℕ) (digits : List ℕ) → front ≤ value_behind front digits
value_grows front [] = omega arith
value_grows front (digit ∷ digits) = omega (arith, value_grows (10 * front + (digit - 48)) digits)

past : (value most : ℕ) → most < value → None ≡ within 0 most (Some value)
past value most h = grind (arith, nat_tests)

-- digits are past a bound where those before some place are
pub value_past : (front most first : ℕ) (behind digits all : List ℕ) → value_behind front digits ≡ value_of all → digits ≡ first ∷ behind → most < 10 * front + (first - 48) → None ≡ within 0 most (Some (value_of all))
value_past front most first behind digits all e d h =
    let k : value_behind front (first ∷ behind) ≡ value_of all = ap (value_behind front) (sym d) ∙ e in
    past (value_of all) most (omega (arith, value_grows (10 * front + (first - 48)) behind, k))

pub size_is_there : (count unit : Option ℕ) → is_some (times count unit) ≡ (is_some count && is_some unit)
size_is_there None unit = refl
size_is_there (Some count) None = refl
size_is_there (Some count) (Some unit) = refl
