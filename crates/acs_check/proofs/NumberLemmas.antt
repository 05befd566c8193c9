-- Numbers past the greatest.
use Rattle.std.proofs.Common.{◌≡◌, ◌&&◌, ℕ, refl, arith}
use Rattle.std.specs.Prelude.{Option, Some, None, is_none, is_some}
use Rattle.std.proofs.lemmas.Bool.Decides.{nat_tests}
use Rattle.acs_tree.specs.Numbers.{greatest, is_past_greatest, within}

-- a number that is there and is not one up to the greatest
pub past_greatest : (number : Option ℕ) → (is_some number && is_none (within 0 greatest number)) ≡ is_past_greatest number
past_greatest None = refl
past_greatest (Some number) = grind (arith, nat_tests)
