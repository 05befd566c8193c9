-- The digits of a number of the machine.
use Rattle.std.proofs.Common.{◌≤◌, ◌<◌, ◌^◌, ℕ, length, arith}
use Rattle.std.specs.Prelude.{decimal}
use Rattle.std.proofs.lemmas.Fmt.{length-decimal-le}

pub digits_fit : (n : ℕ) → n < 2 ^ 64 → length (decimal n) ≤ 20
digits_fit n small = length-decimal-le 20 n (omega arith) (omega arith) (omega arith)
