-- What a turn of a walk costs at most: going on takes from the last part, going back from the middle one, a new star
-- from the first.
use Rattle.std.proofs.Common.{◌≤◌, ◌<◌, ◌+◌, ◌*◌, ℕ, arith}
use Rattle.std.proofs.Math.Nat.{mul-le-mul_left}

abbrev pub cost : ℕ → ℕ → ℕ → ℕ → ℕ → ℕ
cost m n q y p = q * ((n + 1) * (m + 1)) + y * (m + 1) + p

pub star_less : (m n p q x y s : ℕ) → p < s → s ≤ q → x ≤ n → cost m n p x p < cost m n q y s
star_less m n p q x y s g h k =
    let a : ((n + 1) * (m + 1)) * (p + 1) ≤ ((n + 1) * (m + 1)) * q = mul-le-mul_left ((n + 1) * (m + 1)) (omega arith) in
    let b : (m + 1) * x ≤ (m + 1) * n = mul-le-mul_left (m + 1) k in
    omega arith

pub back_less : (m n q y p : ℕ) → q ≤ m → cost m n q y q < cost m n q (y + 1) p
back_less m n q y p h = omega arith
