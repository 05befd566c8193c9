-- Bytes as the digits of a number.
use Rattle.std.specs.Prelude.{ℕ, ◌+◌, ◌*◌, List, [], ◌∷◌}

-- the number that the bytes write behind another one
abbrev pub number_behind : ℕ → List ℕ → ℕ
number_behind n [] = n
number_behind n (b ∷ bs) = number_behind (n * 256 + b) bs

-- the number that the bytes write, the first the greatest digit
abbrev pub number_of : List ℕ → ℕ
number_of bytes = number_behind 0 bytes
