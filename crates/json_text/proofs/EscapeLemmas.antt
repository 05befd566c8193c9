-- Bytes that stand for themselves in a string.
use Rattle.std.proofs.Common.{◌≡◌, ◌<◌, ◌≤◌, ℕ, zero, suc, List, [], ◌∷◌, ◌++◌, length, get_or, take, drop, refl, arith}
use Rattle.json.specs.Print.{escape, escape_byte}

-- a front of them is itself, and the rest is escaped
pub plain_front : (bytes : List ℕ) (n : ℕ) → ((k : ℕ) → k < n → escape_byte (get_or bytes k 0) ≡ get_or bytes k 0 ∷ []) → n ≤ length bytes
    → escape bytes ≡ take n bytes ++ escape (drop n bytes)
plain_front bytes zero before within = refl
plain_front [] (suc n) before within = absurd (omega (arith, within))
plain_front (x ∷ xs) (suc n) before within =
    let rest = plain_front xs n (λ k less. before (suc k) (omega arith)) (omega (arith, within)) in
    rw (before 0 (omega arith), rest) refl
