-- Bytes of ASCII.
use Rattle.std.proofs.Common.{◌≡◌, ◌<◌, ℕ, zero, suc, List, [], ◌∷◌, get_or, drop, arith}
use Rattle.std.specs.Prelude.{slice_index}
use Rattle.std.specs.Str.{IsAscii}

-- one more in front
pub ascii_cons : (x : ℕ) (xs : List ℕ) → x < 128 → IsAscii xs → (i : ℕ) → slice_index (x ∷ xs) i < 128
ascii_cons x xs less h zero = less
ascii_cons x xs less h (suc i) = h i

-- a front of them, a quote, and what is behind that
pub ascii_from : (text : List ℕ) (n : ℕ) → ((k : ℕ) → k < n → get_or text k 0 < 128) → get_or text n 0 ≡ 34 → IsAscii (drop (suc n) text)
    → (i : ℕ) → slice_index text i < 128
ascii_from [] n before found rest = λ i. omega arith
ascii_from (x ∷ xs) zero before found rest = ascii_cons x xs (omega (arith, found)) rest
ascii_from (x ∷ xs) (suc n) before found rest =
    ascii_cons x xs (before 0 (omega arith)) (ascii_from xs n (λ k less. before (suc k) (omega arith)) found rest)

-- a byte and a quote in front
pub quote_behind : (x : ℕ) (xs : List ℕ) → x < 128 → IsAscii xs → IsAscii (x ∷ 34 ∷ xs)
quote_behind x xs less h = ascii_cons x (34 ∷ xs) less (ascii_cons 34 xs (omega arith) h)

-- the brace that ends an object
pub end_ascii : IsAscii (125 ∷ [])
end_ascii = ascii_cons 125 [] (omega arith) (λ i. omega arith)
