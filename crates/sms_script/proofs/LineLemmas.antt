-- The first line of a text.
use Rattle.std.proofs.Common.{◌≡◌, ◌≢◌, ◌<◌, ℕ, zero, suc, true, false, List, [], ◌∷◌, length, get_or, take, drop, refl}
use Rattle.std.proofs.Common.{arith}
use Rattle.std.specs.Prelude.{◌==◌}
use Rattle.std.proofs.lemmas.Bool.Decides.{nat_tests}
use Rattle.sms_script.specs.Lines.{lines_of}

pub differs : (x y : ℕ) → x ≢ y → (x == y) ≡ false
differs x y ne = grind (arith, nat_tests)

pub agrees : (x y : ℕ) → x ≡ y → (x == y) ≡ true
agrees x y e = grind (arith, nat_tests)

pub first_line_is : (text : List ℕ) (n : ℕ) → ((k : ℕ) → k < n → get_or text k 0 ≢ 10) → n < length text → get_or text n 0 ≡ 10
    → lines_of text ≡ take (suc n) text ∷ lines_of (drop (suc n) text)
first_line_is [] n before less found = absurd (omega arith)
first_line_is (x ∷ xs) zero before less found = rw (agrees x 10 found) refl
first_line_is (x ∷ xs) (suc n) before less found =
    let rest = first_line_is xs n (λ k lt. before (suc k) (omega arith)) (omega arith) found in
    rw (differs x 10 (before 0 (omega arith)), rest) refl

pub only_line_is : (text : List ℕ) → ((k : ℕ) → k < length text → get_or text k 0 ≢ 10) → 0 < length text → lines_of text ≡ text ∷ []
only_line_is [] before some = absurd (omega arith)
only_line_is (x ∷ []) before some = rw (differs x 10 (before 0 (omega arith))) refl
only_line_is (x ∷ y ∷ xs) before some =
    let rest = only_line_is (y ∷ xs) (λ k lt. before (suc k) (omega arith)) (omega arith) in
    rw (differs x 10 (before 0 (omega arith)), rest) refl
