-- The first piece of a text.
use Rattle.std.proofs.Common.{◌≡◌, ◌≢◌, ◌<◌, ℕ, zero, suc, List, [], ◌∷◌, length, get_or, take, drop, refl, arith}
use Rattle.desk_common.specs.Bytes.{comma}
use Rattle.desk_common.specs.Words.{pieces_of}
use Rattle.sms_script.proofs.LineLemmas.{agrees, differs}

pub first_piece_is : (text : List ℕ) (n : ℕ) → ((k : ℕ) → k < n → get_or text k 0 ≢ 44) → n < length text → get_or text n 0 ≡ 44
    → pieces_of (comma ∷ []) text ≡ take n text ∷ pieces_of (comma ∷ []) (drop (suc n) text)
first_piece_is [] n before less found = absurd (omega arith)
first_piece_is (x ∷ xs) zero before less found = rw (agrees x 44 found) refl
first_piece_is (x ∷ xs) (suc n) before less found =
    let rest = first_piece_is xs n (λ k lt. before (suc k) (omega arith)) (omega arith) found in
    rw (differs x 44 (before 0 (omega arith)), rest) refl

pub only_piece_is : (text : List ℕ) → ((k : ℕ) → k < length text → get_or text k 0 ≢ 44) → pieces_of (comma ∷ []) text ≡ text ∷ []
only_piece_is [] before = refl
only_piece_is (x ∷ xs) before =
    let rest = only_piece_is xs (λ k lt. before (suc k) (omega arith)) in
    rw (differs x 44 (before 0 (omega arith)), rest) refl
