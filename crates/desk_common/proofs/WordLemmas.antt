-- The first piece of a text.
use Rattle.std.proofs.Common.{◌≡◌, ◌≢◌, ◌<◌, ℕ, zero, suc, Bool, true, false, List, [], ◌∷◌, ◌++◌, length, get_or, take}
use Rattle.std.proofs.Common.{drop, refl, sym, append-nil, arith}
use Rattle.std.specs.Prelude.{◌==◌}
use Rattle.std.proofs.lemmas.Bool.Decides.{nat_tests}
use Rattle.desk_common.specs.Words.{is_one_of, pieces_between, pieces_of, without_empty, words_of}

pub differs : (x y : ℕ) → x ≢ y → (x == y) ≡ false
differs x y ne = grind (arith, nat_tests)

pub agrees : (x y : ℕ) → x ≡ y → (x == y) ≡ true
agrees x y e = grind (arith, nat_tests)

pub one_differs : (x y : ℕ) → x ≢ y → is_one_of (y ∷ []) x ≡ false
one_differs x y ne = rw (differs x y ne) refl

pub one_agrees : (x y : ℕ) → x ≡ y → is_one_of (y ∷ []) x ≡ true
one_agrees x y e = rw (agrees x y e) refl

-- a piece ends before the first byte that parts the text
pub first_piece_is : (parts : ℕ → Bool) (text : List ℕ) (n : ℕ) → ((k : ℕ) → k < n → parts (get_or text k 0) ≡ false) → n < length text
    → parts (get_or text n 0) ≡ true → pieces_between parts text ≡ take n text ∷ pieces_between parts (drop (suc n) text)
first_piece_is parts [] n before less found = absurd (omega arith)
first_piece_is parts (x ∷ xs) zero before less found = rw found refl
first_piece_is parts (x ∷ xs) (suc n) before less found =
    let rest = first_piece_is parts xs n (λ k lt. before (suc k) (omega arith)) (omega arith) found in
    rw (before 0 (omega arith), rest) refl

-- without such a byte the text is one piece
pub only_piece_is : (parts : ℕ → Bool) (text : List ℕ) → ((k : ℕ) → k < length text → parts (get_or text k 0) ≡ false) → pieces_between parts text ≡ text ∷ []
only_piece_is parts [] before = refl
only_piece_is parts (x ∷ xs) before =
    let rest = only_piece_is parts xs (λ k lt. before (suc k) (omega arith)) in
    rw (before 0 (omega arith), rest) refl

without_empty-cons : (piece : List ℕ) (pieces : List (List ℕ)) → without_empty (piece ∷ pieces) ≡ without_empty (piece ∷ []) ++ without_empty pieces
without_empty-cons [] pieces = refl
without_empty-cons (b ∷ bs) pieces = refl

pub words_of_first : (blank : ℕ) (text : List ℕ) (n : ℕ) → ((k : ℕ) → k < n → get_or text k 0 ≢ blank) → n < length text
    → get_or text n 0 ≡ blank → words_of (blank ∷ []) text ≡ without_empty (take n text ∷ []) ++ words_of (blank ∷ []) (drop (suc n) text)
words_of_first blank text n before less found =
    rw (first_piece_is (is_one_of (blank ∷ [])) text n (λ k lt. one_differs (get_or text k 0) blank (before k lt)) less (one_agrees (get_or text n 0) blank found))
    (without_empty-cons (take n text) (pieces_of (blank ∷ []) (drop (suc n) text)))

pub words_of_only : (blank : ℕ) (text : List ℕ) → ((k : ℕ) → k < length text → get_or text k 0 ≢ blank)
    → words_of (blank ∷ []) text ≡ without_empty (text ∷ []) ++ words_of (blank ∷ []) []
words_of_only blank text before =
    rw (only_piece_is (is_one_of (blank ∷ [])) text (λ k lt. one_differs (get_or text k 0) blank (before k lt)))
    (sym (append-nil (without_empty (text ∷ []))))
