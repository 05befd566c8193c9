-- Texts that are the same, word by word.
use Rattle.std.proofs.Common.{◌≡◌, ◌≤◌, ◌+◌, ◌-◌, ◌∙◌, ℕ, List, length, take, bytes_eq, nat_cmp, drop, true, sym, ap}
use Rattle.std.proofs.Common.{length-drop, arith}
use Rattle.std.proofs.lemmas.List.{take_all}
use Rattle.std.proofs.lemmas.Slice.Eq.{bytes_eq-Decides}
use Rattle.std.specs.Cmp.Lexicographic.{slice_cmp, texts_ties}
use Rattle.std.specs.Ordering.{is_eq, ordering_then}
use Rattle.std.specs.declared.cmp.Ordering.TheVariants.{Equal}
use Rattle.dsn_mask.specs.Inner.Words.{number_of}
use Rattle.dsn_mask.proofs.WordLemmas.{AreBytes, byte-same, text-same, word-order}

level : (n m : ℕ) → n ≡ m → nat_cmp n m ≡ Equal
level n m e = ap (λ k. nat_cmp n k) (sym e) ∙ byte-same n

-- words that are the same decide nothing
pub word_same : (xs ys : List ℕ) (p n m : ℕ) → p + 8 ≤ length xs → length xs ≡ length ys → AreBytes xs → AreBytes ys
    → n ≡ number_of (take 8 (drop p xs)) → m ≡ number_of (take 8 (drop p ys)) → n ≡ m
    → bytes_eq (drop p xs) (drop p ys) ≡ bytes_eq (drop (p + 8) xs) (drop (p + 8) ys)
word_same xs ys p n m some same small few one other e =
    texts_ties (drop p xs) (drop p ys)
    ∙ ap is_eq (word-order xs ys p (nat_cmp n m) some same small few (λ i. nat_cmp (one i) (other i)))
    ∙ ap (λ r. is_eq (ordering_then r (slice_cmp nat_cmp (drop (p + 8) xs) (drop (p + 8) ys)))) (level n m e)
    ∙ sym (texts_ties (drop (p + 8) xs) (drop (p + 8) ys))

rest_is : (p : ℕ) (xs : List ℕ) → take (length xs - p) (drop p xs) ≡ drop p xs
rest_is p xs = take_all (length xs - p) (drop p xs) (omega (arith, length-drop p xs))

-- texts that are the same behind a place stand in one place
pub same_level : (p : ℕ) (xs ys : List ℕ) → bytes_eq (take (length xs - p) (drop p xs)) (take (length ys - p) (drop p ys)) ≡ true → slice_cmp nat_cmp (drop p xs) (drop p ys) ≡ Equal
same_level p xs ys is =
    let same : drop p xs ≡ drop p ys = (bytes_eq-Decides (drop p xs) (drop p ys)).0 ((λ i. bytes_eq (sym (rest_is p xs) i) (sym (rest_is p ys) i)) ∙ is) in
    ap (slice_cmp nat_cmp (drop p xs)) (sym same) ∙ text-same (drop p xs)
