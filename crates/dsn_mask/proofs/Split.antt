-- The first qualifier of a text.
use Rattle.std.proofs.Common.{Bool, ◌≡◌, ◌≢◌, ◌<◌, ℕ, suc, true, false, List, [], ◌∷◌, length, get_or, take, drop, refl}
use Rattle.std.specs.Prelude.{◌==◌, if◌then◌else◌}
use Rattle.desk_common.specs.Words.{onto}
use Rattle.desk_common.proofs.WordLemmas.{agrees, differs, first_piece_is, only_piece_is}
use Rattle.dsn_mask.specs.Qualifiers.{qualifiers_of}
use Rattle.dsn_mask.specs.MaskTest.{is_empty}

pub qualifiers_of-stop : (xs : List ℕ) (n : ℕ) → ((k : ℕ) → k < n → get_or xs k 0 ≢ 46) → n < length xs → get_or xs n 0 ≡ 46
    → qualifiers_of xs ≡ take n xs ∷ qualifiers_of (drop (suc n) xs)
qualifiers_of-stop xs n before less found =
    first_piece_is (λ byte. byte == 46) xs n (λ k lt. differs (get_or xs k 0) 46 (before k lt)) less (agrees (get_or xs n 0) 46 found)

pub qualifiers_of-one : (xs : List ℕ) → ((k : ℕ) → k < length xs → get_or xs k 0 ≢ 46) → qualifiers_of xs ≡ xs ∷ []
qualifiers_of-one xs before = only_piece_is (λ byte. byte == 46) xs (λ k lt. differs (get_or xs k 0) 46 (before k lt))

onto-some : (b : ℕ) (qs : List (List ℕ)) → is_empty (onto b qs) ≡ false
onto-some b [] = refl
onto-some b (q ∷ qs) = refl

some_at : (b : ℕ) (bs : List ℕ) (stop : Bool) → is_empty (if stop then [] ∷ qualifiers_of bs else onto b (qualifiers_of bs)) ≡ false
some_at b bs true = refl
some_at b bs false = onto-some b (qualifiers_of bs)

-- each text has a qualifier
pub qualifiers_of-some : (xs : List ℕ) → is_empty (qualifiers_of xs) ≡ false
qualifiers_of-some [] = refl
qualifiers_of-some (b ∷ bs) = some_at b bs (b == 46)
