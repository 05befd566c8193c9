-- The names of generated data sets.
use Rattle.std.proofs.Common.{◌≡◌, ◌≤◌, ◌<◌, ◌%◌, ℕ, Bool, true, false, List, [], ◌∷◌, ◌++◌, length, refl, ap, arith}
use Rattle.std.specs.Prelude.{◌==◌, nat_le, Some, codes, decimal, if◌then◌else◌}
use Rattle.std.specs.List.{list_all}
use Rattle.std.proofs.lemmas.Bool.Decides.{nat_tests}
use Rattle.std.specs.Char.{digit_value}
use Rattle.std.specs.Str.Parse.{AllDigits}
use Rattle.std.proofs.lemmas.Fmt.{decimal_is_IsNumeral, length-decimal-le}
use Rattle.dsn_mask.specs.DataSetName.{dsn_of, is_data_set_name, is_qualifier, is_qualifier_byte}
use Rattle.desk_common.specs.Words.{onto}
use Rattle.dsn_mask.specs.Qualifiers.{qualifiers_of}
use Rattle.desk_common.specs.Bytes.{full_stop}
use Rattle.desk_generator.specs.Generated.{numbered_name}

digit : (c : ℕ) → digit_value c < 10 → (is_qualifier_byte c ≡ true) × ((c == full_stop) ≡ false)
digit c small = (grind (arith, nat_tests), grind (arith, nat_tests))

digits : (ds : List ℕ) → AllDigits 10 ds → list_all is_qualifier_byte ds ≡ true
digits [] all = refl
digits (c ∷ cs) all = rw ((digit c all.0).0) (digits cs all.1)

one_piece : (ds : List ℕ) → AllDigits 10 ds → qualifiers_of ds ≡ ds ∷ []
one_piece [] all = refl
one_piece (c ∷ cs) all = rw ((digit c all.0).1) (ap (onto c) (one_piece cs all.1))

-- a text under GA or GB
under : (second : ℕ) (ds : List ℕ) → is_qualifier (71 ∷ second ∷ []) ≡ true → (second == full_stop) ≡ false → AllDigits 10 ds → length ds ≤ 5
    → is_data_set_name (71 ∷ second ∷ 46 ∷ 68 ∷ ds) ≡ true
under second ds front other all few =
    let pieces : qualifiers_of (71 ∷ second ∷ 46 ∷ 68 ∷ ds) ≡ (71 ∷ second ∷ []) ∷ (68 ∷ ds) ∷ [] =
    rw other (ap (λ (ps : List (List ℕ)). onto 71 (onto second ([] ∷ onto 68 ps))) (one_piece ds all)) in
    let short : nat_le (length (71 ∷ second ∷ 46 ∷ 68 ∷ ds)) 44 ≡ true = grind (arith, nat_tests) in
    let fits : nat_le (length (68 ∷ ds)) 8 ≡ true = grind (arith, nat_tests) in
    let some : nat_le 1 (length (68 ∷ ds)) ≡ true = grind (arith, nat_tests) in
    rw (short, pieces, front, some, fits, digits ds all) refl

named : (bytes : List ℕ) → is_data_set_name bytes ≡ true → dsn_of bytes ≡ Some bytes
named bytes is = rw is refl

pub few_digits : (n : ℕ) → n < 100000 → length (decimal n) ≤ 5
few_digits n small = length-decimal-le 5 n (omega arith) (omega arith) (omega arith)

pub numbered_is : (n : ℕ) → n < 100000 → dsn_of (numbered_name n) ≡ Some (numbered_name n)
numbered_is n small = by (n % 2 == 0)
  where
    all : AllDigits 10 (decimal n)
    all = (decimal_is_IsNumeral n (omega arith)).0.1

    few : length (decimal n) ≤ 5
    few = few_digits n small

    by : (even : Bool) → dsn_of ((if even then codes "GA.D" else codes "GB.D") ++ decimal n) ≡ Some ((if even then codes "GA.D" else codes "GB.D") ++ decimal n)
    by true = named _ (under 65 (decimal n) refl refl all few)
    by false = named _ (under 66 (decimal n) refl refl all few)
