-- A data set name is a short text.
use Rattle.std.proofs.Common.{Bool, ◌≡◌, ℕ, true, false, List, [], ◌∷◌, refl, arith}
use Rattle.std.specs.Prelude.{◌==◌, if◌then◌else◌}
use Rattle.std.specs.List.{AllPass, list_all}
use Rattle.std.proofs.lemmas.Bool.Decides.{nat_tests}
use Rattle.std.proofs.lemmas.List.Sums.{AllPass-from_list_all}
use Rattle.dsn_mask.specs.Name.{is_short_byte}
use Rattle.desk_common.specs.Words.{onto}
use Rattle.dsn_mask.specs.Qualifiers.{qualifiers_of}
use Rattle.dsn_mask.specs.DataSetName.{IsDataSetName, is_qualifier, is_qualifier_byte}
use Rattle.dsn_mask.proofs.Faults.{both, parts_of}
use Rattle.dsn_mask.proofs.Parsing.{all_are_good}

byte_is_short : (b : ℕ) → is_qualifier_byte b ≡ true → is_short_byte b ≡ true
byte_is_short b e = grind (arith, nat_tests)

stop_is_short : (b : ℕ) → (b == 46) ≡ true → is_short_byte b ≡ true
stop_is_short b e = grind (arith, nat_tests)

onto_parts : (b : ℕ) (qs : List (List ℕ)) → list_all (list_all is_qualifier_byte) (onto b qs) ≡ true → (is_qualifier_byte b ≡ true) × (list_all (list_all is_qualifier_byte) qs ≡ true)
onto_parts b [] e = let a = both _ _ e in let one = both _ _ a.0 in (one.0, refl)
onto_parts b (q ∷ qs) e = let a = both _ _ e in let one = both _ _ a.0 in (one.0, rw one.1 a.1)

split_parts : (b : ℕ) (bs : List ℕ) (stop : Bool) → (b == 46) ≡ stop → list_all (list_all is_qualifier_byte) (if stop then [] ∷ qualifiers_of bs else onto b (qualifiers_of bs)) ≡ true
    → (is_short_byte b ≡ true) × (list_all (list_all is_qualifier_byte) (qualifiers_of bs) ≡ true)
split_parts b bs true stop e = (stop_is_short b stop, e)
split_parts b bs false stop e = let parts = onto_parts b (qualifiers_of bs) e in (byte_is_short b parts.0, parts.1)

bytes_are_short : (bytes : List ℕ) → list_all (list_all is_qualifier_byte) (qualifiers_of bytes) ≡ true → list_all is_short_byte bytes ≡ true
bytes_are_short [] e = refl
bytes_are_short (b ∷ bs) e = let parts = split_parts b bs (b == 46) refl e in rw parts.0 (bytes_are_short bs parts.1)

good_bytes : (qs : List (List ℕ)) → list_all is_qualifier qs ≡ true → list_all (list_all is_qualifier_byte) qs ≡ true
good_bytes [] e = refl
good_bytes (q ∷ qs) e = let a = both _ _ e in rw (parts_of q a.0).3 (good_bytes qs a.1)

pub name_is_short : (bytes : List ℕ) → IsDataSetName bytes → AllPass is_short_byte bytes
name_is_short bytes is = AllPass-from_list_all is_short_byte bytes (bytes_are_short bytes (good_bytes (qualifiers_of bytes) (all_are_good bytes is)))
