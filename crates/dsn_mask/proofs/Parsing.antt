-- What a data set name is, and that a text has one first fault.
use Rattle.std.proofs.Common.{◌≡◌, ◌≤◌, ℕ, true, false, List, length, refl, ap, subst, arith}
use Rattle.std.specs.List.{list_all}
use Rattle.std.proofs.lemmas.Bool.{le-leb}
use Rattle.std.proofs.lemmas.List.Sums.{AllPass-from_list_all, list_all-from_AllPass}
use Rattle.dsn_mask.specs.Qualifiers.{qualifiers_of}
use Rattle.dsn_mask.specs.DataSetName.{IsQualifier, IsDataSetName, is_qualifier, is_qualifier_byte}
use Rattle.desk_common.proofs.ExactLemmas.{first_at_one}
use Rattle.dsn_mask.specs.NameFault.{QualifierFault, empty, ninth_byte, bad_first, bad_later, NameFault, here, behind}
use Rattle.dsn_mask.specs.NameFault.{rank, IsFirstAmong, IsFirstNameFault}
use Rattle.dsn_mask.specs.declared.name_err.NameErr.{NameErr}
use Rattle.dsn_mask.specs.declared.name_err.NameErr.TheVariants.{Empty, TooLong, BadQualifier, BadByte}
use Rattle.dsn_mask.proofs.Faults.{parts_of, all_good, faults_from, fault_within}

qualifier_is : (q : List ℕ) → is_qualifier q ≡ true → IsQualifier q
qualifier_is q e = let parts = parts_of q e in (parts.0, parts.1, parts.2, AllPass-from_list_all is_qualifier_byte q parts.3)

qualifier_test : (q : List ℕ) → IsQualifier q → is_qualifier q ≡ true
qualifier_test q is = rw (le-leb 1 (length q) is.0, le-leb (length q) 8 is.1, is.2) (list_all-from_AllPass is_qualifier_byte q is.3)

pub data_set_name_is : (bytes : List ℕ) → length bytes ≤ 44 → list_all is_qualifier (qualifiers_of bytes) ≡ true → IsDataSetName bytes
data_set_name_is bytes short good = (short, λ k d less. qualifier_is _ (AllPass-from_list_all is_qualifier (qualifiers_of bytes) good k d less))

pub all_are_good : (bytes : List ℕ) → IsDataSetName bytes → list_all is_qualifier (qualifiers_of bytes) ≡ true
all_are_good bytes is = list_all-from_AllPass is_qualifier (qualifiers_of bytes) (λ k d less. qualifier_test _ (is.1 k d less))

-- the fault at a place

no_empty : {s n p : ℕ} {qs : List (List ℕ)} → NameFault s n qs p Empty → ⊥
no_empty (here fault) = elim fault [ ]
no_empty (behind fault) = no_empty fault

no_too_long : {s n p : ℕ} {qs : List (List ℕ)} → NameFault s n qs p TooLong → ⊥
no_too_long (here fault) = elim fault [ ]
no_too_long (behind fault) = no_too_long fault

byte_at : {s n p at : ℕ} {q : List ℕ} → QualifierFault s n q p (BadByte at) → at ≡ p
byte_at (bad_first some bad) = refl
byte_at (bad_later some less bad) = refl

byte_place : {s n p at : ℕ} {qs : List (List ℕ)} → NameFault s n qs p (BadByte at) → at ≡ p
byte_place (here fault) = byte_at fault
byte_place (behind fault) = byte_place fault

number_is : {s n p k : ℕ} {q : List ℕ} → QualifierFault s n q p (BadQualifier k) → k ≡ n
number_is (empty nil) = refl
number_is (ninth_byte more) = refl

one_number : {s n p k j : ℕ} {qs : List (List ℕ)} → NameFault s n qs p (BadQualifier k) → NameFault s n qs p (BadQualifier j) → k ≡ j
one_number (here a) (here b) = let x = number_is a in let y = number_is b in omega arith
one_number (here a) (behind b) = let x = fault_within a in let y = faults_from b in absurd (omega arith)
one_number (behind a) (here b) = let x = fault_within b in let y = faults_from a in absurd (omega arith)
one_number (behind a) (behind b) = one_number a b

one_fault : (s n p : ℕ) (qs : List (List ℕ)) (a b : NameErr) → NameFault s n qs p a → NameFault s n qs p b → rank a ≡ rank b → a ≡ b
one_fault s n p qs Empty b f g same = absurd (no_empty f)
one_fault s n p qs TooLong b f g same = absurd (no_too_long f)
one_fault s n p qs (BadQualifier k) Empty f g same = absurd (no_empty g)
one_fault s n p qs (BadQualifier k) TooLong f g same = absurd (no_too_long g)
one_fault s n p qs (BadQualifier k) (BadQualifier j) f g same = ap BadQualifier (one_number f g)
one_fault s n p qs (BadQualifier k) (BadByte at) f g same = absurd (omega arith)
one_fault s n p qs (BadByte at) Empty f g same = absurd (no_empty g)
one_fault s n p qs (BadByte at) TooLong f g same = absurd (no_too_long g)
one_fault s n p qs (BadByte at) (BadQualifier j) f g same = absurd (omega arith)
one_fault s n p qs (BadByte at) (BadByte bt) f g same = let x = byte_place f in let y = byte_place g in ap BadByte (omega arith)

one_first : (s n : ℕ) (qs : List (List ℕ)) (a b : NameErr) → IsFirstAmong s n qs a → IsFirstAmong s n qs b → a ≡ b
one_first s n qs a b f g =
    let same = first_at_one f.is g.is in
    one_fault s n g.place qs a b (subst (λ p. NameFault s n qs p a) same.0 f.is.met) g.is.met same.1

pub first_fault_is : (bytes : List ℕ) (err : NameErr) → 1 ≤ length bytes → length bytes ≤ 44 → IsFirstAmong 0 1 (qualifiers_of bytes) err → IsFirstNameFault bytes err
first_fault_is bytes Empty some short first = absurd (no_empty first.is.met)
first_fault_is bytes TooLong some short first = absurd (no_too_long first.is.met)
first_fault_is bytes (BadQualifier k) some short first = (some, short, first)
first_fault_is bytes (BadByte at) some short first = (some, short, first)

pub only_first : (bytes : List ℕ) (a b : NameErr) → 1 ≤ length bytes → length bytes ≤ 44 → IsFirstAmong 0 1 (qualifiers_of bytes) a → IsFirstNameFault bytes b → a ≡ b
only_first bytes a Empty some short first nil = let none : length bytes ≡ 0 = rw nil refl in absurd (omega arith)
only_first bytes a TooLong some short first long = absurd (omega arith)
only_first bytes a (BadQualifier k) some short first other = one_first 0 1 _ _ _ first other.2
only_first bytes a (BadByte at) some short first other = one_first 0 1 _ _ _ first other.2

pub no_first : (bytes : List ℕ) (err : NameErr) → 1 ≤ length bytes → length bytes ≤ 44 → list_all is_qualifier (qualifiers_of bytes) ≡ true → IsFirstNameFault bytes err → ⊥
no_first bytes Empty some short good nil = let none : length bytes ≡ 0 = rw nil refl in omega arith
no_first bytes TooLong some short good long = omega arith
no_first bytes (BadQualifier k) some short good first = all_good _ good _ _ _ _ first.2.is.met
no_first bytes (BadByte at) some short good first = all_good _ good _ _ _ _ first.2.is.met

pub not_a_name : (bytes : List ℕ) → list_all is_qualifier (qualifiers_of bytes) ≡ false → IsDataSetName bytes → ⊥
not_a_name bytes bad is = let good = all_are_good bytes is in cc
