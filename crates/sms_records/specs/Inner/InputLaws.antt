-- What this record form promises: what is read is written so, and what is written is read again.
use Rattle.std.proofs.Common.{◌≡◌, ◌<◌, ◌^◌, ℕ, true, List, length, refl}
use Rattle.std.specs.Str.{bytes_eq}
use Rattle.std.specs.Cmp.{unsigned_Decides}
use Rattle.std.proofs.lemmas.Slice.Eq.{bytes_eq-Decides}
use Rattle.acs_tree.specs.Variables.{first_qualifier, last_qualifier}
use Rattle.dsn_mask.specs.Qualifiers.{qualifiers_of}
use Rattle.sms_records.specs.Form.{◌&◌, IsExact, IsReadable, number_form, text_form}
use Rattle.sms_records.specs.Inner.FormLaws.{◌&-exact◌, both_readable, guard_some_of, made_exact, number_exact}
use Rattle.sms_records.specs.Inner.FormLaws.{number_32_exact, number_readable, seen_exact, seen_readable, text_exact}
use Rattle.sms_records.specs.Inner.FormLaws.{text_readable}
use Rattle.sms_records.specs.Texts.{dsn_form}
use Rattle.sms_records.specs.Inner.TextLaws.{and_true, dsn_exact, short_exact}
use Rattle.sms_records.specs.Inner.PartLaws.{account_exact, first_true, second_true, volumes_exact}
use Rattle.sms_records.specs.Inputs.{NameParts, are_parts, input_form, name_parts_form, name_with_parts, parts_of_name}
use Rattle.sms_records.specs.Inputs.{seen_name_form}

same_parts : (dsn first last : List ℕ) (count : ℕ) → first ≡ first_qualifier dsn → last ≡ last_qualifier dsn
    → count ≡ length (qualifiers_of dsn)
    → let one : NameParts = (first, (last, count)) in one ≡ parts_of_name dsn
same_parts dsn first last count f l n = cc

parts_are : (dsn : List ℕ) (x : NameParts) → are_parts dsn x ≡ true → x ≡ parts_of_name dsn
parts_are dsn x e =
    let others = second_true (bytes_eq x.0 (first_qualifier dsn)) _ e in
    same_parts dsn x.0 x.1.0 x.1.1
    ((bytes_eq-Decides x.0 (first_qualifier dsn)).0 (first_true _ _ e))
    ((bytes_eq-Decides x.1.0 (last_qualifier dsn)).0 (first_true _ _ others))
    ((unsigned_Decides x.1.1 (length (qualifiers_of dsn))).0
    (second_true (bytes_eq x.1.0 (last_qualifier dsn)) _ others))

own_parts : (dsn : List ℕ) → are_parts dsn (parts_of_name dsn) ≡ true
own_parts dsn =
    and_true _ _ ((bytes_eq-Decides (first_qualifier dsn) (first_qualifier dsn)).1 refl)
    (and_true _ _ ((bytes_eq-Decides (last_qualifier dsn) (last_qualifier dsn)).1 refl)
    ((unsigned_Decides (length (qualifiers_of dsn)) (length (qualifiers_of dsn))).1 refl))

whole_name : (dsn b : List ℕ) (x : NameParts) → x ≡ parts_of_name dsn → dsn ≡ b
    → let one : List ℕ × NameParts = (dsn, x) in one ≡ (b, parts_of_name b)
whole_name dsn b x parts same = cc

pub seen_name_exact : IsExact seen_name_form
seen_name_exact = seen_exact (dsn_form & name_parts_form) name_with_parts (λ dsn. (dsn, parts_of_name dsn))
    (dsn_exact &-exact text_exact &-exact text_exact &-exact number_exact)
    (λ a b e. let g = guard_some_of (are_parts a.0 a.1) a.0 b e in whole_name a.0 b a.1 (parts_are a.0 a.1 g.0) g.1)

pub seen_name_readable : (dsn : List ℕ) → IsReadable dsn_form dsn → length (first_qualifier dsn) < 2 ^ 64
    → length (last_qualifier dsn) < 2 ^ 64 → length (qualifiers_of dsn) < 2 ^ 64 → IsReadable seen_name_form dsn
seen_name_readable dsn again first last count =
    let parts = both_readable text_form (text_form & number_form) (first_qualifier dsn)
    (last_qualifier dsn, length (qualifiers_of dsn))
    (text_readable (first_qualifier dsn) first)
    (both_readable text_form number_form (last_qualifier dsn) (length (qualifiers_of dsn))
    (text_readable (last_qualifier dsn) last) (number_readable (length (qualifiers_of dsn)) count)) in
    seen_readable (dsn_form & name_parts_form) name_with_parts (λ name. (name, parts_of_name name)) dsn
    (both_readable dsn_form name_parts_form dsn (parts_of_name dsn) again parts)
    (rw (own_parts dsn) refl)

pub input_exact : IsExact input_form
input_exact = made_exact _ _ _
    (seen_name_exact
    &-exact (short_exact &-exact short_exact &-exact short_exact &-exact short_exact &-exact short_exact)
    &-exact (short_exact &-exact short_exact &-exact short_exact &-exact short_exact)
    &-exact (short_exact &-exact short_exact &-exact short_exact &-exact short_exact &-exact short_exact
    &-exact short_exact)
    &-exact (short_exact &-exact short_exact &-exact short_exact)
    &-exact ((short_exact &-exact short_exact) &-exact number_32_exact &-exact number_32_exact)
    &-exact volumes_exact &-exact (account_exact &-exact account_exact) &-exact number_exact &-exact number_exact)
    (λ a. refl)
