-- What these record forms promise: what is read is written so, and what is written is read again.
use Rattle.std.proofs.Common.{arith, ◌≡◌, ◌<◌, ◌^◌, ℕ, Bool, true, cond, List, length, Some, None, refl}
use Rattle.std.specs.Prelude.{nat_le, ◌&&◌}
use Rattle.std.proofs.lemmas.Bool.{le-leb}
use Rattle.std.proofs.lemmas.List.Sums.{list_all-from_AllPass}
use Rattle.desk_common.specs.Limits.{most_literal_bytes, most_name_bytes, most_value_bytes, most_volser_bytes}
use Rattle.desk_common.specs.Limits.{most_number, most_volume_count}
use Rattle.dsn_mask.specs.Name.{IsName, IsVolser, IsShort, IsLiteral, is_name, is_volser, is_short, is_literal}
use Rattle.dsn_mask.specs.Name.{is_name_byte, is_short_byte, is_literal_byte}
use Rattle.dsn_mask.specs.DataSetName.{IsDataSetName, IsQualifier, is_qualifier, is_qualifier_byte, is_data_set_name}
use Rattle.dsn_mask.specs.Qualifiers.{qualifiers_of}
use Rattle.sms_construct.specs.Quantities.{IsRequestNumber, IsVolumeCount}
use Rattle.sms_records.specs.Form.{IsExact, IsReadable, seen, text_form, number_form}
use Rattle.sms_records.specs.Inner.FormLaws.{seen_exact, seen_readable, text_exact, text_readable, number_exact}
use Rattle.sms_records.specs.Inner.FormLaws.{number_readable, guard_some_of}
use Rattle.sms_records.specs.Texts.{name_form, volser_form, short_form, literal_form, dsn_form, request_number_form}
use Rattle.sms_records.specs.Texts.{volume_count_form}

pub text_type_exact : (test : List ℕ → Bool) → IsExact (seen text_form (λ a. cond (test a) (Some a) None) (λ x. x))
text_type_exact test = seen_exact text_form (λ a. cond (test a) (Some a) None) (λ x. x) text_exact
    (λ a b e. (guard_some_of (test a) a b e).1)

pub text_type_readable : (test : List ℕ → Bool) (a : List ℕ) → length a < 2 ^ 64 → test a ≡ true
    → IsReadable (seen text_form (λ a. cond (test a) (Some a) None) (λ x. x)) a
text_type_readable test a few passes = seen_readable text_form (λ a. cond (test a) (Some a) None) (λ x. x) a
    (text_readable a few) (rw passes refl)

number_type_exact : (test : ℕ → Bool) → IsExact (seen number_form (λ a. cond (test a) (Some a) None) (λ x. x))
number_type_exact test = seen_exact number_form (λ a. cond (test a) (Some a) None) (λ x. x) number_exact
    (λ a b e. (guard_some_of (test a) a b e).1)

number_type_readable : (test : ℕ → Bool) (a : ℕ) → a < 2 ^ 64 → test a ≡ true
    → IsReadable (seen number_form (λ a. cond (test a) (Some a) None) (λ x. x)) a
number_type_readable test a few passes = seen_readable number_form (λ a. cond (test a) (Some a) None) (λ x. x) a
    (number_readable a few) (rw passes refl)

pub and_true : (a b : Bool) → a ≡ true → b ≡ true → (a && b) ≡ true
and_true a b ha hb = rw (ha, hb) refl

pub name_exact : IsExact name_form
name_exact = text_type_exact is_name

pub name_readable : (a : List ℕ) → IsName a → IsReadable name_form a
name_readable a h = text_type_readable is_name a (omega (arith, h.1))
    (and_true _ _ (le-leb 1 (length a) h.0)
    (and_true _ _ (le-leb (length a) most_name_bytes h.1)
    (and_true _ _ h.2 (list_all-from_AllPass is_name_byte a h.3))))

pub volser_exact : IsExact volser_form
volser_exact = text_type_exact is_volser

pub volser_readable : (a : List ℕ) → IsVolser a → IsReadable volser_form a
volser_readable a h = text_type_readable is_volser a (omega (arith, h.1))
    (and_true _ _ (le-leb 1 (length a) h.0)
    (and_true _ _ (le-leb (length a) most_volser_bytes h.1) (list_all-from_AllPass is_name_byte a h.2)))

pub short_exact : IsExact short_form
short_exact = text_type_exact is_short

pub short_readable : (a : List ℕ) → IsShort a → IsReadable short_form a
short_readable a h = text_type_readable is_short a (omega (arith, h.0))
    (and_true _ _ (le-leb (length a) most_value_bytes h.0) (list_all-from_AllPass is_short_byte a h.1))

pub literal_exact : IsExact literal_form
literal_exact = text_type_exact is_literal

pub literal_readable : (a : List ℕ) → IsLiteral a → IsReadable literal_form a
literal_readable a h = text_type_readable is_literal a (omega (arith, h.0))
    (and_true _ _ (le-leb (length a) most_literal_bytes h.0) (list_all-from_AllPass is_literal_byte a h.1))

pub dsn_exact : IsExact dsn_form
dsn_exact = text_type_exact is_data_set_name

qualifier_passes : (a : List ℕ) → IsQualifier a → is_qualifier a ≡ true
qualifier_passes a h = and_true _ _ (le-leb 1 (length a) h.0)
    (and_true _ _ (le-leb (length a) most_name_bytes h.1)
    (and_true _ _ h.2 (list_all-from_AllPass is_qualifier_byte a h.3)))

pub dsn_readable : (a : List ℕ) → IsDataSetName a → IsReadable dsn_form a
dsn_readable a h = text_type_readable is_data_set_name a (omega (arith, h.0))
    (and_true _ _ (le-leb (length a) most_value_bytes h.0)
    (list_all-from_AllPass is_qualifier (qualifiers_of a) (λ k x at. qualifier_passes _ (h.1 k x at))))

pub request_number_exact : IsExact request_number_form
request_number_exact = number_type_exact (λ a. nat_le 1 a && nat_le a most_number)

pub request_number_readable : (a : ℕ) → IsRequestNumber a → IsReadable request_number_form a
request_number_readable a h = number_type_readable (λ a. nat_le 1 a && nat_le a most_number) a (omega (arith, h.1))
    (and_true _ _ (le-leb 1 a h.0) (le-leb a most_number h.1))

pub volume_count_exact : IsExact volume_count_form
volume_count_exact = number_type_exact (λ a. nat_le 1 a && nat_le a most_volume_count)

pub volume_count_readable : (a : ℕ) → IsVolumeCount a → IsReadable volume_count_form a
volume_count_readable a h = number_type_readable (λ a. nat_le 1 a && nat_le a most_volume_count) a
    (omega (arith, h.1)) (and_true _ _ (le-leb 1 a h.0) (le-leb a most_volume_count h.1))
