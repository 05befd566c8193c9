-- What these record forms promise: what is read is written so, and what is written is read again.
use Rattle.std.proofs.Common.{arith, ◌≡◌, ◌<◌, ◌≤◌, ◌^◌, ℕ, Bool, true, false, List, length, ◌++◌, ◌∙◌, append_assoc}
use Rattle.std.proofs.Common.{refl, ap}
use Rattle.std.specs.Prelude.{◌==◌, nat_le, ◌&&◌}
use Rattle.std.specs.List.{list_all}
use Rattle.std.specs.Int.{w64, to_be_bytes}
use Rattle.std.proofs.lemmas.Bool.{le-leb, leb-true, eqb-true}
use Rattle.std.specs.Cmp.{unsigned_Decides}
use Rattle.desk_common.specs.Limits.{most_account_fields, most_path_bytes, most_quantity, most_volume_count}
use Rattle.sms_construct.specs.Path.{is_shown, IsPath}
use Rattle.sms_construct.specs.Quantities.{Quantities, IsSpace, space_of}
use Rattle.sms_records.specs.Form.{◌&◌, IsExact, IsReadable, list, number_form, number_32_form}
use Rattle.sms_records.specs.Inner.FormLaws.{◌&-exact◌, both_readable, guard_some_of, number_exact, number_32_exact}
use Rattle.sms_records.specs.Inner.FormLaws.{number_readable, seen_exact, seen_readable}
use Rattle.sms_records.specs.Inner.ListLaws.{list_exact}
use Rattle.sms_records.specs.Texts.{short_form, volser_form}
use Rattle.sms_records.specs.Inner.TextLaws.{short_exact, volser_exact, and_true, text_type_exact, text_type_readable}
use Rattle.sms_records.specs.Enums.{unit_form}
use Rattle.sms_records.specs.Inner.EnumLaws.{unit_exact}
use Rattle.sms_records.specs.Parts.{account_form, account_of, path_form, space_form, volumes_form, volumes_of}

pub first_true : (a b : Bool) → (a && b) ≡ true → a ≡ true
first_true true b e = refl
first_true false b e = absurd cc

pub second_true : (a b : Bool) → (a && b) ≡ true → b ≡ true
second_true true b e = e
second_true false b e = absurd cc

pub account_exact : IsExact account_form
account_exact = seen_exact (list short_form) account_of (λ x. x) (list_exact short_form short_exact)
    (λ a b e. (guard_some_of (nat_le (length a) most_account_fields) a b e).1)

pub account_readable : (x : List (List ℕ)) → length x ≤ most_account_fields → IsReadable (list short_form) x
    → IsReadable account_form x
account_readable x few again =
    seen_readable (list short_form) account_of (λ x. x) x again (rw (le-leb (length x) most_account_fields few) refl)

counted : (n : ℕ) (a b : List (List ℕ)) → n ≡ length a → a ≡ b → let one : ℕ × List (List ℕ) =
    (n, a) in one ≡ (length b, b)
counted n a b e same = cc

pub volumes_exact : IsExact volumes_form
volumes_exact = seen_exact (number_form & list volser_form) volumes_of (λ x. (length x, x))
    (number_exact &-exact list_exact volser_form volser_exact)
    (λ a b e.
    let test = (a.0 == length a.1) && nat_le (length a.1) most_volume_count in
    let g = guard_some_of test a.1 b e in
    counted a.0 a.1 b (eqb-true _ _ (first_true _ _ g.0)) g.1)

pub volumes_readable : (x : List (List ℕ)) → length x ≤ most_volume_count → length x < 2 ^ 64
    → IsReadable (list volser_form) x → IsReadable volumes_form x
volumes_readable x few fits again =
    seen_readable (number_form & list volser_form) volumes_of (λ x. (length x, x)) x
    (both_readable number_form (list volser_form) (length x) x (number_readable (length x) fits) again)
    (rw (and_true _ _ ((unsigned_Decides (length x) (length x)).1 refl)
    (le-leb (length x) most_volume_count few)) refl)

pub volumes_written : (old mid new : List ℕ) (found x : List (List ℕ)) → found ≡ x
    → mid ≡ old ++ to_be_bytes w64 (length found)
    → new ≡ mid ++ (list volser_form).write found → new ≡ old ++ volumes_form.write x
volumes_written old mid new found x same first second =
    second ∙ ap (λ (bytes : List ℕ). bytes ++ (list volser_form).write found) first
    ∙ append_assoc old (to_be_bytes w64 (length found)) ((list volser_form).write found)
    ∙ ap (λ (y : List (List ℕ)). old ++ volumes_form.write y) same

pub path_exact : IsExact path_form
path_exact = text_type_exact (λ bytes. nat_le (length bytes) most_path_bytes && list_all is_shown bytes)

pub path_readable : (x : List ℕ) → IsPath x → IsReadable path_form x
path_readable x is =
    let few : length x ≤ most_path_bytes = leb-true (length x) most_path_bytes (first_true _ _ is) in
    text_type_readable (λ bytes. nat_le (length bytes) most_path_bytes && list_all is_shown bytes) x
    (omega (arith, few)) is

pub space_exact : IsExact space_form
space_exact = seen_exact (unit_form & number_32_form & number_32_form)
    (λ a. space_of a.0 a.1.0 a.1.1) (λ q. (q.unit, (q.primary, q.secondary)))
    (unit_exact &-exact number_32_exact &-exact number_32_exact)
    (λ a b e.
    let test = nat_le 1 a.1.0 && (nat_le a.1.0 most_quantity && nat_le a.1.1 most_quantity) in
    let made : Quantities = record { unit = a.0; primary = a.1.0; secondary = a.1.1 } in
    ap (λ (q : Quantities). (q.unit, (q.primary, q.secondary))) (guard_some_of test made b e).1)

pub space_readable : (x : Quantities) → IsSpace x
    → IsReadable (unit_form & number_32_form & number_32_form) (x.unit, (x.primary, x.secondary))
    → IsReadable space_form x
space_readable x is again =
    let primary = and_true _ _ (le-leb x.primary most_quantity is.primary)
    (le-leb x.secondary most_quantity is.secondary) in
    seen_readable (unit_form & number_32_form & number_32_form)
    (λ a. space_of a.0 a.1.0 a.1.1) (λ q. (q.unit, (q.primary, q.secondary))) x again
    (rw (and_true _ _ (le-leb 1 x.primary is.some) primary) refl)
