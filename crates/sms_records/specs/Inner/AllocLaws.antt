-- What this record form promises: what is read is written so, and what is written is read again.
use Rattle.std.proofs.Common.{◌≡◌, ◌∙◌, ℕ, List, refl, ap}
use Rattle.std.specs.Str.{bytes_eq}
use Rattle.std.proofs.lemmas.Slice.Eq.{bytes_eq-Decides}
use Rattle.sms_construct.specs.declared.alloc.Alloc.{Alloc}
use Rattle.sms_records.specs.Form.{◌&◌, IsExact, IsReadable}
use Rattle.sms_records.specs.Inner.FormLaws.{◌&-exact◌, guard_some_of, number_32_exact, seen_exact, seen_readable}
use Rattle.sms_records.specs.Inner.ListLaws.{option_exact}
use Rattle.sms_records.specs.Texts.{dsn_form}
use Rattle.sms_records.specs.Inner.TextLaws.{dsn_exact, name_exact, volume_count_exact}
use Rattle.sms_records.specs.Inner.EnumLaws.{eattr_exact}
use Rattle.sms_records.specs.Inner.PartLaws.{space_exact}
use Rattle.sms_records.specs.Inner.InputLaws.{input_exact}
use Rattle.sms_records.specs.Allocs.{AskedFields, alloc_form, alloc_from, alloc_of, asked_form, asked_of}

named : (dsn : List ℕ) (x : AskedFields) (b : Alloc) → dsn ≡ x.0.dsn → alloc_from x ≡ b
    → let one : List ℕ × AskedFields = (dsn, x) in one ≡ (b.input.dsn, asked_of b)
named dsn x b same made =
    let put : List ℕ → List ℕ × AskedFields = λ name. (name, x) in
    ap put same ∙ ap (λ (y : Alloc). (y.input.dsn, asked_of y)) made

pub alloc_exact : IsExact alloc_form
alloc_exact = seen_exact (dsn_form & asked_form) alloc_of (λ x. (x.input.dsn, asked_of x))
    (dsn_exact &-exact input_exact &-exact option_exact _ space_exact &-exact option_exact _ name_exact
    &-exact option_exact _ name_exact &-exact option_exact _ name_exact &-exact option_exact _ volume_count_exact
    &-exact number_32_exact &-exact option_exact _ number_32_exact &-exact option_exact _ eattr_exact)
    (λ a b e.
    let g = guard_some_of (bytes_eq a.0 a.1.0.dsn) (alloc_from a.1) b e in
    named a.0 a.1 b ((bytes_eq-Decides a.0 a.1.0.dsn).0 g.0) g.1)

pub alloc_readable : (x : Alloc) → IsReadable (dsn_form & asked_form) (x.input.dsn, asked_of x)
    → IsReadable alloc_form x
alloc_readable x again =
    seen_readable (dsn_form & asked_form) alloc_of (λ y. (y.input.dsn, asked_of y)) x again
    (rw ((bytes_eq-Decides x.input.dsn x.input.dsn).1 refl) refl)
