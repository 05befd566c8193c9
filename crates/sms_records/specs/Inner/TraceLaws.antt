-- What these record forms promise: what is read is written so, and what is written is read again.
use Rattle.std.proofs.Common.{refl}
use Rattle.acs_tree.specs.declared.line.Line.{Line}
use Rattle.acs_tree.specs.declared.more.More.{More}
use Rattle.sms_construct.specs.declared.trace.Trace.{Trace}
use Rattle.sms_records.specs.Form.{IsExact, IsReadable}
use Rattle.sms_records.specs.Inner.FormLaws.{◌&-exact◌, number_32_exact, made_exact, made_again}
use Rattle.sms_records.specs.Inner.ListLaws.{list_exact}
use Rattle.sms_records.specs.Inner.EnumLaws.{kind_exact}
use Rattle.sms_records.specs.Inner.TextLaws.{literal_exact}
use Rattle.sms_records.specs.Traces.{line_fields, line_form, more_fields, more_form, trace_fields, trace_form}

pub line_exact : IsExact line_form
line_exact = made_exact _ _ _ (kind_exact &-exact literal_exact) (λ a. refl)

pub line_readable : (x : Line) → IsReadable line_fields (x.kind, x.text) → IsReadable line_form x
line_readable = made_again _ _ _ (λ x. refl)

pub more_exact : IsExact more_form
more_exact =
    made_exact _ _ _ (number_32_exact &-exact number_32_exact &-exact number_32_exact
    &-exact number_32_exact) (λ a. refl)

pub more_readable : (x : More) → IsReadable more_fields (x.dataclas, (x.storclas, (x.mgmtclas, x.storgrp)))
    → IsReadable more_form x
more_readable = made_again _ _ _ (λ x. refl)

pub trace_exact : IsExact trace_form
trace_exact = made_exact _ _ _ (list_exact _ line_exact &-exact more_exact) (λ a. refl)

pub trace_readable : (x : Trace) → IsReadable trace_fields (x.lines, x.more) → IsReadable trace_form x
trace_readable = made_again _ _ _ (λ x. refl)
