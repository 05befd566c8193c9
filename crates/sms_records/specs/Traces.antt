-- The record forms of what routines wrote (docs/manual/records.md, "The record form").
use Rattle.std.specs.Prelude.{ℕ, List}
use Rattle.acs_tree.specs.declared.kind.Kind.{Kind}
use Rattle.acs_tree.specs.declared.line.Line.{Line}
use Rattle.acs_tree.specs.declared.more.More.{More}
use Rattle.sms_construct.specs.declared.trace.Trace.{Trace}
use Rattle.sms_records.specs.Form.{◌&◌, Form, made, list, number_32_form}
use Rattle.sms_records.specs.Enums.{kind_form}
use Rattle.sms_records.specs.Texts.{literal_form}

-- a line that a routine wrote
abbrev pub line_fields : Form (Kind × List ℕ)
line_fields = kind_form & literal_form

-- the form of a line
abbrev pub line_form : Form Line
line_form = made line_fields (λ x. record { kind = x.0; text = x.1 }) (λ x. (x.kind, x.text))

-- how many lines of each kind of routine were not kept
abbrev pub more_fields : Form (ℕ × (ℕ × (ℕ × ℕ)))
more_fields = number_32_form & number_32_form & number_32_form & number_32_form

-- the form of such counts
abbrev pub more_form : Form More
more_form = made more_fields
    (λ x. record { dataclas = x.0; storclas = x.1.0; mgmtclas = x.1.1.0; storgrp = x.1.1.1 })
    (λ x. (x.dataclas, (x.storclas, (x.mgmtclas, x.storgrp))))

-- what the routines of a request wrote
abbrev pub trace_fields : Form (List Line × More)
trace_fields = list line_form & more_form

-- the form of a trace
abbrev pub trace_form : Form Trace
trace_form = made trace_fields (λ x. record { lines = x.0; more = x.1 }) (λ x. (x.lines, x.more))
