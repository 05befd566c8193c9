-- Variables and filter lists.
use Rattle.std.proofs.Common.{◌≡◌, ℕ, Bool, List, refl, sym, ap, ◌∙◌}
use Rattle.std.specs.Prelude.{Option, Some, None, slice_get}
use Rattle.acs_tree.specs.declared.input.Input.{Input}
use Rattle.acs_tree.specs.declared.values.Values.{Values}
use Rattle.acs_tree.specs.Value.{Value, Text}
use Rattle.dsn_mask.specs.Filter.{FilterLists}
use Rattle.acs_tree.specs.Compares.{compares, text_equals, texts_compare}
use Rattle.acs_code.specs.declared.field.Field.{Field}
use Rattle.acs_code.specs.declared.field.Field.TheVariants.{Dsn}
use Rattle.acs_code.specs.declared.probe.Probe.{Probe}
use Rattle.acs_code.specs.declared.right.Right.{Right}
use Rattle.acs_code.specs.declared.right.Right.TheVariants.{Filter}
use Rattle.acs_code.specs.Fields.{field_of, field_value}
use Rattle.acs_code.specs.Machine.{filter_comparand, probe_holds, right_comparand}
use Rattle.acs_code.proofs.FieldLemmas.{by_field}
use Rattle.acs_run.specs.Inner.Seen.{passes_if_any}

-- a text and the filter list at a place
pub by_filter : (input : Input) (values : Values) (text : List ℕ) (lists : Option FilterLists) → text_equals input values (filter_comparand lists) text ≡ passes_if_any text lists
by_filter input values text None = refl
by_filter input values text (Some lists) = refl

-- a probe compares what the field of its left side reads
pub on_left : (filters : List FilterLists) (probe : Probe) (input : Input) (values : Values) (left : Field) → left ≡ field_of probe.left.name → compares input values probe.op (field_value left probe.left.index input values) (right_comparand filters probe.right) ≡ probe_holds filters probe input values
on_left filters probe input values left is =
    ap (λ (held : Value). compares input values probe.op held (right_comparand filters probe.right))
    (ap (λ (field : Field). field_value field probe.left.index input values) is ∙ by_field probe.left.name probe.left.index input values)

-- a field that reads a text
pub by_text : (filters : List FilterLists) (probe : Probe) (input : Input) (values : Values) (left : Field) (text : List ℕ) → left ≡ field_of probe.left.name → Text text ≡ field_value left probe.left.index input values → texts_compare probe.op (text_equals input values (right_comparand filters probe.right) text) ≡ probe_holds filters probe input values
by_text filters probe input values left text name reads =
    ap (λ (held : Value). compares input values probe.op held (right_comparand filters probe.right)) reads ∙ on_left filters probe input values left name

-- a field that reads a text, beside a filter list
pub by_list : (filters : List FilterLists) (probe : Probe) (input : Input) (values : Values) (left : Field) (text : List ℕ) (place : ℕ) (passed : Bool) → left ≡ field_of probe.left.name → Text text ≡ field_value left probe.left.index input values → probe.right ≡ Filter place → passed ≡ passes_if_any text (slice_get filters place) → texts_compare probe.op passed ≡ probe_holds filters probe input values
by_list filters probe input values left text place passed name reads right is =
    ap (texts_compare probe.op) (is ∙ sym (by_filter input values text (slice_get filters place)))
    ∙ ap (λ (other : Right). compares input values probe.op (Text text) (right_comparand filters other)) (sym right)
    ∙ by_text filters probe input values left text name reads

-- the whole name
pub whole_name : (index : ℕ) (input : Input) (values : Values) (dsn : List ℕ) → index ≡ 0 → dsn ≡ input.dsn → Text dsn ≡ field_value Dsn index input values
whole_name index input values dsn whole same = ap Text same ∙ ap (λ (n : ℕ). field_value Dsn n input values) (sym whole)
