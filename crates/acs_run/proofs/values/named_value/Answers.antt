use Rattle.std.proofs.Common.{◌∙◌, ap}
use Rattle.acs_code.specs.declared.field.Field.{Field}
use Rattle.acs_code.specs.Fields.{field_value}
use Rattle.acs_code.proofs.FieldLemmas.{by_field}
use Rattle.acs_run.proofs.values.named_value.Goals as goal

pub returns : goal.returns
returns c = c.value.ensures ∙ ap (λ (field : Field). field_value field c.args.slot.now.index c.args.input.now c.args.values.now) c.named.ensures ∙ by_field c.args.slot.now.name c.args.slot.now.index c.args.input.now c.args.values.now
