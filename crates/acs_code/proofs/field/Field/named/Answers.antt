use Rattle.std.proofs.Common.{◌∙◌, ap}
use Rattle.std.specs.Prelude.{Option}
use Rattle.std.specs.Option.{unwrap_or}
use Rattle.acs_code.specs.declared.field.Field.{Field}
use Rattle.acs_code.specs.Fields.{field_of, nothing}
use Rattle.acs_code.proofs.FieldLemmas.{by_length}
use Rattle.acs_code.proofs.field.Field.named.Goals as goal

pub returns-in-Some : goal.returns-in-Some
returns-in-Some c = ap (λ (found : Option Field). unwrap_or found nothing) (c.in-Some.ensures ∙ by_length c.bytes-bytes.result.now _ c.with_length.ensures) ∙ ap field_of c.bytes-bytes.ensures.bytes

pub returns-in-None : goal.returns-in-None
returns-in-None c = ap (λ (found : Option Field). unwrap_or found nothing) (c.in-None.ensures ∙ by_length c.bytes-bytes.result.now _ c.with_length.ensures) ∙ ap field_of c.bytes-bytes.ensures.bytes
