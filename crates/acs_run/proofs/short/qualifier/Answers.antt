use Rattle.std.proofs.Common.{◌∙◌}
use Rattle.dsn_mask.specs.Qualifiers.{qualifiers_of}
use Rattle.acs_run.proofs.QualifierLemmas.{no_qualifier, qualifier_is_short}
use Rattle.acs_run.proofs.short.qualifier.Goals as goal

pub short-requires : goal.short-requires
short-requires c = qualifier_is_short c.args.dsn.now _ c.in-Some.bytes.now c.bytes-form.ensures.form c.in-Some.ensures.1

pub returns-in-None : goal.returns-in-None
returns-in-None c = c.null.ensures ∙ no_qualifier (qualifiers_of c.args.dsn.now) c.args.number c.in-None.ensures
