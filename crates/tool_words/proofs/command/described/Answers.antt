use Rattle.std.proofs.Common.{ap, refl, ◌∙◌}
use Rattle.clap.specs.Simple.{app_of_fields}
use Rattle.tool_words.proofs.command.described.Goals as goal

pub returns-clause-app : goal.returns-clause-app
returns-clause-app c = ap app_of_fields (c.override_usage.ensures) ∙ ap app_of_fields c.about.ensures

pub returns-clause-own : goal.returns-clause-own
returns-clause-own c = rw (c.override_usage.ensures, c.about.ensures) refl
