use Rattle.std.proofs.Common.{arith}
use Rattle.std.proofs.lemmas.Grind.{common_steps}
use Rattle.acs_parse.proofs.ShapeLemmas.{operator_word}
use Rattle.acs_parse.proofs.tokens.operator.Goals as goal

pub returns-in-Some-Word-Compare-default-default : goal.returns-in-Some-Word-Compare-default-default
returns-in-Some-Word-Compare-default-default c = operator_word {text = c.in-Some-Word-Compare-default-default.field-0-0-1} (grind (arith, common_steps))
