use Rattle.std.proofs.Common.{arith}
use Rattle.std.proofs.lemmas.Grind.{common_steps}
use Rattle.acs_parse.proofs.ShapeLemmas.{named_word}
use Rattle.acs_parse.proofs.tokens.list_name.Goals as goal

pub returns-in-Some-Word-default : goal.returns-in-Some-Word-default
returns-in-Some-Word-default c = named_word {kind = c.in-Some-Word-default.field-0-0-0} (grind (arith, common_steps))
