use Rattle.std.proofs.Common.{arith, rules}
use Rattle.std.proofs.lemmas.Grind.{common_steps}
use Rattle.std.specs.Cmp.Rules.{comparing}
use Rattle.acs_test.proofs.LineLemmas.{lines_decided}
use Rattle.acs_test.proofs.outcome.are_lines.Goals as goal

pub returns : goal.returns
returns c = lines_decided _ _ _ c.eq.ensures (λ a b. first_of (search rules, search (comparing, rules), grind (arith, common_steps)))
