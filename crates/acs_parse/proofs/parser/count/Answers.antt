use Rattle.std.proofs.Common.{◌≤◌, length, arith}
use Rattle.std.proofs.lemmas.Grind.{common_steps}
use Rattle.acs_parse.proofs.RoutineLemmas.{count_at_last}
use Rattle.acs_parse.proofs.parser.count.Goals as goal

pub returns-in-Some : goal.returns-in-Some
returns-in-Some c =
    let less : length c.args.tokens.now ≤ c.in-Some.last.now.to = omega (arith, count_at_last 0 c.requires.0 c.args.tokens.now c.in-Some.last.now c.requires.1 (grind (arith, common_steps))) in
    grind (arith, common_steps)
