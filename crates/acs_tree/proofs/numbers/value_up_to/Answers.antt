use Rattle.std.proofs.Common.{arith}
use Rattle.std.proofs.lemmas.Grind.{common_steps}
use Rattle.acs_tree.proofs.NumberLemmas.{value_past}
use Rattle.acs_tree.proofs.numbers.value_up_to.Goals as goal

pub returns-then-digit-most-clause-value : goal.returns-then-digit-most-clause-value
returns-then-digit-most-clause-value c =
    value_past c.digits.value c.args.most c.in-Some.first.now c.in-Some.behind.now c.digits.rest.now c.args.digits.now c.digits.invariant.0 (grind (arith, common_steps)) (omega arith)

pub returns-then-value-most-clause-value : goal.returns-then-value-most-clause-value
returns-then-value-most-clause-value c =
    value_past c.digits.value c.args.most c.in-Some.first.now c.in-Some.behind.now c.digits.rest.now c.args.digits.now c.digits.invariant.0 (grind (arith, common_steps)) (omega arith)
