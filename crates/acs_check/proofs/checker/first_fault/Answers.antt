use Rattle.std.proofs.Common.{arith, rules}
use Rattle.std.proofs.lemmas.Grind.{common_steps}
use Rattle.acs_check.specs.Inner.Walk.{first_fault_of}
use Rattle.acs_check.proofs.checker.first_fault.Goals as goal

pub returns : goal.returns
unfolding first_fault_of
returns c = first_of (search rules, grind (arith, common_steps))
