use Rattle.std.proofs.Common.{subst}
use Rattle.acs_code.specs.Machine.{CodeParts}
use Rattle.acs_code.specs.Stands.{GoesForward}
use Rattle.acs_code.proofs.code.Code.instrs.Goals as goal

pub returns-clause-forward : goal.returns-clause-forward
returns-clause-forward c = subst (λ (code : CodeParts). GoesForward code) c.self.view_is c.self.invariant.1
