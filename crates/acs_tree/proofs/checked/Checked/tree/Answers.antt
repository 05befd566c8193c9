use Rattle.std.proofs.Common.{subst}
use Rattle.acs_tree.specs.CheckedRoutine.{CheckedRoutine}
use Rattle.acs_tree.specs.Sound.{IsSound}
use Rattle.acs_tree.proofs.checked.Checked.tree.Goals as goal

pub returns-clause-sound : goal.returns-clause-sound
returns-clause-sound c = subst (λ (v : CheckedRoutine). IsSound v.tree v.kind) c.self.view_is c.self.invariant
