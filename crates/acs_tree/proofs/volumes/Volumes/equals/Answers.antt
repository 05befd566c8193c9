use Rattle.std.proofs.Common.{refl}
use Rattle.std.proofs.lemmas.Slice.Eq.{slice_eq-Decides}
use Rattle.std.specs.Cmp.{unsigned_Decides}
use Rattle.acs_tree.proofs.volumes.Volumes.equals.Goals as goal

pub returns : goal.returns
returns c = slice_eq-Decides (λ a b. slice_eq-Decides unsigned_Decides a b _ refl) c.args.self.now c.args.other.now c.eq.result c.eq.ensures
