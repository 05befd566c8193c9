use Rattle.std.proofs.Common.{List, take}
use Rattle.std.specs.List.{AllByRecursion}
use Rattle.sms_construct.specs.declared.volume.VolumeDef.{VolumeDef}
use Rattle.desk_law.specs.Lawful.{IsLawfulSet}
use Rattle.sms_open.specs.Inner.Targets.{AreTracks}
use Rattle.sms_open.proofs.sets.are_lawful.Given as goal

-- it holds of the data sets that were gone over
abbrev pub invariant-loop-set : goal.invariant-loop-set
invariant-loop-set l = (volumes : List VolumeDef) → AreTracks volumes l.tracks → AllByRecursion (IsLawfulSet volumes) (take l.set-index l.sets)
