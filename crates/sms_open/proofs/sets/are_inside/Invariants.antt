use Rattle.std.proofs.Common.{take}
use Rattle.std.specs.List.{AllByRecursion}
use Rattle.track_ledger.specs.Extents.{LiesInside}
use Rattle.desk_law.specs.Extents.{piece_of}
use Rattle.sms_open.specs.Inner.Targets.{number_on}
use Rattle.sms_open.proofs.sets.are_inside.Given as goal

-- it holds of the extents that were gone over
abbrev pub invariant-loop-extent : goal.invariant-loop-extent
invariant-loop-extent l = AllByRecursion (λ extent. LiesInside (number_on extent.volser l.tracks) (piece_of extent)) (take l.extent-index l.extents)
