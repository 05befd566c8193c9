-- With what is left, the volumes are the whole.
use Rattle.std.proofs.Common.{◌≡◌, ◌++◌, length, map}
use Rattle.volume_gaps.specs.ListedVolumes.{listed_volume}
use Rattle.volume_gaps.proofs.measuring.listed_volumes.Given as goal

abbrev pub invariant-loop-rest : goal.invariant-loop-rest
invariant-loop-rest l =
    l.volumes.items ++ map (listed_volume l.fn.groups l.fn.extents) l.rest
    ≡ map (listed_volume l.fn.groups l.fn.extents) l.fn.rows

abbrev pub decreases-loop-rest : goal.decreases-loop-rest
decreases-loop-rest l = length l.rest
