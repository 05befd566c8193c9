use Rattle.std.proofs.Common.{◌≡◌, ◌≤◌, ◌*◌, take}
use Rattle.sms_volumes.specs.Inner.Showing.{free_in}
use Rattle.sms_volumes.proofs.showing.free_in.Given as goal

-- the free tracks of the volumes that were gone over, fewer than 2 ^ 32 each
abbrev pub invariant-loop-volume : goal.invariant-loop-volume
invariant-loop-volume l = (l.tracks ≡ free_in l.name (take l.volume-index l.volumes)) × (l.tracks ≤ l.volume-index * 4294967296)
