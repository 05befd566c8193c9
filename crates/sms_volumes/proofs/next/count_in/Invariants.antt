use Rattle.std.proofs.Common.{◌≡◌, ◌≤◌, length, take}
use Rattle.std.specs.Prelude.{bytes_eq, filter}
use Rattle.sms_volumes.proofs.next.count_in.Given as goal

-- the volumes of the group among those that were gone over
abbrev pub invariant-loop-volume : goal.invariant-loop-volume
invariant-loop-volume l = (l.count ≡ length (filter (λ volume. bytes_eq volume.group l.name) (take l.volume-index l.volumes))) × (l.count ≤ l.volume-index)
