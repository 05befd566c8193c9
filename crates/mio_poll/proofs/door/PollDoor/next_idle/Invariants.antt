-- Nothing changes while none is found.
use Rattle.std.proofs.Common.{◌≡◌, ◌-◌, length}
use Rattle.mio_poll.proofs.door.PollDoor.next_idle.Given as goal

abbrev pub invariant-loop-key : goal.invariant-loop-key
invariant-loop-key g l = l.self.faults ≡ l.initial.self.faults

abbrev pub decreases-loop-key : goal.decreases-loop-key
decreases-loop-key g l = length l.self.active.items - l.key
