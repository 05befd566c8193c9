use Rattle.std.proofs.Common.{◌≡◌, ◌≤◌, ◌+◌, ◌++◌, length, reverse, vec_capacity}
use Rattle.ordered_index.specs.Room.{chunk_room, half_room}
use Rattle.ordered_index.proofs.moving.move_half.Given as goal

abbrev pub invariant-loop-behind : goal.invariant-loop-behind
invariant-loop-behind g l = (l.chunk.items ++ reverse l.behind.items ≡ l.initial.chunk.items) × ((half_room ≤ length l.chunk.items) × ((length l.chunk.items + length l.behind.items ≡ chunk_room)
    × ((vec_capacity l.chunk ≡ vec_capacity l.initial.chunk) × (vec_capacity l.behind ≡ vec_capacity l.initial.behind))))

abbrev pub decreases-loop-behind : goal.decreases-loop-behind
decreases-loop-behind g l = goal.left-loop-behind g l
