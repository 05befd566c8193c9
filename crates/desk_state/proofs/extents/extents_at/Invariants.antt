use Rattle.std.proofs.Common.{◌≡◌, ◌++◌, drop}
use Rattle.desk_law.specs.Extents.{extents_at}
use Rattle.desk_state.proofs.extents.extents_at.Given as goal

-- the extents so far, and those of the pieces that are left
abbrev pub invariant-loop-piece : goal.invariant-loop-piece
invariant-loop-piece l = l.extents.items ++ extents_at l.volser (drop l.piece-index l.pieces) ≡ extents_at l.volser l.pieces
