-- The gaps along pieces in the order of their first tracks.
use Rattle.std.specs.Prelude.{ℕ, ◌+◌, ◌-◌, ◌==◌, List, [], ◌∷◌, max, min, if◌then◌else◌}
use Rattle.track_ledger.specs.declared.piece.Piece.{Piece}

-- how many tracks lie from one on before a piece, and before another track; a piece of none cuts no gap
abbrev pub before : ℕ → ℕ → Piece → ℕ
before at end piece = if piece.length == 0 then 0 else min piece.start end - at

-- the first track behind a piece that isn't before this one
abbrev pub behind : ℕ → Piece → ℕ
behind at piece = if piece.length == 0 then at else max at (piece.start + piece.length)

-- the most tracks that lie from one on before one of the pieces, or before another track
abbrev pub most_before : ℕ → ℕ → List Piece → ℕ
most_before at end [] = end - at
most_before at end (piece ∷ pieces) = max (before at end piece) (most_before (behind at piece) end pieces)
