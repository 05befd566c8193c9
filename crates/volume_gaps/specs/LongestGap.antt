-- The longest gap of a volume (docs/manual/smsd.md, "Lists").
use Rattle.std.specs.Prelude.{ℕ, List, [], ◌∷◌, max, min}
use Rattle.desk_common.specs.Limits.{border}
use Rattle.track_ledger.specs.declared.piece.Piece.{Piece}
use Rattle.track_ledger.specs.Gaps.{gaps_within}

-- how many tracks the longest of these gaps has, 0 where there is none
abbrev pub longest : List Piece → ℕ
longest [] = 0
longest (gap ∷ gaps) = max gap.length (longest gaps)

-- how many tracks the longest gap of a volume of so many has beside these pieces, in the part that is track-managed or in
-- the one that is cylinder-managed
abbrev pub longest_gap : ℕ → List Piece → ℕ
longest_gap capacity pieces =
    max (longest (gaps_within 0 (min capacity border) pieces)) (longest (gaps_within border capacity pieces))
