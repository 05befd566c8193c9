-- A tree of gaps.
use Rattle.std.specs.Prelude.{ℕ, ◌≡◌, List, [], ◌∷◌, ◌++◌, length}
use Rattle.track_ledger.specs.declared.measure.Longest.{Longest}
use Rattle.track_ledger.specs.declared.piece.Piece.{Piece}
use Rattle.track_ledger.specs.declared.tree.Tree.{Tree}
use Rattle.track_ledger.specs.declared.tree.Tree.TheVariants.{Empty, Full}
use Rattle.track_ledger.specs.Inner.Measures.{AreLongest}

-- the gaps of a tree
abbrev pub items_of : Tree → List Piece
items_of Empty = []
items_of (Full node) = node.value

-- a gap between those of two trees
abbrev pub gaps_around : Tree → Piece → Tree → List Piece
gaps_around left gap right = items_of left ++ (gap ∷ items_of right)

-- there are so many gaps, and the longest are so long
pub record IsNode (gaps : List Piece) (count : ℕ) (longest : Longest) : Type 0 where
  pub counted : count ≡ length gaps
  pub measured : AreLongest gaps longest
