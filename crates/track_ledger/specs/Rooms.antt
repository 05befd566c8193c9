-- The gaps of a volume, and room for more of them.
use Rattle.std.specs.Prelude.{ℕ, ◌≤◌, ◌<◌, ◌+◌, ◌^◌, List, length, Box, Vec, vec_capacity}
use Rattle.std.specs.declared.alloc.Global.{Global}
use Rattle.track_ledger.specs.declared.piece.Piece.{Piece}
use Rattle.track_ledger.specs.declared.tree.Node.{Node}
use Rattle.track_ledger.specs.declared.tree.Tree.{Tree}
use Rattle.track_ledger.specs.Inner.Trees.{items_of}

-- what is seen of the gaps of a volume: they by start, and for how many there is room
pub record GapsView : Type 0 where
  pub items : List Piece
  pub room : ℕ

-- what is seen of a tree of gaps beside nodes that are spare
abbrev pub gaps_view : Tree → Vec (Box Node Global) Global → GapsView
gaps_view tree spares = record { items = items_of tree; room = length (items_of tree) + length spares.items }

-- the number of them all fits 32 bits, and each node finds a place among the spare ones
pub record AreGaps (tree : Tree) (spares : Vec (Box Node Global) Global) : Type 0 where
  pub few : length (items_of tree) + length spares.items < 2 ^ 32
  pub places : length (items_of tree) + length spares.items ≤ vec_capacity spares
