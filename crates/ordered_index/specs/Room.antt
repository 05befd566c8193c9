-- Chunks and spare chunks.
use Rattle.std.specs.Prelude.{◌≡◌, ◌≤◌, ◌+◌, ℕ, List, [], length, Vec, vec_capacity}
use Rattle.std.specs.declared.alloc.Global.{Global}
use Rattle.std.specs.declared.cmp.Ordering.{Ordering}
use Rattle.std.specs.List.{All}
use Rattle.ordered_index.specs.Rows.{AreRows}
use Rattle.ordered_index.specs.Chunks.{AreFilled, rows_of}
use Rattle.ordered_index.specs.Index.{IndexView}

-- how many rows a chunk has room for
abbrev pub chunk_room : ℕ
chunk_room = 64

-- how many rows stay in a chunk that is parted
abbrev pub half_room : ℕ
half_room = 32

-- the chunk has its whole room, and no more rows than that
abbrev pub IsRoomy : {K V : Type 0} → Vec (K × V) Global → Type 0
IsRoomy chunk = (chunk_room ≤ vec_capacity chunk) × (length chunk.items ≤ chunk_room)

-- each chunk is
abbrev pub AreRoomy : {K V : Type 0} → List (Vec (K × V) Global) → Type 0
AreRoomy chunks = All IsRoomy chunks

-- the chunk is empty, and has its whole room
abbrev pub IsSpare : {K V : Type 0} → Vec (K × V) Global → Type 0
IsSpare chunk = (chunk_room ≤ vec_capacity chunk) × (chunk.items ≡ [])

-- each chunk is
abbrev pub AreSpare : {K V : Type 0} → List (Vec (K × V) Global) → Type 0
AreSpare chunks = All IsSpare chunks

-- the rows of the chunks stand in order, no chunk is empty, and there is a place for each spare chunk
pub record IsIndex {K V : Type 0} (R : K → K → Ordering)
    (chunks spares : Vec (Vec (K × V) Global) Global) : Type 0 where
  pub sorted : AreRows R (rows_of chunks.items)
  pub filled : AreFilled chunks.items
  pub roomy : AreRoomy chunks.items
  pub spare : AreSpare spares.items
  pub places : length chunks.items + length spares.items ≤ vec_capacity chunks

-- what is seen of the chunks
abbrev pub index_view : {K V : Type 0} → Vec (Vec (K × V) Global) Global → Vec (Vec (K × V) Global) Global →
    IndexView K V
index_view chunks spares = record { rows = rows_of chunks.items; room = length spares.items }
