-- What becomes of the running volumes when a data set gets tracks or gives them back.
use Rattle.std.specs.Prelude.{ℕ, ◌≡◌, ◌<◌, ◌≤◌, List, [], ◌∷◌, ◌++◌, Option, None, Some, length, option_map, slice_get}
use Rattle.std.specs.List.{All}
use Rattle.sms_construct.specs.declared.extent.Extent.{Extent}
use Rattle.sms_construct.specs.declared.volume.VolumeDef.{VolumeDef}
use Rattle.track_ledger.specs.declared.piece.Piece.{Piece}
use Rattle.track_ledger.specs.Extents.{LiesInside, LieInGaps}
use Rattle.track_ledger.specs.Ledger.{IsLedgerOf}
use Rattle.desk_law.specs.State.{DeskState}
use Rattle.desk_law.specs.Extents.{extents_named, pieces_on}
use Rattle.desk_law.specs.Lawful.{IsLawful}
use Rattle.sms_volumes.specs.Holding.{AreVolumesOf}
use Rattle.sms_volumes.specs.declared.active_volume.ActiveVolume.{ActiveVolume}
use Rattle.sms_volumes.specs.declared.active_volumes.ActiveVolumes.{ActiveVolumes}

-- the pieces lie inside the volume, and nobody holds them
pub record IsFree (volume : ActiveVolume) (pieces : List Piece) : Type 0 where
  pub inside : All (LiesInside volume.ledger.capacity) pieces
  pub free : LieInGaps volume.ledger.gaps pieces

-- and there is room for them, so that the volume takes them without memory
pub record IsReady (volume : ActiveVolume) (pieces : List Piece) : Type 0 where
  pub room : length pieces ≤ volume.ledger.spare
  pub free : IsFree volume pieces

-- the pieces are free on the volume at this place
pub record IsFreeAt (running : ActiveVolumes) (place : ℕ) (pieces : List Piece) : Type 0 where
  pub volume : ActiveVolume
  pub at : slice_get running.volumes.items place ≡ Some volume
  pub free : IsFree volume pieces

-- the volume at this place can take them
pub record IsReadyAt (running : ActiveVolumes) (place : ℕ) (pieces : List Piece) : Type 0 where
  pub volume : ActiveVolume
  pub at : slice_get running.volumes.items place ≡ Some volume
  pub ready : IsReady volume pieces

-- the volume at the place, as the configuration defines it
abbrev pub running_at : ℕ → ActiveVolumes → Option VolumeDef
running_at place running = option_map (λ volume. volume.volume) (slice_get running.volumes.items place)

-- the running volumes stand for some lawful state, in which a data set lies on these extents
pub record LiesOnSome (running : ActiveVolumes) (extents : List Extent) : Type 0 where
  pub state : DeskState
  pub dsn : List ℕ
  pub lawful : IsLawful state
  pub stand : AreVolumesOf state running
  pub extents_are : extents ≡ extents_named dsn state.sets

-- the extent keeps so many of its first tracks, at least one
pub record IsCutTo (kept extent : Extent) : Type 0 where
  pub volser : kept.volser ≡ extent.volser
  pub start : kept.start ≡ extent.start
  pub some : 0 < kept.length
  pub less : kept.length ≤ extent.length

-- the first are the front of the second: the same extents, of which the last may be cut
abbrev pub IsFront : List Extent → List Extent → Type 0
IsFront [] extents = Unit {0}
IsFront (kept ∷ others) [] = ⊥
IsFront (kept ∷ []) (extent ∷ extents) = IsCutTo kept extent
IsFront (kept ∷ next ∷ others) (extent ∷ extents) = (kept ≡ extent) × IsFront (next ∷ others) extents

-- the one extent lies where the other does, with no more tracks, and with some
pub record IsPartOf (kept extent : Extent) : Type 0 where
  pub volser : kept.volser ≡ extent.volser
  pub start : kept.start ≡ extent.start
  pub some : kept.length < extent.length → 0 < kept.length
  pub less : kept.length ≤ extent.length

-- the extent, if there is one
abbrev pub extent_if : Option Extent → List Extent
extent_if None = []
extent_if (Some extent) = extent ∷ []

-- among what the ledger of the volume stands for is all that the extents hold of it
pub record HoldsAll (extents : List Extent) (volume : ActiveVolume) : Type 0 where
  pub others : List Piece
  pub is : IsLedgerOf (pieces_on volume.volume.volser extents ++ others) volume.ledger

-- the volume is the same, and its ledger stands for what the second extents hold in place of what the first do
pub record HasChanged (extents others : List Extent) (before after : ActiveVolume) : Type 0 where
  pub volume : after.volume ≡ before.volume
  pub status : after.status ≡ before.status
  pub group : after.group ≡ before.group
  pub capacity : after.ledger.capacity ≡ before.ledger.capacity
  pub ledger : (rest : List Piece) → IsLedgerOf (pieces_on before.volume.volser extents ++ rest) before.ledger
      → IsLedgerOf (pieces_on before.volume.volser others ++ rest) after.ledger
