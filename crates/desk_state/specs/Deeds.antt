-- What a deed does to the records and to the state.
use Rattle.std.specs.Prelude.{ℕ, ◌≡◌, ◌++◌, ◌+◌, true, List, Option, None, Some, IfSome, slice_get}
use Rattle.sms_construct.specs.Configuration.{Configuration, IsConfiguration}
use Rattle.sms_construct.specs.declared.data_set.DataSet.{DataSet}
use Rattle.sms_keeper.specs.Suits.{has_status}
use Rattle.sms_keeper.specs.declared.effect.Effect.{Effect}
use Rattle.sms_keeper.specs.declared.effect.Effect.TheVariants as effects
use Rattle.sms_keeper.specs.declared.status_row.StatusRow.{StatusRow}
use Rattle.track_ledger.specs.declared.piece.Piece.{Piece}
use Rattle.desk_law.specs.State.{DeskState}
use Rattle.desk_law.specs.Activation.{first_barred, statuses_under}
use Rattle.desk_law.specs.Extents.{extents_at, extents_named, front_tracks}
use Rattle.sms_volumes.specs.declared.active_volume.ActiveVolume.{ActiveVolume}
use Rattle.sms_volumes.specs.declared.active_volumes.ActiveVolumes.{ActiveVolumes}
use Rattle.sms_volumes.specs.Changing.{IsFront, IsReadyAt}
use Rattle.sms_volumes.specs.Next.{AreNext}
use Rattle.desk_state.specs.Catalog.{set_in}
use Rattle.desk_state.specs.declared.deed.Deed.{Deed}
use Rattle.desk_state.specs.declared.deed.Deed.TheVariants as deeds
use Rattle.desk_state.specs.declared.running.Running.{Running}

-- what it does to the records
abbrev pub effect_of : Deed → Effect
effect_of deeds.Nothing = effects.Nothing
effect_of (deeds.Get set place pieces) = effects.PutSet set
effect_of (deeds.Note set) = effects.PutSet set
effect_of (deeds.Keep set) = effects.PutSet set
effect_of (deeds.Remove dsn) = effects.DropSet dsn
effect_of (deeds.Become count config volumes statuses) = effects.Activated count statuses
effect_of (deeds.Vary target status) = effects.SetStatus target status
effect_of (deeds.Raise job floor) = effects.Floor job floor

-- the configuration that it brings, if any
abbrev pub config_of : Deed → Option Configuration
config_of deeds.Nothing = None
config_of (deeds.Get set place pieces) = None
config_of (deeds.Note set) = None
config_of (deeds.Keep set) = None
config_of (deeds.Remove dsn) = None
config_of (deeds.Become count config volumes statuses) = Some config
config_of (deeds.Vary target status) = None
config_of (deeds.Raise job floor) = None

-- the deed can be done without memory: for the pieces that a data set gets there is room and nobody holds them, and
-- what one keeps is the front of what it had
abbrev pub IsPossible : Running → Deed → Type 0
IsPossible running deeds.Nothing = Unit {0}
IsPossible running (deeds.Get set place pieces) = IsReadyAt running.volumes place pieces.items
IsPossible running (deeds.Note set) = Unit {0}
IsPossible running (deeds.Keep set) =
    IfSome (set_in set.dsn running.catalog.sets) (λ old. IsFront set.extents old.extents)
IsPossible running (deeds.Remove dsn) = Unit {0}
IsPossible running (deeds.Become count config volumes statuses) = Unit {0}
IsPossible running (deeds.Vary target status) = Unit {0}
IsPossible running (deeds.Raise job floor) = Unit {0}

-- the data set has what it had, and these pieces of the volume at the place
pub record HasMore (sets : List DataSet) (running : Running) (set : DataSet) (place : ℕ)
    (pieces : List Piece) : Type 0 where
  pub volume : ActiveVolume
  pub at : slice_get running.volumes.volumes.items place ≡ Some volume
  pub extents : set.extents ≡ extents_named set.dsn sets ++ extents_at volume.volume.volser pieces

-- the data set has the front of what it had
pub record HasFront (sets : List DataSet) (set : DataSet) : Type 0 where
  pub keep : ℕ
  pub extents : set.extents ≡ front_tracks keep (extents_named set.dsn sets)

-- nothing bars the configuration, the volumes are its next, and the statuses theirs
pub record IsNext (s : DeskState) (count : ℕ) (config : Configuration) (volumes : ActiveVolumes)
    (statuses : List StatusRow) : Type 0 where
  pub counted : count ≡ s.activations + 1
  pub sound : IsConfiguration config
  pub unbarred : first_barred s config ≡ None
  pub next : AreNext s.statuses config volumes
  pub statuses_are : statuses ≡ statuses_under config s.statuses

-- the deed fits the state that the running one stands for
abbrev pub Fits : DeskState → Running → Deed → Type 0
Fits s running deeds.Nothing = Unit {0}
Fits s running (deeds.Get set place pieces) = HasMore s.sets running set place pieces.items
Fits s running (deeds.Note set) = set.extents ≡ extents_named set.dsn s.sets
Fits s running (deeds.Keep set) = HasFront s.sets set
Fits s running (deeds.Remove dsn) = Unit {0}
Fits s running (deeds.Become count config volumes statuses) = IsNext s count config volumes statuses
Fits s running (deeds.Vary target status) = has_status target ≡ true
Fits s running (deeds.Raise job floor) = Unit {0}
