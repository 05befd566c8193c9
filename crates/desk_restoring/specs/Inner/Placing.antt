-- Data sets whose tracks are taken one extent after the other.
use Rattle.std.specs.Prelude.{ℕ, ◌≡◌, ◌≤◌, ◌+◌, List, [], ◌∷◌, ◌++◌}
use Rattle.sms_construct.specs.declared.data_set.DataSet.{DataSet}
use Rattle.sms_construct.specs.declared.extent.Extent.{Extent}
use Rattle.track_ledger.specs.Gaps.{times_held}
use Rattle.desk_law.specs.State.{DeskState}
use Rattle.desk_law.specs.Extents.{held_on, piece_of}
use Rattle.desk_law.specs.Lawful.{IsInside, IsLawful}
use Rattle.desk_law.specs.Volumes.{volumes_in}
use Rattle.sms_volumes.specs.Holding.{AreVolumesOf}
use Rattle.sms_volumes.specs.declared.active_volumes.ActiveVolumes.{ActiveVolumes}
use Rattle.desk_restoring.specs.Inner.Replaying.{with_sets}

-- the data set with these extents alone
abbrev pub placed : DataSet → List Extent → DataSet
placed set extents = record set { extents = extents }

-- the data sets of which the last has these extents so far; without any it isn't there yet
abbrev pub sets_placed : List DataSet → DataSet → List Extent → List DataSet
sets_placed front set [] = front
sets_placed front set (extent ∷ extents) = front ++ placed set (extent ∷ extents) ∷ []

-- the running volumes stand for some lawful state in whose configuration the extent lies, and nobody holds its tracks
pub record CanHold (extent : Extent) (running : ActiveVolumes) : Type 0 where
  pub state : DeskState
  pub lawful : IsLawful state
  pub stand : AreVolumesOf state running
  pub inside : IsInside (volumes_in state.active) extent
  pub free : (track : ℕ) → times_held (held_on state extent.volser) track + times_held (piece_of extent ∷ []) track ≤ 1

-- the running volumes stand for some lawful state but for its last data set, which is this one
pub record CanPlace (set : DataSet) (running : ActiveVolumes) : Type 0 where
  pub state : DeskState
  pub front : List DataSet
  pub lawful : IsLawful state
  pub sets_are : state.sets ≡ front ++ set ∷ []
  pub stand : AreVolumesOf (with_sets state front) running

-- the running volumes stand for some lawful state of these data sets but for all of them
pub record CanPlaceAll (sets : List DataSet) (running : ActiveVolumes) : Type 0 where
  pub state : DeskState
  pub lawful : IsLawful state
  pub sets_are : state.sets ≡ sets
  pub stand : AreVolumesOf (with_sets state []) running
