-- Which running volume is chosen.
use Rattle.std.specs.Prelude.{ℕ, ◌≡◌, ◌≤◌, Bool, not, ◌&&◌, List, Option, Some, MatchOption, bytes_eq, find, length}
use Rattle.std.specs.Prelude.{map, filter, slice_get}
use Rattle.std.specs.List.{list_any}
use Rattle.desk_common.specs.Limits.{most_pieces}
use Rattle.sms_construct.specs.declared.volume.VolumeDef.{VolumeDef}
use Rattle.volume_lists.specs.Choice.{AllRejected, MayChoose}
use Rattle.desk_law.specs.State.{DeskState}
use Rattle.desk_law.specs.Candidates.{grant_on, view_of, want_of}
use Rattle.desk_law.specs.Extents.{is_used}
use Rattle.desk_law.specs.Volumes.{volumes_in}
use Rattle.sms_volumes.specs.Asking.{ask_of}
use Rattle.sms_volumes.specs.Changing.{IsFree}
use Rattle.sms_volumes.specs.declared.active_volume.ActiveVolume.{ActiveVolume}
use Rattle.sms_volumes.specs.declared.active_volumes.ActiveVolumes.{ActiveVolumes}
use Rattle.sms_volumes.specs.declared.asked.Asked.{Asked}
use Rattle.sms_volumes.specs.declared.candidates.Candidates.{Candidates}
use Rattle.sms_volumes.specs.declared.candidates.Candidates.TheVariants.{Listed, Beside}
use Rattle.sms_volumes.specs.declared.pick.Pick.{Pick}

-- the volume is one of the candidates
abbrev pub is_candidate : Candidates → VolumeDef → Bool
is_candidate (Listed groups) volume = list_any (bytes_eq volume.group) groups.now
is_candidate (Beside group extents) volume = bytes_eq volume.group group && not (is_used volume.volser extents.now)

-- the running volume of this serial
abbrev pub running_named : List ℕ → List ActiveVolume → Option ActiveVolume
running_named volser volumes = find (λ volume. bytes_eq volume.volume.volser volser) volumes

-- the candidates in the active configuration
abbrev pub candidates_in : DeskState → Candidates → List VolumeDef
candidates_in s candidates = filter (is_candidate candidates) (volumes_in s.active)

-- the volume at the place of the pick is a candidate that may be chosen, and grants these few pieces, which are free
pub record Picks (s : DeskState) (running : ActiveVolumes) (candidates : Candidates) (asked : Asked)
    (pick : Pick) : Type 0 where
  pub position : ℕ
  pub may : MayChoose (map (view_of s (ask_of asked)) (candidates_in s candidates)) (want_of (ask_of asked)) position
  pub volume : ActiveVolume
  pub at : slice_get running.volumes.items pick.place ≡ Some volume
  pub there : slice_get (candidates_in s candidates) position ≡ Some volume.volume
  pub granted : grant_on s volume.volume (ask_of asked) 0 ≡ Some pick.grant.items
  pub free : IsFree volume pick.grant.items
  pub few : length pick.grant.items ≤ most_pieces

-- a candidate that may be chosen, or none where all are rejected
abbrev pub IsPick : DeskState → ActiveVolumes → Candidates → Asked → Option Pick → Type 0
IsPick s running candidates asked picked =
    MatchOption picked
    (AllRejected (map (view_of s (ask_of asked)) (candidates_in s candidates)) (want_of (ask_of asked)))
    (Picks s running candidates asked)
