-- What a volume grants.
use Rattle.std.specs.Prelude.{◌≡◌, List, Option, Some, MatchOption, map}
use Rattle.sms_construct.specs.declared.volume.VolumeDef.{VolumeDef}
use Rattle.volume_lists.specs.Choice.{AllRejected}
use Rattle.desk_law.specs.State.{DeskState}
use Rattle.desk_law.specs.Candidates.{Ask, Chooses, grant_on, view_of, want_of}
use Rattle.sms_volumes.specs.Changing.{IsReadyAt, running_at}
use Rattle.desk_state.specs.declared.grant.Grant.{Grant}
use Rattle.desk_state.specs.declared.running.Running.{Running}

-- the volume at the place is the one that is named, and has room for the pieces
pub record IsGranted (running : Running) (grant : Grant) : Type 0 where
  pub ready : IsReadyAt running.volumes grant.place grant.pieces.items
  pub named : running_at grant.place running.volumes ≡ Some grant.volume

-- the grant is what the gap rule grants on this volume to a data set that has no extent there
pub record IsGrantOf (s : DeskState) (ask : Ask) (grant : Grant) (volume : VolumeDef) : Type 0 where
  pub same : grant.volume ≡ volume
  pub rule : grant_on s volume ask 0 ≡ Some grant.pieces.items

-- a volume that may be chosen among these grants it; nothing is granted where all are rejected
abbrev pub IsGrantAmong : DeskState → List VolumeDef → Ask → Option Grant → Type 0
IsGrantAmong s volumes ask found =
    MatchOption found
    (AllRejected (map (view_of s ask) volumes) (want_of ask))
    (λ grant. Chooses volumes (map (view_of s ask) volumes) (want_of ask) (IsGrantOf s ask grant))
