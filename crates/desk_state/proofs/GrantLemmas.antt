-- A volume that may be chosen grants what is asked for.
use Rattle.std.proofs.Common.{◌≡◌, sym, ap, ◌∙◌}
use Rattle.std.specs.Prelude.{Some, option_map}
use Rattle.desk_law.specs.State.{DeskState}
use Rattle.sms_volumes.specs.Asking.{ask_of}
use Rattle.sms_volumes.specs.Changing.{running_at}
use Rattle.sms_volumes.specs.Viewing.{Picks, candidates_in}
use Rattle.sms_volumes.specs.declared.active_volume.ActiveVolume.{ActiveVolume}
use Rattle.sms_volumes.specs.declared.active_volumes.ActiveVolumes.{ActiveVolumes}
use Rattle.sms_volumes.specs.declared.asked.Asked.{Asked}
use Rattle.sms_volumes.specs.declared.candidates.Candidates.{Candidates}
use Rattle.sms_volumes.specs.declared.pick.Pick.{Pick}
use Rattle.desk_state.specs.Inner.Granting.{IsGrantAmong}
use Rattle.desk_state.specs.declared.grant.Grant.{Grant}

-- the grant of what was picked
pub picked-among : (s : DeskState) (running : ActiveVolumes) (candidates : Candidates) (asked : Asked) (pick : Pick) (grant : Grant) → Picks s running candidates asked pick
    → running_at pick.place running ≡ Some grant.volume → grant.pieces ≡ pick.grant → IsGrantAmong s (candidates_in s candidates) (ask_of asked) (Some grant)
picked-among s running candidates asked pick grant picks named pieces =
    let own : Some picks.volume.volume ≡ Some grant.volume = sym (ap (option_map (λ (v : ActiveVolume). v.volume)) picks.at) ∙ named in
    record {
      position = picks.position;
      may = picks.may;
      volume = picks.volume.volume;
      there = picks.there;
      does = record { same = cc; rule = picks.granted ∙ ap (λ g. Some g.items) (sym pieces) };
    }
