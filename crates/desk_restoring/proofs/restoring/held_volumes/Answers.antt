use Rattle.std.proofs.Common.{List, length, subst, sym}
use Rattle.std.specs.List.{AllByRecursion}
use Rattle.sms_keeper.specs.declared.status_row.StatusRow.{StatusRow}
use Rattle.desk_law.specs.State.{DeskState}
use Rattle.sms_volumes.specs.Holding.{AreVolumesOf}
use Rattle.desk_restoring.specs.Inner.Replaying.{IsAllowed, fresh_state, statuses_varied, with_statuses}
use Rattle.desk_restoring.proofs.StatusRowLemmas.{restored-volumes}
use Rattle.desk_restoring.proofs.restoring.held_volumes.Goals as goal

pub volumes_under-requires-clause-rows : goal.volumes_under-requires-clause-rows
volumes_under-requires-clause-rows c = subst (λ (l : List StatusRow). AllByRecursion IsAllowed l) (sym c.as_slice.ensures) c.requires.connected

pub place_all-requires : goal.place_all-requires
place_all-requires c =
    let rows = c.args.rows.now in
    let s : DeskState = record { activations = length rows.decks; active = c.args.config.now; statuses = rows.statuses; sets = rows.sets } in
    record {
      state = s;
      lawful = c.requires;
      sets_are = sym c.as_slice-sets.ensures;
      stand = restored-volumes s c.in_ok-volumes.volumes c.requires
          (subst (λ (l : List StatusRow). AreVolumesOf (with_statuses (fresh_state s.active) (statuses_varied l (fresh_state s.active).statuses)) c.in_ok-volumes.volumes) c.as_slice.ensures c.in_ok-volumes.ensures);
    }

pub returns : goal.returns
returns c =
    let rows = c.args.rows.now in
    let s : DeskState = record { activations = length rows.decks; active = c.args.config.now; statuses = rows.statuses; sets = rows.sets } in
    c.in_ok-place_all.ensures s c.requires (sym c.as_slice-sets.ensures)
    (restored-volumes s c.in_ok-volumes.volumes c.requires (subst (λ (l : List StatusRow). AreVolumesOf (with_statuses (fresh_state s.active) (statuses_varied l (fresh_state s.active).statuses)) c.in_ok-volumes.volumes) c.as_slice.ensures c.in_ok-volumes.ensures))
