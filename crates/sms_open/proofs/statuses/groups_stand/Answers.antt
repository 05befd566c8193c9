use Rattle.std.proofs.Common.{◌≡◌, map, ◌∙◌}
use Rattle.std.specs.Prelude.{filter_map}
use Rattle.sms_construct.specs.declared.storage_group.StorGroup.{StorGroup}
use Rattle.sms_keeper.specs.declared.status_row.StatusRow.{StatusRow}
use Rattle.sms_open.specs.Inner.Targets.{group_in}
use Rattle.sms_open.proofs.NameLemmas.{groups-apart, groups-told}
use Rattle.sms_open.proofs.statuses.groups_stand.Goals as goal

pub are_as_often-requires : goal.are_as_often-requires
are_as_often-requires c =
    let wanted : c.deref.result.now ≡ map (λ (x : StorGroup). x.name) c.args.groups.now = c.deref.ensures.value ∙ c.in_ok-wanted.ensures in
    rw wanted (groups-apart c.args.groups.now c.requires)

pub returns : goal.returns
returns c =
    let wanted : c.deref.result.now ≡ map (λ (x : StorGroup). x.name) c.args.groups.now = c.deref.ensures.value ∙ c.in_ok-wanted.ensures in
    let found : c.deref-2.result.now ≡ filter_map (λ (row : StatusRow). group_in row.target) c.args.rows.now = c.deref-2.ensures.value ∙ c.in_ok-found.ensures in
    groups-told c.are_as_often.result c.args.groups.now c.args.rows.now (rw (wanted, found) at c.are_as_often.ensures)
