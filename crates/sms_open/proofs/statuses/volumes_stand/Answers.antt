use Rattle.std.proofs.Common.{◌≡◌, map, ◌∙◌}
use Rattle.std.specs.Prelude.{filter_map}
use Rattle.sms_construct.specs.declared.volume.VolumeDef.{VolumeDef}
use Rattle.sms_keeper.specs.declared.status_row.StatusRow.{StatusRow}
use Rattle.sms_open.specs.Inner.Targets.{volume_in}
use Rattle.sms_open.proofs.NameLemmas.{volumes-apart, volumes-told}
use Rattle.sms_open.proofs.statuses.volumes_stand.Goals as goal

pub are_as_often-requires : goal.are_as_often-requires
are_as_often-requires c =
    let wanted : c.deref.result.now ≡ map (λ (x : VolumeDef). x.volser) c.args.volumes.now = c.deref.ensures.value ∙ c.in_ok-wanted.ensures in
    rw wanted (volumes-apart c.args.volumes.now c.requires)

pub returns : goal.returns
returns c =
    let wanted : c.deref.result.now ≡ map (λ (x : VolumeDef). x.volser) c.args.volumes.now = c.deref.ensures.value ∙ c.in_ok-wanted.ensures in
    let found : c.deref-2.result.now ≡ filter_map (λ (row : StatusRow). volume_in row.target) c.args.rows.now = c.deref-2.ensures.value ∙ c.in_ok-found.ensures in
    volumes-told c.are_as_often.result c.args.volumes.now c.args.rows.now (rw (wanted, found) at c.are_as_often.ensures)
