-- A volume more.
use Rattle.store_report.proofs.VolumeLemmas.{first_of_left, volume_more}
use Rattle.store_report.proofs.volumes_json.push_volumes.Goals as goal

pub loop-rest-preserved : goal.loop-rest-preserved
loop-rest-preserved c =
    volume_more c.loop-rest.rest.now _ c.volume-item.result c.loop-rest.later c.loop-rest.text.items c.push_comma.new.text.items c.push_volume.new.text.items _
    (first_of_left c.loop-rest.rest.now c.volume-item.result c.in-len1-up.len_at_least c.volume-item.is) c.in_ok-push_comma.ensures c.in_ok-push_volume.ensures c.loop-rest.invariant
