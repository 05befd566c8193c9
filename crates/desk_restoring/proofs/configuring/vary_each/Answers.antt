use Rattle.std.proofs.Common.{List, subst}
use Rattle.std.proofs.lemmas.List.{take_all}
use Rattle.sms_keeper.specs.declared.status_row.StatusRow.{StatusRow}
use Rattle.sms_volumes.specs.Holding.{AreVolumesOf}
use Rattle.desk_restoring.specs.Inner.Replaying.{statuses_varied, with_statuses}
use Rattle.desk_restoring.proofs.StatusRowLemmas.{statuses-next}
use Rattle.desk_restoring.proofs.configuring.vary_each.Goals as goal

pub loop-row-preserved : goal.loop-row-preserved
loop-row-preserved c = λ s lawful are.
    statuses-next s c.args.rows.now c.loop-row.row-index c.row-item.result c.loop-row.volumes c.vary.new.self c.loop-row-test.true c.row-item.is c.requires lawful (c.loop-row.invariant s lawful are) c.vary.ensures

pub returns : goal.returns
returns c = λ s lawful are.
    subst (λ (l : List StatusRow). AreVolumesOf (with_statuses s (statuses_varied l s.statuses)) c.loop-row.volumes) (take_all c.loop-row.row-index c.args.rows.now c.loop-row-test.false)
    (c.loop-row.invariant s lawful are)
