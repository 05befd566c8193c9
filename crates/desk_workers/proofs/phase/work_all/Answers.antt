use Rattle.std.proofs.Common.{subst₂}
use denote.Param.Send.{sendable}
use Rattle.sms_script.proofs.item.Item.TheSendSync as item
use Rattle.desk_workers.specs.Inner.Worked.{HasWorked}
use Rattle.desk_workers.proofs.SendLemmas.{desk-sync, job_seat-send}
use Rattle.desk_workers.proofs.phase.work_all.Goals as goal

pub for_each_mut-requires-send-T : goal.for_each_mut-requires-send-T
for_each_mut-requires-send-T g c κs within = search (sendable, job_seat-send) depth 20

pub for_each_mut-requires-sync-F : goal.for_each_mut-requires-sync-F
for_each_mut-requires-sync-F g c κs within = search (sendable, desk-sync, item.the_sync) depth 40

pub returns-clause-worked : goal.returns-clause-worked
returns-clause-worked g c = λ i d less.
    let h = (c.for_each_mut.ensures i d less).1 in
    subst₂ (λ new old. HasWorked c.args.desk.now.lock.table.shared.table_id i c.args.plan.now c.args.items.now old new) h.left h.argument_is h.call
