use Rattle.std.proofs.Common.{◌<◌, length, take, add-one, arith, length-append}
use Rattle.sms_script.specs.Script.{items_of}
use Rattle.desk_calls.proofs.RunLemmas.{items_up_to}
use Rattle.desk_calls.proofs.script_run.count_items.Goals as goal

-- the items of the next phase are counted
pub loop-phase-preserved : goal.loop-phase-preserved
loop-phase-preserved c =
    let phases = c.args.phases.now in
    let i = c.loop-phase.phase-index in
    let phase = c.phase-item.result in
    let less : i < length phases = omega (arith, c.loop-phase-test.true) in
    rw (add-one, items_up_to phases i phase less c.phase-item.is)
    (omega (arith, c.in_ok-count.ensures.1, c.len.ensures, c.loop-phase.invariant, length-append (items_of (take i phases)) phase))
