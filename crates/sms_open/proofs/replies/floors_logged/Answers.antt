use Rattle.sms_open.proofs.FloorLemmas.{floor-logged}
use Rattle.sms_open.proofs.replies.floors_logged.Goals as goal

pub loop-floor-preserved : goal.loop-floor-preserved
loop-floor-preserved c = λ job.
    floor-logged c.args.floors.now c.loop-floor.floor-index c.floor-item.result job c.loop-floor.log.floors c.reserve.new.self.floors c.purge.new.self.floors
    c.loop-floor-test.true c.floor-item.is c.reserve.ensures.floors c.loop-floor.invariant (c.purge.ensures.floors job)
