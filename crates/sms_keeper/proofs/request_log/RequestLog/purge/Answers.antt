use Rattle.std.proofs.Common.{◌≡◌, ◌∙◌, Some, ap, arith, bytes_eq, cond, max}
use Rattle.ordered_index.proofs.LookupLemmas.{found-text}
use Rattle.sms_keeper.specs.Log.{LogView, floor_in}
use Rattle.sms_keeper.proofs.KeyLemmas.{raised}
use Rattle.sms_keeper.proofs.request_log.RequestLog.purge.Goals as goal

-- the floor is higher than the one that stood
pub returns-clause-floors : goal.returns-clause-floors
returns-clause-floors c = λ other.
    let higher : c.args.floor ≡ max c.args.floor (floor_in c.args.job.now c.args.self.now.floors) = omega (arith, c.if-floor.false, c.floor.ensures) in
    raised c.args.job.now other c.args.floor c.self.inside.floors.rows c.put.new.self.rows
    (found-text c.args.job.now other (Some c.args.floor) c.self.inside.floors.rows c.put.new.self.rows (c.put.ensures.found other))
    ∙ ap (λ (v : LogView). cond (bytes_eq c.args.job.now other) c.args.floor (floor_in other v.floors)) c.self.view_is
    ∙ ap (λ n. cond (bytes_eq c.args.job.now other) n (floor_in other c.args.self.now.floors)) higher
