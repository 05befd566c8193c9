-- Where memory to begin is wanting, and where the desk is opened.
use Rattle.smsd_serving.proofs.KeepingLaws.{unopened_now}
use Rattle.smsd_serving.proofs.keeping.keep_serving.Goals as goal

pub returns-in_default-clause-unopened : goal.returns-in_default-clause-unopened
returns-in_default-clause-unopened g c = unopened_now _ _ g.P.Stored.damage c.args.keeper

pub returns-in_default-with_room-clause-unopened : goal.returns-in_default-with_room-clause-unopened
returns-in_default-with_room-clause-unopened g c = unopened_now _ _ g.P.Stored.damage c.args.keeper

pub returns-in-Ok-open_ready-clause-served : goal.returns-in-Ok-open_ready-clause-served
returns-in-Ok-open_ready-clause-served g c = rw c.in-Ok.ensures.site at (c.serve_epochs.ensures.served c.args.keeper c.in-Ok-open_ready.ensures.start)
