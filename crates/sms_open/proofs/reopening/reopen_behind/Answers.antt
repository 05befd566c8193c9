use Rattle.sms_open.proofs.OwnLemmas.{gives-back, spares-load}
use Rattle.sms_open.proofs.reopening.reopen_behind.Goals as goal

pub returns-in-Ok-clause-own : goal.returns-in-Ok-clause-own
returns-in-Ok-clause-own g c = gives-back g.P.Keeper.told g.P.Stored.damage c.go_on.result c.load.new.self c.go_on.ensures.refused c.go_on.ensures.left

pub returns-in-Err-clause-own : goal.returns-in-Err-clause-own
returns-in-Err-clause-own g c = rw c.refusal_of_load.ensures (spares-load _ _ c.in-Err.err c.in-Err.ensures.damaged)
