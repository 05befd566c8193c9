use Rattle.std.proofs.Common.{inl, inr}
use Rattle.std.specs.Process.{exit_status}
use Rattle.smsd.specs.Ends.{IsOfScript}
use Rattle.smsd.proofs.EndLemmas.{opened_end}
use Rattle.smsd.proofs.running.run_opened.Goals as goal

pub returns-in-Ok-clause-ends : goal.returns-in-Ok-clause-ends
returns-in-Ok-clause-ends g c = inr (opened_end (IsOfScript c.args.running.strict) c.open.result (exit_status c.run_source.result) c.open.ensures c.run_source.ensures.unopened c.run_source.ensures.ran)

pub returns-in-Ok-clause-unread : goal.returns-in-Ok-clause-unread
returns-in-Ok-clause-unread g c = rw c.in-Ok.is tt

pub returns-in-Err-clause-unread : goal.returns-in-Err-clause-unread
returns-in-Err-clause-unread g c = rw c.in-Err.is c.refuse.ensures

pub returns-in-Err-clause-ends : goal.returns-in-Err-clause-ends
returns-in-Err-clause-ends g c = inl c.refuse.ensures
