use Rattle.std.proofs.Common.{inr}
use Rattle.std.specs.Process.{exit_status}
use Rattle.smsd.specs.Ends.{IsOfScript}
use Rattle.smsd.proofs.EndLemmas.{opened_end}
use Rattle.smsd.proofs.running.run.Goals as goal

pub returns : goal.returns
returns c = inr (opened_end (IsOfScript c.args.running.strict) c.open.result (exit_status c.run_source.result) c.open.ensures c.run_source.ensures.unopened c.run_source.ensures.ran)
