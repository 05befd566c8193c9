use Rattle.std.specs.Process.{exit_status}
use Rattle.smsd.specs.Served.{IsPortEnd}
use Rattle.smsd.proofs.EndLemmas.{opened_end}
use Rattle.smsd.proofs.serving.serve.Goals as goal

pub returns : goal.returns
returns c = opened_end IsPortEnd c.open.result (exit_status c.serve_opened.result) c.open.ensures c.serve_opened.ensures.unopened c.serve_opened.ensures.served
