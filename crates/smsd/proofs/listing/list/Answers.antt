use Rattle.std.specs.Process.{exit_status}
use Rattle.smsd.specs.Ends.{IsOfCall}
use Rattle.smsd.proofs.EndLemmas.{opened_end}
use Rattle.smsd.proofs.listing.list.Goals as goal

pub returns : goal.returns
returns c = opened_end IsOfCall c.open_present.result (exit_status c.list_opened.result) c.open_present.ensures c.list_opened.ensures.unopened c.list_opened.ensures.ran
