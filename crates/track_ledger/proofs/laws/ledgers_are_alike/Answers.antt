use Rattle.track_ledger.proofs.LedgerLemmas.{ledger-alike}
use Rattle.track_ledger.proofs.laws.ledgers_are_alike.Goals as goal

pub returns : goal.returns
returns c = ledger-alike
