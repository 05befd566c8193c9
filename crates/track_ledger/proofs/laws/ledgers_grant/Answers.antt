use Rattle.track_ledger.proofs.LedgerLemmas.{ledger-grants}
use Rattle.track_ledger.proofs.laws.ledgers_grant.Goals as goal

pub returns : goal.returns
returns c = ledger-grants
