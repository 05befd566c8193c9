use Rattle.track_ledger.proofs.LedgerLemmas.{ledger-from, ledger-into}
use Rattle.track_ledger.proofs.laws.gaps_are_free.Goals as goal

pub returns-clause-into : goal.returns-clause-into
returns-clause-into c = ledger-into

pub returns-clause-from : goal.returns-clause-from
returns-clause-from c = ledger-from
