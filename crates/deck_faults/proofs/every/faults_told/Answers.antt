-- A deck that can't be read has one fault.
use Rattle.std.proofs.Common.{subst}
use Rattle.std.proofs.lemmas.Result.{IfOk-weaker}
use Rattle.deck_faults.specs.Inner.Telling.{TellsUnread}
use Rattle.deck_faults.proofs.ReadLemmas.{one_told}
use Rattle.deck_faults.proofs.every.faults_told.Goals as goal

pub returns-in-Err-Fault : goal.returns-in-Err-Fault
returns-in-Err-Fault c =
    IfOk-weaker c.one_fault.result _ _ (λ told e. one_told (subst (TellsUnread c.args.deck.now) c.in-Err-Fault.field-0-is c.in-Err-Fault.ensures.err) e) c.one_fault.ensures
