-- The deck is read as its configuration, or its first fault.
use Rattle.std.proofs.Common.{subst}
use Rattle.std.specs.Prelude.{Some}
use Rattle.std.proofs.lemmas.Result.{IfOk-weaker}
use Rattle.deck_meaning.specs.Reading.{TellsFirstFault}
use Rattle.deck_meaning.specs.declared.deck_err.DeckErr.TheVariants as errors
use Rattle.desk_common.specs.Exact.{MayRefuse}
use Rattle.desk_pages.proofs.CheckLaws.{comes_of_deck, comes_faulted}
use Rattle.desk_pages.proofs.checking.barring.Goals as goal

pub returns-in-Ok : goal.returns-in-Ok
returns-in-Ok g c = IfOk-weaker c.barring_config.result _ _ (λ found comes s stands.
    comes_of_deck s c.args.deck.now c.in-Ok.config found c.in-Ok.ensures.ok (comes s stands)) c.barring_config.ensures

pub returns-in_ok-faulted-in-Err-Fault : goal.returns-in_ok-faulted-in-Err-Fault
returns-in_ok-faulted-in-Err-Fault g c = λ s stands.
    comes_faulted s c.args.deck.now c.in-Err-Fault.fault _ (subst (MayRefuse (TellsFirstFault c.args.deck.now) (Some errors.NoMemory)) c.in-Err-Fault.field-0-is c.in-Err-Fault.ensures.err) c.in_ok-faulted-in-Err-Fault.ensures
