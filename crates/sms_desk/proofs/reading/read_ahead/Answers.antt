use Rattle.std.proofs.Common.{inl, inr, subst}
use Rattle.std.specs.Prelude.{List, ℕ, Some}
use Rattle.sms_construct.specs.declared.fault.Fault.{Fault}
use Rattle.deck_meaning.specs.declared.deck_err.DeckErr.TheVariants.{Fault as Faulted, NoMemory}
use Rattle.deck_meaning.specs.Reading.{HasFirstFault, TellsFirstFault}
use Rattle.desk_common.specs.Exact.{MayRefuse}
use Rattle.sms_desk.proofs.reading.read_ahead.Goals as goal

told : (deck : List ℕ) (fault : Fault) → MayRefuse (TellsFirstFault deck) (Some NoMemory) (Faulted fault) → HasFirstFault deck fault
told deck fault (inl is) = is
told deck fault (inr wanting) = absurd cc

pub returns-in-Err-Fault-clause-own : goal.returns-in-Err-Fault-clause-own
returns-in-Err-Fault-clause-own c config configures =
    c.one_reading.ensures.never_both c.args.deck.now config c.in-Err-Fault.fault configures (told c.args.deck.now c.in-Err-Fault.fault (subst (MayRefuse (TellsFirstFault c.args.deck.now) (Some NoMemory)) c.in-Err-Fault.field-0-is c.in-Err-Fault.ensures.err))
