-- A deck that is read, or refused for its first fault, is read exactly.
use Rattle.std.proofs.Common.{ℕ, List}
use Rattle.std.specs.Prelude.{Result, Some, IfOk, IfErr}
use Rattle.desk_common.specs.Exact.{IsExact, MayRefuse}
use Rattle.sms_construct.specs.Configuration.{Configuration}
use Rattle.deck_meaning.specs.Reading.{Configures, TellsFirstFault}
use Rattle.deck_meaning.specs.declared.deck_err.DeckErr.{DeckErr}
use Rattle.deck_meaning.specs.declared.deck_err.DeckErr.TheVariants.{NoMemory}
use Rattle.deck_meaning.proofs.ReadingLemmas.{exact}

pub read_exactly : {bytes : List ℕ} (result : Result Configuration DeckErr) → IfOk result (Configures bytes) → IfErr result (MayRefuse (TellsFirstFault bytes) (Some NoMemory))
    → IsExact (Configures bytes) (TellsFirstFault bytes) (Some NoMemory) result
read_exactly result read told = exact result read told
