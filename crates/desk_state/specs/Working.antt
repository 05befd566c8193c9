-- Work that was done for a request before its step.
use Rattle.std.specs.Prelude.{ℕ, ◌≡◌, List, Some, Result, IfOk, IfErr}
use Rattle.acs_tree.specs.Slates.{SlateLines}
use Rattle.desk_common.specs.Exact.{MayRefuse}
use Rattle.sms_construct.specs.Configuration.{Configuration}
use Rattle.sms_construct.specs.declared.alloc.Alloc.{Alloc}
use Rattle.sms_construct.specs.declared.entry.Entry.{Entry}
use Rattle.sms_construct.specs.declared.request.Op.TheVariants as ops
use Rattle.sms_construct.specs.declared.request.Request.{Request}
use Rattle.deck_meaning.specs.declared.deck_err.DeckErr.{DeckErr}
use Rattle.deck_meaning.specs.declared.deck_err.DeckErr.TheVariants.{NoMemory}
use Rattle.deck_meaning.specs.Reading.{Configures, TellsFirstFault}
use Rattle.sms_classes.specs.declared.classified.Classified.{Classified}
use Rattle.desk_law.specs.State.{Opening}
use Rattle.desk_law.specs.History.{WasActive}
use Rattle.desk_law.specs.Classification.{classes_of}
use Rattle.desk_state.specs.declared.running.Running.{Running}
use Rattle.desk_state.specs.declared.work.Work.{Work}
use Rattle.desk_state.specs.declared.work.Work.TheVariants.{Classes, Deck, Nothing}

-- an ALLOC of the job is classified so under the configuration, and this is written
pub record IsClassified (config : Configuration) (job : List ℕ) (alloc : Alloc) (made : Classified)
    (written : SlateLines)
    : Type 0 where
  pub values_are : made.values ≡ (classes_of config job alloc).values
  pub stop_is : made.stop ≡ (classes_of config job alloc).stop
  pub written_is : written ≡ (classes_of config job alloc).written

-- it was classified so under the configuration that was active after so many activations of the history
pub record WasClassified (o : Opening) (h : List Entry) (under : ℕ) (job : List ℕ) (alloc : Alloc) (made : Classified)
    (written : SlateLines) : Type 0 where
  pub config : Configuration
  pub was_active : WasActive o h under config
  pub classified : IsClassified config job alloc made written

-- the deck is read so: as what it configures, or its first fault is told, or memory was wanting
pub record IsReadAs (deck : List ℕ) (read : Result Configuration DeckErr) : Type 0 where
  pub ok : IfOk read (Configures deck)
  pub err : IfErr read (MayRefuse (TellsFirstFault deck) (Some NoMemory))

-- the deck of the request was read so, if it has one
abbrev pub IsReadFor : Request → Result Configuration DeckErr → Type 0
IsReadFor request read = (deck : List ℕ) → request.op ≡ ops.Activate deck → IsReadAs deck read

-- work that may be handed in with a request after these entries, where this is on the slate: classes for another op
-- than ALLOC and a deck for another than ACTIVATE may be any
abbrev pub IsWork : Opening → List Entry → Request → SlateLines → Work → Type 0
IsWork o h request written Nothing = Unit {0}
IsWork o h request written (Classes under made) =
    (alloc : Alloc) → request.op ≡ ops.Alloc alloc → WasClassified o h under request.job alloc made written
IsWork o h request written (Deck read) = IsReadFor request read

-- the same of the running state: classes under as many activations as there were are those under what is active
abbrev pub IsWorkNow : Running → Request → SlateLines → Work → Type 0
IsWorkNow running request written Nothing = Unit {0}
IsWorkNow running request written (Classes under made) =
    under ≡ running.activations → (config : Configuration) (alloc : Alloc) → running.config ≡ Some config →
    request.op ≡ ops.Alloc alloc → IsClassified config request.job alloc made written
IsWorkNow running request written (Deck read) = IsReadFor request read
