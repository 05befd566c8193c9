-- Faults that are told one by one, while there is room.
use Rattle.std.specs.Prelude.{◌≡◌, ◌⊎◌, ℕ, List, [], ◌∷◌, ◌++◌, Option, length, nat_lt, if◌then◌else◌}
use Rattle.toml.specs.Data.{Members}
use Rattle.acs_tree.specs.declared.kind.Kind.{Kind}
use Rattle.acs_tree.specs.CheckedRoutine.{CheckedRoutine}
use Rattle.sms_construct.specs.declared.fault.Fault.{Fault}
use Rattle.sms_construct.specs.Configuration.{Routines}
use Rattle.deck_meaning.specs.Outcomes.{Outcome, Outcomes, AreOutcomes, IsOutcomeOf, routines_in, sound_in, source_fault}
use Rattle.deck_meaning.specs.Reading.{IsNotToml, IsTooLong}
use Rattle.deck_meaning.specs.declared.deck_err.DeckErr.{DeckErr}
use Rattle.deck_meaning.specs.declared.deck_err.DeckErr.TheVariants.{Fault as Faulted, NoMemory}
use Rattle.deck_faults.specs.Limits.{most_faults}
use Rattle.deck_faults.specs.Survey.{alone}
use Rattle.deck_faults.specs.Faults.{faults_of, sources_faults}

-- one fault more, where there is room
abbrev pub put : List Fault → Fault → List Fault
put told fault = if nat_lt (length told) most_faults then told ++ fault ∷ [] else told

-- faults, one after another, where there is room
abbrev pub put_all : List Fault → List Fault → List Fault
put_all told [] = told
put_all told (fault ∷ faults) = put_all (put told fault) faults

-- the refusal of bytes that can't be read as a table of a deck
abbrev pub TellsUnread : List ℕ → DeckErr → Type 0
TellsUnread bytes (Faulted fault) = IsTooLong bytes fault ⊎ IsNotToml bytes fault
TellsUnread bytes NoMemory = Unit {0}

-- the text of a routine comes to this routine or to none, and its fault is told
pub record IsReadAs (kind : Kind) (source : Option (List ℕ)) (before after : List Fault) (routine : Option CheckedRoutine) : Type 0 where
  pub outcome : Outcome
  pub comes : IsOutcomeOf kind source outcome
  pub routine_is : routine ≡ sound_in outcome
  pub told : after ≡ put_all before (alone (source_fault kind outcome))

-- the texts of a deck come to these routines, and their faults are told
pub record AreReadAs (top : Members) (before after : List Fault) (routines : Routines) : Type 0 where
  pub outcomes : Outcomes
  pub read : AreOutcomes top outcomes
  pub routines_are : routines ≡ routines_in outcomes
  pub told : after ≡ put_all before (sources_faults outcomes)

-- the faults of a deck's table are told
pub record TellFaults (top : Members) (before after : List Fault) : Type 0 where
  pub outcomes : Outcomes
  pub read : AreOutcomes top outcomes
  pub told : after ≡ put_all before (faults_of top outcomes)
