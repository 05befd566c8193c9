-- What an input for a comparison gives, and its first fault (docs/manual/tool.md, "Comparing two decks").
use Rattle.std.specs.Prelude.{ℕ, ◌≡◌, List, Ok, Err}
use Rattle.sms_construct.specs.Configuration.{Configuration}
use Rattle.sms_construct.specs.declared.fault.Fault.{Fault}
use Rattle.deck_meaning.specs.Reading.{Configures, HasFirstFault}
use Rattle.acs_test.specs.Layout.{Parts, parts_of}
use Rattle.acs_test.specs.Records.{TableGives}
use Rattle.acs_test.specs.declared.cases.Cases.{Cases}
use Rattle.acs_test.specs.declared.cases_err.CasesErr.{CasesErr}
use Rattle.acs_test.specs.declared.cases_err.CasesErr.TheVariants as errs
use Rattle.acs_test.specs.declared.cases_err.Side.{Side}
use Rattle.acs_test.specs.declared.cases_err.Side.TheVariants.{Old, New}

-- both decks have no fault, and the table has these cases
pub record Gives (parts : Parts) (cases : Cases) : Type 0 where
  pub before : Configures parts.before cases.before
  pub after : Configures parts.after cases.after
  pub listed : TableGives parts.table (Ok cases.list)

-- the fault of the deck of this side; that of NEW is told only where OLD has none
abbrev pub DeckFault : Side → Parts → Fault → Type 0
DeckFault Old parts fault = HasFirstFault parts.before fault
DeckFault New parts fault = (before : Configuration) × Configures parts.before before × HasFirstFault parts.after fault

-- both decks have no fault, and the table has this one
pub record TableFault (parts : Parts) (err : CasesErr) : Type 0 where
  pub before : Configuration
  pub configures : Configures parts.before before
  pub after : Configuration
  pub configures_after : Configures parts.after after
  pub found : TableGives parts.table (Err err)

-- the decks and the table have this first fault
abbrev pub Refuses : Parts → CasesErr → Type 0
Refuses parts (errs.Layout line) = ⊥
Refuses parts (errs.Deck side fault) = DeckFault side parts fault
Refuses parts (errs.Header column) = TableFault parts (errs.Header column)
Refuses parts (errs.Fields number) = TableFault parts (errs.Fields number)
Refuses parts errs.TooMany = TableFault parts errs.TooMany
Refuses parts (errs.BadCase number) = TableFault parts (errs.BadCase number)
Refuses parts errs.NoMemory = ⊥

-- the input is laid out as two decks and a table, which give these cases
pub record IsReading (bytes : List ℕ) (cases : Cases) : Type 0 where
  pub parts : Parts
  pub laid : parts_of bytes ≡ Ok parts
  pub gives : Gives parts cases

-- the input is laid out as two decks and a table, which have this first fault
pub record HasFault (bytes : List ℕ) (err : CasesErr) : Type 0 where
  pub parts : Parts
  pub laid : parts_of bytes ≡ Ok parts
  pub refuses : Refuses parts err

-- the input has this first fault: of its layout, or of the decks and the table
abbrev pub IsRefusal : List ℕ → CasesErr → Type 0
IsRefusal bytes (errs.Layout line) = parts_of bytes ≡ Err line
IsRefusal bytes (errs.Deck side fault) = HasFault bytes (errs.Deck side fault)
IsRefusal bytes (errs.Header column) = HasFault bytes (errs.Header column)
IsRefusal bytes (errs.Fields number) = HasFault bytes (errs.Fields number)
IsRefusal bytes errs.TooMany = HasFault bytes errs.TooMany
IsRefusal bytes (errs.BadCase number) = HasFault bytes (errs.BadCase number)
IsRefusal bytes errs.NoMemory = ⊥

-- how a deck is read

-- the refusal of the deck of this side that tells its first fault
abbrev pub TellsDeck : Side → List ℕ → CasesErr → Type 0
TellsDeck side bytes (errs.Deck other fault) = (other ≡ side) × HasFirstFault bytes fault
TellsDeck side bytes err = ⊥
