-- The simulation of a script as records (docs/manual/tool.md, "For other tools").
use Rattle.std.specs.Prelude.{ℕ, ◌≡◌, ◌⊎◌, ◌++◌, List, [], Some, flat_map}
use Rattle.sms_construct.specs.Configuration.{Configuration}
use Rattle.deck_meaning.specs.Reading.{Configures, HasFirstFault}
use Rattle.sms_script.specs.declared.item.Item.{Item}
use Rattle.sms_simulation.specs.Simulation.{AreAsked, RefusesDeck, first_misplaced}
use Rattle.sms_simulation.specs.declared.simulated.Simulated.{Simulated}
use Rattle.sms_simulation.specs.declared.simulated.Simulated.TheVariants as simulations
use Rattle.sms_outcomes.specs.ItemRecords.{front_in, item_record}
use Rattle.flat_records.specs.declared.form.RecordForm.{RecordForm}

-- there is nothing to simulate, and what stands before records is all
pub record RecordsNothing (form : RecordForm) (items : List Item) (text : List ℕ) : Type 0 where
  pub items_are : items ≡ []
  pub text_is : text ≡ front_in form

-- the deck gives a configuration, and the text has the record of each of these ALLOCs
pub record RecordsUnder (form : RecordForm) (deck : List ℕ) (others : List Item) (text : List ℕ) : Type 0 where
  pub config : Configuration
  pub configures : Configures deck config
  pub text_is : text ≡ front_in form ++ flat_map (item_record form config) others

-- the records are those of a deck and of the ALLOCs behind it
pub record Records (form : RecordForm) (items : List Item) (text : List ℕ) : Type 0 where
  pub deck : List ℕ
  pub others : List Item
  pub asked : AreAsked items deck others
  pub records : RecordsUnder form deck others text

-- what the simulation of these items as records comes to
abbrev pub IsRecorded : RecordForm → List Item → Simulated → Type 0
IsRecorded form items (simulations.Shown text) = RecordsNothing form items text ⊎ Records form items text
IsRecorded form items (simulations.Refused fault) = RefusesDeck items fault
IsRecorded form items (simulations.Misplaced line) = first_misplaced items ≡ Some line

-- what it comes to where this deck is activated and these are the ALLOCs behind it
abbrev pub IsRecordedUnder : RecordForm → List ℕ → List Item → Simulated → Type 0
IsRecordedUnder form deck others (simulations.Shown text) = RecordsUnder form deck others text
IsRecordedUnder form deck others (simulations.Refused fault) = HasFirstFault deck fault
IsRecordedUnder form deck others (simulations.Misplaced line) = ⊥
