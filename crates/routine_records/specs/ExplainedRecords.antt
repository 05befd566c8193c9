-- The explanation of a script as records (docs/manual/tool.md, "For other tools").
use Rattle.std.specs.Prelude.{ℕ, ◌≡◌, ◌⊎◌, ◌++◌, List, [], Option, Some, filter, flat_map}
use Rattle.flat_records.specs.declared.form.RecordForm.{RecordForm}
use Rattle.sms_construct.specs.Configuration.{Configuration}
use Rattle.deck_meaning.specs.Reading.{Configures}
use Rattle.sms_script.specs.declared.item.Item.{Item}
use Rattle.sms_simulation.specs.Simulation.{AreAsked, RefusesDeck, first_misplaced}
use Rattle.sms_simulation.specs.declared.simulated.Simulated.{Simulated}
use Rattle.sms_simulation.specs.declared.simulated.Simulated.TheVariants as simulations
use Rattle.sms_explain.specs.DeckTexts.{AreSources}
use Rattle.sms_explain.specs.Picking.{is_picked}
use Rattle.sms_explain.specs.declared.deck_sources.DeckSources.{DeckSources}
use Rattle.routine_records.specs.EventRecords.{front_in, item_records}

-- there is nothing to explain, and what stands before records is all
pub record RecordsNothing (form : RecordForm) (items : List Item) (text : List ℕ) : Type 0 where
  pub items_are : items ≡ []
  pub text_is : text ≡ front_in form

-- the text has the records of what the routines of the deck do with each of these ALLOCs
pub record RecordsUnder (form : RecordForm) (deck : List ℕ) (others : List Item) (text : List ℕ) : Type 0 where
  pub config : Configuration
  pub configures : Configures deck config
  pub sources : DeckSources
  pub texts : AreSources deck sources
  pub text_is : text ≡ front_in form ++ flat_map (item_records form config sources) others

-- the records are those of a deck and of those ALLOCs behind it that are of this job and have this number, where one is
-- asked for
pub record Records (form : RecordForm) (job : Option (List ℕ)) (number : Option ℕ) (items : List Item)
    (text : List ℕ) : Type 0 where
  pub deck : List ℕ
  pub others : List Item
  pub asked : AreAsked items deck others
  pub records : RecordsUnder form deck (filter (is_picked job number) others) text

-- what the explanation of these items as records comes to
abbrev pub IsExplanationRecorded : RecordForm → Option (List ℕ) → Option ℕ → List Item → Simulated → Type 0
IsExplanationRecorded form job number items (simulations.Shown text) =
    RecordsNothing form items text ⊎ Records form job number items text
IsExplanationRecorded form job number items (simulations.Refused fault) = RefusesDeck items fault
IsExplanationRecorded form job number items (simulations.Misplaced line) = first_misplaced items ≡ Some line
