-- What is told where a deck is activated and these are the ALLOCs behind it.
use Rattle.std.specs.Prelude.{ℕ, List}
use Rattle.flat_records.specs.declared.form.RecordForm.{RecordForm}
use Rattle.deck_meaning.specs.Reading.{HasFirstFault}
use Rattle.sms_script.specs.declared.item.Item.{Item}
use Rattle.sms_coverage.specs.declared.coverage.Covered.{Covered}
use Rattle.sms_coverage.specs.declared.coverage.Covered.TheVariants as coverages
use Rattle.sms_simulation.specs.declared.simulated.Simulated.{Simulated}
use Rattle.sms_simulation.specs.declared.simulated.Simulated.TheVariants as simulations
use Rattle.routine_records.specs.CoveredRecords.{CoverageUnder}
use Rattle.routine_records.specs.ExplainedRecords.{RecordsUnder}

-- what the explanation comes to
abbrev pub IsExplanationUnder : RecordForm → List ℕ → List Item → Simulated → Type 0
IsExplanationUnder form deck others (simulations.Shown text) = RecordsUnder form deck others text
IsExplanationUnder form deck others (simulations.Refused fault) = HasFirstFault deck fault
IsExplanationUnder form deck others (simulations.Misplaced line) = ⊥

-- what the coverage comes to
abbrev pub IsCoverageUnder : RecordForm → ℕ → List ℕ → List Item → Covered → Type 0
IsCoverageUnder form least deck others (coverages.Shown coverage) = CoverageUnder form least deck others coverage
IsCoverageUnder form least deck others (coverages.Refused fault) = HasFirstFault deck fault
IsCoverageUnder form least deck others (coverages.Misplaced line) = ⊥
