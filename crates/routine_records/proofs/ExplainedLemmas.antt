-- What an explanation as records comes to, from its parts.
use Rattle.std.proofs.Common.{◌≡◌, ℕ, List, inr}
use Rattle.std.specs.Prelude.{Option, filter}
use Rattle.flat_records.specs.declared.form.RecordForm.{RecordForm}
use Rattle.sms_explain.specs.Picking.{is_picked}
use Rattle.sms_script.specs.declared.item.Item.{Item}
use Rattle.sms_simulation.specs.Simulation.{AreAsked}
use Rattle.sms_simulation.specs.declared.simulated.Simulated.{Simulated}
use Rattle.sms_simulation.specs.declared.simulated.Simulated.TheVariants as simulations
use Rattle.routine_records.specs.ExplainedRecords.{IsExplanationRecorded}
use Rattle.routine_records.specs.Inner.Under.{IsExplanationUnder}

pub explained_under : (form : RecordForm) (job : Option (List ℕ)) (number : Option ℕ) (items others : List Item) (deck : List ℕ) (made : Simulated) → AreAsked items deck others
    → IsExplanationUnder form deck (filter (is_picked job number) others) made → IsExplanationRecorded form job number items made
explained_under form job number items others deck (simulations.Shown text) asked records =
    inr (record { deck = deck; others = others; asked = asked; records = records })
explained_under form job number items others deck (simulations.Refused fault) asked found = record { deck = deck; others = others; asked = asked; found = found }
explained_under form job number items others deck (simulations.Misplaced line) asked never = absurd never
