-- What a simulation as records comes to, from its parts.
use Rattle.std.proofs.Common.{◌≡◌, ℕ, List, ◌∷◌, refl, ap, ◌∙◌, inr}
use Rattle.std.specs.Prelude.{Option, None, Some}
use Rattle.sms_keeper.specs.Suits.{deck_of}
use Rattle.sms_script.specs.declared.item.Item.{Item}
use Rattle.sms_simulation.specs.Simulation.{AreAsked, first_misplaced, first_other, misplaced_from}
use Rattle.sms_simulation.specs.declared.simulated.Simulated.{Simulated}
use Rattle.sms_simulation.specs.declared.simulated.Simulated.TheVariants as simulations
use Rattle.sms_outcomes.specs.SimulatedRecords.{IsRecorded, IsRecordedUnder}
use Rattle.flat_records.specs.declared.form.RecordForm.{RecordForm}

asked : (first : Item) (others : List Item) (deck : List ℕ) → deck_of first.request.op ≡ Some deck → first_other others ≡ None → AreAsked (first ∷ others) deck others
asked first others deck activates allocates = record { first = first; items_are = refl; activates = activates; allocates = allocates }

pub recorded_under : (form : RecordForm) (first : Item) (others : List Item) (deck : List ℕ) (made : Simulated) → deck_of first.request.op ≡ Some deck → first_other others ≡ None
    → IsRecordedUnder form deck others made → IsRecorded form (first ∷ others) made
recorded_under form first others deck (simulations.Shown text) activates allocates records =
    inr (record { deck = deck; others = others; asked = asked first others deck activates allocates; records = records })
recorded_under form first others deck (simulations.Refused fault) activates allocates found =
    record { deck = deck; others = others; asked = asked first others deck activates allocates; found = found }
recorded_under form first others deck (simulations.Misplaced line) activates allocates never = absurd never

pub misplaced_behind : (first : Item) (others : List Item) (deck : List ℕ) (line : ℕ) → deck_of first.request.op ≡ Some deck → first_other others ≡ Some line → first_misplaced (first ∷ others) ≡ Some line
misplaced_behind first others deck line activates other = ap (λ (d : Option (List ℕ)). misplaced_from d first others) activates ∙ other
