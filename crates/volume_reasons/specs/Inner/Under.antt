-- What an explanation with candidate volumes comes to under a deck.
use Rattle.std.specs.Prelude.{ℕ, List}
use Rattle.deck_meaning.specs.Reading.{HasFirstFault}
use Rattle.sms_script.specs.declared.item.Item.{Item}
use Rattle.sms_simulation.specs.declared.simulated.Simulated.{Simulated}
use Rattle.sms_simulation.specs.declared.simulated.Simulated.TheVariants as simulations
use Rattle.volume_reasons.specs.Explained.{TellsVolumesUnder}

-- what it comes to where this deck is activated and these are the ALLOCs behind it
abbrev pub IsVolumesExplainedUnder : List ℕ → List Item → Simulated → Type 0
IsVolumesExplainedUnder deck others (simulations.Shown text) = TellsVolumesUnder deck others text
IsVolumesExplainedUnder deck others (simulations.Refused fault) = HasFirstFault deck fault
IsVolumesExplainedUnder deck others (simulations.Misplaced line) = ⊥
