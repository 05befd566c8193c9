-- What is asked by the items of a script (docs/manual/tool.md, "Simulating a script").
use Rattle.std.specs.Prelude.{◌≡◌, ℕ, List, [], Option, None, Some, Result, Ok, Err, map}
use Rattle.sms_script.specs.declared.item.Item.{Item}
use Rattle.sms_simulation.specs.Simulation.{AreAsked, first_misplaced}
use Rattle.routine_records.specs.declared.asked.AskedDeck.{AskedDeck}

-- what these items ask
abbrev pub IsAsked : List Item → Result (Option AskedDeck) ℕ → Type 0
IsAsked items (Ok None) = items ≡ []
IsAsked items (Ok (Some asked)) = AreAsked items asked.deck.now (map (λ item. item.now) asked.others.now)
IsAsked items (Err line) = first_misplaced items ≡ Some line
