-- What an item and those behind it ask.
use Rattle.std.proofs.Common.{◌≡◌, ℕ, List, ◌∷◌, refl, ap, ◌∙◌}
use Rattle.std.specs.Prelude.{Option, None, Some}
use Rattle.sms_keeper.specs.Suits.{deck_of}
use Rattle.sms_script.specs.declared.item.Item.{Item}
use Rattle.sms_simulation.specs.Simulation.{AreAsked, first_misplaced, first_other, misplaced_from}

pub asked_under : (first : Item) (others : List Item) (deck : List ℕ) → deck_of first.request.op ≡ Some deck → first_other others ≡ None → AreAsked (first ∷ others) deck others
asked_under first others deck activates allocates = record { first = first; items_are = refl; activates = activates; allocates = allocates }

pub misplaced_behind : (first : Item) (others : List Item) (deck : List ℕ) (line : ℕ) → deck_of first.request.op ≡ Some deck → first_other others ≡ Some line → first_misplaced (first ∷ others) ≡ Some line
misplaced_behind first others deck line activates other = ap (λ (d : Option (List ℕ)). misplaced_from d first others) activates ∙ other
