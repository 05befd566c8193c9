-- What an explanation with candidate volumes comes to, from its parts.
use Rattle.std.proofs.Common.{◌≡◌, ◌++◌, ℕ, List, ◌∷◌, refl, ap, ◌∙◌, inr, append_assoc}
use Rattle.std.specs.Prelude.{Option, None, Some, filter}
use Rattle.sms_keeper.specs.Suits.{deck_of}
use Rattle.sms_script.specs.declared.item.Item.{Item}
use Rattle.sms_simulation.specs.Simulation.{AreAsked, first_misplaced, first_other, misplaced_from}
use Rattle.sms_simulation.specs.declared.simulated.Simulated.{Simulated}
use Rattle.sms_simulation.specs.declared.simulated.Simulated.TheVariants as simulations
use Rattle.sms_explain.specs.Picking.{is_picked}
use Rattle.volume_reasons.specs.Explained.{IsVolumesExplained}
use Rattle.volume_reasons.specs.Inner.Under.{IsVolumesExplainedUnder}

asked : (first : Item) (others : List Item) (deck : List ℕ) → deck_of first.request.op ≡ Some deck → first_other others ≡ None → AreAsked (first ∷ others) deck others
asked first others deck activates allocates = record { first = first; items_are = refl; activates = activates; allocates = allocates }

pub explained_under : (job : Option (List ℕ)) (number : Option ℕ) (first : Item) (others : List Item) (deck : List ℕ) (made : Simulated) → deck_of first.request.op ≡ Some deck → first_other others ≡ None
    → IsVolumesExplainedUnder deck (filter (is_picked job number) others) made → IsVolumesExplained job number (first ∷ others) made
explained_under job number first others deck (simulations.Shown text) activates allocates tells =
    inr (record { deck = deck; others = others; asked = asked first others deck activates allocates; tells = tells })
explained_under job number first others deck (simulations.Refused fault) activates allocates found =
    record { deck = deck; others = others; asked = asked first others deck activates allocates; found = found }
explained_under job number first others deck (simulations.Misplaced line) activates allocates never = absurd never

pub misplaced_behind : (first : Item) (others : List Item) (deck : List ℕ) (line : ℕ) → deck_of first.request.op ≡ Some deck → first_other others ≡ Some line → first_misplaced (first ∷ others) ≡ Some line
misplaced_behind first others deck line activates other = ap (λ (d : Option (List ℕ)). misplaced_from d first others) activates ∙ other

-- a text with one part behind it and then another
pub in_two : (before one two first now : List ℕ) → first ≡ before ++ one → now ≡ first ++ two → now ≡ before ++ (one ++ two)
in_two before one two first now e f = f ∙ ap (λ (x : List ℕ). x ++ two) e ∙ append_assoc before one two
