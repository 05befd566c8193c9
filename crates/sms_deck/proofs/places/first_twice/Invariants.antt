use Rattle.std.proofs.Common.{◌≡◌}
use Rattle.deck_meaning.specs.Places.{first_twice}
use Rattle.sms_deck.proofs.places.first_twice.Given as goal

abbrev pub invariant-loop-volser : goal.invariant-loop-volser
invariant-loop-volser l =
    (goal.iterator-loop-volser).can_next l.volser-iterator
    × (goal.iterator-loop-volser).is_finite l.volser-iterator
    × (first_twice l.fn.places.entries ≡ first_twice l.volser-iterator)
