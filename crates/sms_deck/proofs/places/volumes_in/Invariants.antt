use Rattle.std.proofs.Common.{◌≡◌, ◌++◌}
use Rattle.deck_meaning.specs.Places.{volumes_in}
use Rattle.sms_deck.proofs.places.volumes_in.Given as goal

abbrev pub invariant-loop-place : goal.invariant-loop-place
invariant-loop-place l =
    (goal.iterator-loop-place).can_next l.place-iterator
    × (goal.iterator-loop-place).is_finite l.place-iterator
    × (volumes_in l.fn.places.entries ≡ l.volumes ++ volumes_in l.place-iterator)
