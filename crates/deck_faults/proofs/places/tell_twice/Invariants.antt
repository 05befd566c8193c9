use Rattle.std.proofs.Common.{◌≡◌}
use Rattle.deck_faults.specs.Faults.{twice_faults}
use Rattle.deck_faults.specs.Inner.Telling.{put_all}
use Rattle.deck_faults.proofs.places.tell_twice.Given as goal

abbrev pub invariant-loop-volser : goal.invariant-loop-volser
invariant-loop-volser l =
    (goal.iterator-loop-volser).can_next l.volser-iterator
    × (goal.iterator-loop-volser).is_finite l.volser-iterator
    × (put_all l.told.items (twice_faults l.volser-iterator) ≡ put_all l.initial.told.items (twice_faults l.fn.places.entries))
