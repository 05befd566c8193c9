use Rattle.std.proofs.Common.{◌≡◌, []}
use Rattle.toml.specs.View.{table_view, members_view}
use Rattle.deck_meaning.specs.Constructs.{all_volumes}
use Rattle.deck_meaning.specs.Places.{put_volumes}
use Rattle.deck_faults.proofs.places.places_of.Given as goal

abbrev pub invariant-loop-name : goal.invariant-loop-name
invariant-loop-name l =
    (goal.iterator-loop-name).can_next l.name-iterator
    × (goal.iterator-loop-name).is_finite l.name-iterator
    × (put_volumes l.places.entries (all_volumes (members_view l.name-iterator)) ≡ put_volumes [] (all_volumes (table_view l.fn.groups)))
