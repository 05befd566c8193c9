use Rattle.std.proofs.Common.{◌≡◌}
use Rattle.toml.specs.View.{table_view, members_view}
use Rattle.dsn_mask.specs.Name.{volser_of}
use Rattle.deck_meaning.specs.Constructs.{named, volume_of}
use Rattle.deck_meaning.specs.Places.{put_volumes}
use Rattle.deck_faults.proofs.places.put_group.Given as goal

abbrev pub invariant-loop-volser : goal.invariant-loop-volser
invariant-loop-volser l =
    (goal.iterator-loop-volser).can_next l.volser-iterator
    × (goal.iterator-loop-volser).is_finite l.volser-iterator
    × (put_volumes l.places.entries (named volser_of (volume_of l.group) (members_view l.volser-iterator))
    ≡ put_volumes l.initial.places.entries (named volser_of (volume_of l.group) (table_view l.fn.volumes)))
