use Rattle.std.proofs.Common.{◌≡◌, ◌≤◌, ◌+◌}
use Rattle.toml.specs.View.{table_view, members_view}
use Rattle.deck_meaning.specs.Places.{volume_total}
use Rattle.deck_faults.proofs.places.has_too_many.Given as goal

abbrev pub invariant-loop-group : goal.invariant-loop-group
invariant-loop-group l =
    (goal.iterator-loop-group).can_next l.group-iterator
    × (goal.iterator-loop-group).is_finite l.group-iterator
    × (l.total ≤ 1024)
    × (volume_total (table_view l.fn.groups) ≡ l.total + volume_total (members_view l.group-iterator))
