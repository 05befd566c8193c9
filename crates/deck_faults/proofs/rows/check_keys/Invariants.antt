use Rattle.std.proofs.Common.{◌≡◌, map}
use Rattle.toml.specs.View.{table_view, members_view}
use Rattle.deck_meaning.specs.Layout.{unknown_fault}
use Rattle.deck_faults.proofs.rows.check_keys.Given as goal

abbrev pub invariant-loop-key : goal.invariant-loop-key
invariant-loop-key l =
    (goal.iterator-loop-key).can_next l.key-iterator ×
    (goal.iterator-loop-key).is_finite l.key-iterator
    × (unknown_fault l.fn.path (map (λ w. w.now) l.fn.known) (table_view l.fn.keys) ≡ unknown_fault l.fn.path (map (λ w. w.now) l.fn.known) (members_view l.key-iterator))
