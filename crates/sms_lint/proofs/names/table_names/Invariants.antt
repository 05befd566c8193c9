use Rattle.std.proofs.Common.{◌≡◌, ◌++◌}
use Rattle.toml.specs.View.{table_view, members_view}
use Rattle.sms_lint.specs.DeckFound.{names_among}
use Rattle.sms_lint.proofs.names.table_names.Given as goal

-- the names of the keys that were gone over, and those of the keys behind
abbrev pub invariant-loop-key : goal.invariant-loop-key
invariant-loop-key l =
    (goal.iterator-loop-key).can_next l.key-iterator ×
    (goal.iterator-loop-key).is_finite l.key-iterator
    × (l.names.items ++ names_among (members_view l.key-iterator) ≡ names_among (table_view l.fn.table))
