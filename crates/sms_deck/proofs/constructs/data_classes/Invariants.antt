use Rattle.std.proofs.Common.{◌≡◌, ◌++◌}
use Rattle.toml.specs.View.{table_view, members_view}
use Rattle.dsn_mask.specs.Name.{name_of}
use Rattle.deck_meaning.specs.Constructs.{data_class_of, named}
use Rattle.sms_deck.proofs.constructs.data_classes.Given as goal

abbrev pub invariant-loop-name : goal.invariant-loop-name
invariant-loop-name l =
    (goal.iterator-loop-name).can_next l.name-iterator
    × (goal.iterator-loop-name).is_finite l.name-iterator
    × (named name_of data_class_of (table_view l.fn.table) ≡ l.classes ++ named name_of data_class_of (members_view l.name-iterator))
