use Rattle.std.proofs.Common.{◌≡◌}
use Rattle.toml.specs.View.{table_view, members_view}
use Rattle.dsn_mask.specs.Name.{is_volser}
use Rattle.deck_meaning.specs.Layout.{each_fault}
use Rattle.deck_meaning.specs.Tables.{volume_walk}
use Rattle.sms_deck.proofs.volume_table.check_each.Given as goal

abbrev pub invariant-loop-name : goal.invariant-loop-name
invariant-loop-name l =
    (goal.iterator-loop-name).can_next l.name-iterator
    × (goal.iterator-loop-name).is_finite l.name-iterator
    × (each_fault is_volser volume_walk l.fn.path (table_view l.fn.volumes) ≡ each_fault is_volser volume_walk l.fn.path (members_view l.name-iterator))
