use Rattle.std.proofs.Common.{◌≡◌}
use Rattle.toml.specs.View.{table_view, members_view}
use Rattle.dsn_mask.specs.Name.{is_volser}
use Rattle.deck_meaning.specs.Tables.{volume_walk}
use Rattle.deck_faults.specs.Survey.{each_faults, first_alone}
use Rattle.deck_faults.specs.Inner.Telling.{put_all}
use Rattle.deck_faults.proofs.volume_table.tell_each.Given as goal

abbrev pub invariant-loop-name : goal.invariant-loop-name
invariant-loop-name l =
    (goal.iterator-loop-name).can_next l.name-iterator
    × (goal.iterator-loop-name).is_finite l.name-iterator
    × (put_all l.told.items (each_faults is_volser (first_alone volume_walk) l.fn.path (members_view l.name-iterator))
    ≡ put_all l.initial.told.items (each_faults is_volser (first_alone volume_walk) l.fn.path (table_view l.fn.volumes)))
