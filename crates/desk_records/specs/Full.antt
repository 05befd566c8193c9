-- Whether a journal has a place for one more entry (docs/manual/limits.md).
use Rattle.std.specs.Prelude.{Bool, ◌&&◌, ◌||◌, nat_le, List, length, count_by}
use Rattle.sms_construct.specs.declared.entry.Entry.{Entry}
use Rattle.sms_construct.specs.declared.request.Op.{Op}
use Rattle.desk_law.specs.Limits.{most_activations, most_entries}
use Rattle.desk_law.specs.Step.{activates, is_activation}

-- the journal has as many entries as it may, or the op activates a deck and as many entries as may do so
abbrev pub is_full_for : List Entry → Op → Bool
is_full_for h op = nat_le most_entries (length h) || (is_activation op && nat_le most_activations
    (count_by activates h))
