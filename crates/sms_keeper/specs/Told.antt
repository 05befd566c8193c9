-- What a keeper may tell of its tables.
use Rattle.std.specs.Prelude.{◌≡◌, Option, Some, IfSome}
use Rattle.sms_keeper.specs.declared.change.Change.{Change}
use Rattle.sms_keeper.specs.declared.rows.Rows.{Rows}
use Rattle.sms_keeper.specs.Tables.{AreSame, with_change}

-- tables that are told after the call were told before it, and are those with the change
abbrev pub Applies : Change → Option Rows → Option Rows → Type 0
Applies change before after =
    IfSome after (λ rows. (old : Rows) × (before ≡ Some old) × AreSame rows (with_change old change))

-- tables that are told after the call were told before it, and are the same
abbrev pub Stays : Option Rows → Option Rows → Type 0
Stays before after = IfSome after (λ rows. (old : Rows) × (before ≡ Some old) × AreSame rows old)
