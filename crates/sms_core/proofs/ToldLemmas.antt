-- Tables that are told after were told before.
use Rattle.std.proofs.Common.{◌≡◌, ap, refl}
use Rattle.std.specs.Prelude.{Option, Some, None, is_some}
use Rattle.sms_keeper.specs.declared.change.Change.{Change}
use Rattle.sms_keeper.specs.declared.rows.Rows.{Rows}
use Rattle.sms_keeper.specs.Told.{Applies, Stays}
use Rattle.sms_core.specs.Core.{WasTold}

pub told_self : (told : Option Rows) → WasTold told told
told_self None = tt
told_self (Some rows) = refl

pub told_then : (a b c : Option Rows) → WasTold a b → WasTold b c → WasTold a c
told_then a b None one two = tt
told_then a None (Some rows) one two = absurd cc
told_then a (Some found) (Some rows) one two = one

pub told_stays : (a b : Option Rows) → Stays a b → WasTold a b
told_stays a None stays = tt
told_stays a (Some rows) stays = ap is_some stays.1

pub told_applies : (change : Change) (a b : Option Rows) → Applies change a b → WasTold a b
told_applies change a None applies = tt
told_applies change a (Some rows) applies = ap is_some applies.1
