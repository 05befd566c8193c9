-- The tables that a desk leaves, and what a keeper that tells them isn't refused for.
use Rattle.std.specs.Prelude.{◌≤◌, List, Ok}
use Rattle.std.specs.List.{AllByRecursion}
use Rattle.sms_construct.specs.declared.entry.Entry.{Entry}
use Rattle.sms_keeper.specs.declared.rows.Rows.{Rows}
use Rattle.desk_law.specs.History.{Reaches}
use Rattle.desk_law.specs.Records.{IsTables}
use Rattle.desk_law.specs.State.{DeskState, Opening}
use Rattle.desk_restoring.specs.Opened.{greatest_place}
use Rattle.sms_open.specs.declared.open_err.OpenErr.{OpenErr}
use Rattle.sms_open.specs.declared.open_err.OpenErr.TheVariants as refusals
use Rattle.sms_open.specs.Tests.{most_place}
use Rattle.sms_open.specs.Verdicts.{IsVerdict}

-- the opening's rows pass all tests, under its configuration, and its entries come behind all replies that it has
pub record HasSoundRows (o : Opening) : Type 0 where
  pub verdict : IsVerdict o.rows (Ok o.config)
  pub behind : greatest_place o.rows.replies ≤ o.base

-- the tables are those of a legal history behind an opening with sound rows, and no place in them is over the greatest
pub record AreOwn (tables : Rows) : Type 0 where
  pub opening : Opening
  pub history : List Entry
  pub state : DeskState
  pub sound : HasSoundRows opening
  pub reaches : Reaches opening history state
  pub tables_are : IsTables opening history state tables
  pub places : AllByRecursion (λ row. row.place ≤ most_place) tables.replies

-- the refusal isn't for what the tables hold: the keeper failed, or memory was wanting
abbrev pub SparesTables : OpenErr → Type 0
SparesTables refusals.Failed = Unit {0}
SparesTables (refusals.Damaged table row) = ⊥
SparesTables (refusals.Unsound number) = ⊥
SparesTables refusals.NoMemory = Unit {0}
