-- What a desk that goes on from a keeper begins with, and why there is none.
use Rattle.std.specs.Prelude.{ℕ, ◌≡◌, None, Option, IfSome, Ok, Err, min}
use Rattle.desk_law.specs.State.{Opening}
use Rattle.desk_restoring.specs.Opened.{opening_behind, opening_of}
use Rattle.sms_keeper.specs.Loading.{AreLoaded, IsDamaged}
use Rattle.sms_keeper.specs.declared.load_err.LoadErr.{LoadErr}
use Rattle.sms_keeper.specs.declared.load_err.LoadErr.TheVariants as loads
use Rattle.sms_keeper.specs.declared.rows.Rows.{Rows}
use Rattle.sms_keeper.specs.declared.table.Table.{Table}
use Rattle.sms_open.specs.declared.open_err.OpenErr.{OpenErr}
use Rattle.sms_open.specs.declared.open_err.OpenErr.TheVariants as refusals
use Rattle.sms_open.specs.declared.rows_err.RowsErr.{RowsErr}
use Rattle.sms_open.specs.declared.rows_err.RowsErr.TheVariants.{Unsound, NoMemory}
use Rattle.sms_open.specs.Tests.{most_place}
use Rattle.sms_open.specs.Verdicts.{IsVerdict}

-- the opening is that of rows that pass all tests, under the configuration of their last deck; they are the tables,
-- where these are told
pub record IsOpened (told : Option Rows) (o : Opening) : Type 0 where
  pub tables : IfSome told (λ tables. AreLoaded tables o.rows)
  pub verdict : IsVerdict o.rows (Ok o.config)
  pub opening : o ≡ opening_of o.rows o.config

-- the same, and new entries come behind this place too, at most behind the greatest
pub record IsOpenedAt (place : ℕ) (told : Option Rows) (o : Opening) : Type 0 where
  pub tables : IfSome told (λ tables. AreLoaded tables o.rows)
  pub verdict : IsVerdict o.rows (Ok o.config)
  pub opening : o ≡ opening_behind (min place most_place) o.rows o.config

-- there are rows of which the test of this number is the first that they don't pass; they are the tables, where these
-- are told
pub record IsUnsound (told : Option Rows) (number : ℕ) : Type 0 where
  pub rows : Rows
  pub tables : IfSome told (λ tables. AreLoaded tables rows)
  pub verdict : IsVerdict rows (Err (Unsound number))

-- what each refusal says of what the keeper tells behind it
abbrev pub NamesRefusal : Option Rows → Option (Table × ℕ) → OpenErr → Type 0
NamesRefusal told damage refusals.Failed = Unit {0}
NamesRefusal told damage (refusals.Damaged table row) = IsDamaged told damage table row
NamesRefusal told damage (refusals.Unsound number) = (damage ≡ None) × IsUnsound told number
NamesRefusal told damage refusals.NoMemory = Unit {0}

-- the same refusals

abbrev pub refusal_of_load : LoadErr → OpenErr
refusal_of_load loads.Failed = refusals.Failed
refusal_of_load (loads.Damaged table row) = refusals.Damaged table row
refusal_of_load loads.NoMemory = refusals.NoMemory

abbrev pub refusal_of_rows : RowsErr → OpenErr
refusal_of_rows (Unsound number) = refusals.Unsound number
refusal_of_rows NoMemory = refusals.NoMemory
