-- What the refusal of found rows says.
use Rattle.std.proofs.Common.{◌≡◌, ◌∙◌, ℕ, None, Err, ap, arith, inl, inr}
use Rattle.std.specs.Prelude.{Option, IfSome, IsErrOf, ◌⊎◌, max, min}
use Rattle.sms_construct.specs.Configuration.{Configuration}
use Rattle.sms_keeper.specs.declared.rows.Rows.{Rows}
use Rattle.sms_keeper.specs.Loading.{AreLoaded}
use Rattle.desk_law.specs.State.{Opening}
use Rattle.sms_open.specs.Reopening.{IsOpened, IsOpenedAt, NamesRefusal, refusal_of_rows}
use Rattle.sms_keeper.specs.declared.table.Table.{Table}
use Rattle.desk_restoring.specs.Opened.{greatest_place}
use Rattle.sms_open.specs.Tests.{most_place}
use Rattle.sms_open.specs.Verdicts.{IsVerdict}
use Rattle.sms_open.specs.declared.rows_err.RowsErr.{RowsErr}
use Rattle.sms_open.specs.declared.rows_err.RowsErr.TheVariants.{Unsound, NoMemory}

abbrev based : Opening → ℕ → Opening
based o base = record { rows = o.rows; config = o.config; base = base }

-- what is opened behind no place is opened
pub opened-first : (told : Option Rows) (o : Opening) → IsOpenedAt 0 told o → IsOpened told o
opened-first told o is =
    let same : max (min 0 most_place) (greatest_place o.rows.replies) ≡ greatest_place o.rows.replies = omega arith in
    record { tables = is.tables; verdict = is.verdict; opening = is.opening ∙ ap (λ (base : ℕ). based o base) same }

-- rows that fail a test are told by its number
pub rows-refused : (told : Option Rows) (damage : Option (Table × ℕ)) (rows : Rows) (err : RowsErr) → damage ≡ None → IfSome told (λ tables. AreLoaded tables rows)
    → IsVerdict rows (Err err) ⊎ IsErrOf {T = Option Configuration} (Err err) NoMemory → NamesRefusal told damage (refusal_of_rows err)
rows-refused told damage rows (Unsound number) none tables (inl verdict) = (none, record { rows = rows; tables = tables; verdict = verdict })
rows-refused told damage rows (Unsound number) none tables (inr wanting) = absurd cc
rows-refused told damage rows NoMemory none tables verdict = tt
