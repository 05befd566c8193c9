-- What holds of the replies that a desk keeps.
use Rattle.std.specs.Prelude.{ℕ, ◌≡◌, ◌==◌, ◌+◌, ◌≤◌, List, [], ◌∷◌, if◌then◌else◌}
use Rattle.std.specs.List.{AllByRecursion}
use Rattle.sms_construct.specs.Fate.{fate_of}
use Rattle.sms_construct.specs.declared.fate.Fate.TheVariants as fates
use Rattle.sms_keeper.specs.declared.kept_row.KeptRow.{KeptRow}

-- a reply that is kept for the job and number of its request, at one of the places up to the last
pub record IsKeptRow (last : ℕ) (row : KeptRow) : Type 0 where
  pub fate : fate_of row.reply ≡ fates.Kept
  pub job : row.job ≡ row.request.job
  pub number : row.number ≡ row.request.number
  pub some : 1 ≤ row.place
  pub within : row.place ≤ last

-- how many rows have the place
abbrev pub times_placed : ℕ → List KeptRow → ℕ
times_placed place [] = 0
times_placed place (row ∷ rows) = (if row.place == place then 1 else 0) + times_placed place rows

-- each row is such a one, and no two have one place
pub record AreKeptRows (last : ℕ) (rows : List KeptRow) : Type 0 where
  pub each : AllByRecursion (IsKeptRow last) rows
  pub apart : (place : ℕ) → times_placed place rows ≤ 1
