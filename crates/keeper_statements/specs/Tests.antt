-- Rows, and the tests of SQL by which they are found.
use Rattle.std.specs.Prelude.{◌≡◌, ℕ, ℤ, Bool, not, ◌&&◌, List, [], ◌∷◌, filter}
use Rattle.sqlite.specs.Collation.TheVariants.{Binary}
use Rattle.sqlite.specs.Order.{Row}
use Rattle.sqlite.specs.declared.types.Value.{Value}
use Rattle.sqlite.specs.declared.types.Value.TheVariants.{Null, Int, Text, Blob}
use Rattle.sqlite_value.specs.Order.{column}
use Rattle.sqlite_sql.specs.declared.ops.BinaryOp.TheVariants.{Compare}
use Rattle.sqlite_sql.specs.declared.ops.CompareOp.TheVariants.{Lt, Gt}
use Rattle.sqlite_sql.specs.Ops.{binary, is_true}
use Rattle.sqlite_schema.specs.Rules.{equal}

-- as SQL's =, < and >, which are not true of a null
abbrev pub is_equal : Value → Value → Bool
is_equal a b = equal Binary a b

abbrev pub is_less : Value → Value → Bool
is_less a b = is_true (binary (Compare Lt Binary) a b)

abbrev pub is_greater : Value → Value → Bool
is_greater a b = is_true (binary (Compare Gt Binary) a b)

-- the row of a data set: its name and its record
abbrev pub set_row : List ℕ → List ℕ → Row
set_row dsn bytes = Text dsn ∷ Blob bytes ∷ []

-- the row of a kept reply: job, number, place, the records of request and reply
abbrev pub reply_row : List ℕ → ℤ → ℤ → List ℕ → List ℕ → Row
reply_row job number place request reply = Text job ∷ Int number ∷ Int place ∷ Blob request ∷ Blob reply ∷ []

-- the row of a deck with its number; its first column stands for that number, and is kept as a null
abbrev pub deck_row : ℤ → List ℕ → Row
deck_row count bytes = Int count ∷ Null ∷ Blob bytes ∷ []

-- the row of a status: kind, name, status
abbrev pub status_row : ℤ → List ℕ → ℤ → Row
status_row kind name status = Int kind ∷ Text name ∷ Int status ∷ []

-- the row of a floor: job and floor
abbrev pub floor_row : List ℕ → ℤ → Row
floor_row job floor = Text job ∷ Int floor ∷ []

-- the first column is this text: the row of this data set, of this job
abbrev pub is_of : List ℕ → Row → Bool
is_of text row = is_equal (column row 0) (Text text)

-- the status of this kind and name
abbrev pub is_status : ℤ → List ℕ → Row → Bool
is_status kind name row = is_equal (column row 0) (Int kind) && is_equal (column row 1) (Text name)

-- a reply of the job with a number below this one
abbrev pub is_below : List ℕ → ℤ → Row → Bool
is_below job limit row = is_of job row && is_less (column row 1) (Int limit)

-- a floor of the job above this number
abbrev pub is_above : List ℕ → ℤ → Row → Bool
is_above job number row = is_of job row && is_greater (column row 1) (Int number)

-- the rows that the test leaves
abbrev pub without : (Row → Bool) → List Row → List Row
without test = filter (λ row. not (test row))

-- so many rows pass the test: none where none was counted, and one where one was
pub record HasFound (test : Row → Bool) (rows : List Row) (count : ℕ) : Type 0 where
  pub none : count ≡ 0 → filter test rows ≡ []
  pub one : count ≡ 1 → (row : Row) × (filter test rows ≡ row ∷ [])
