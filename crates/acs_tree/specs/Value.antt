-- What a variable holds.
use Rattle.std.specs.Prelude.{◌-◌, ◌==◌, ℕ, List, [], Option, Some, None, if◌then◌else◌}
use Rattle.std.specs.List.{slice_get}

-- what a variable holds
pub data Value : Type 0 where
  -- a text; the empty one is the null value
  Text : List ℕ → Value
  -- a number
  Number : ℕ → Value
  -- a number of KB
  Size : ℕ → Value
  -- volumes, of which one is meant
  AnyOf : List (List ℕ) → Value
  -- volumes, of which all are meant
  AllOf : List (List ℕ) → Value
  -- storage groups
  Groups : List (List ℕ) → Value

-- the text, if there is one, and else the null text
abbrev pub or_null : Option (List ℕ) → List ℕ
or_null None = []
or_null (Some text) = text

-- the text of that number, counted from 1, and null where there is none
abbrev pub text_at : List (List ℕ) → ℕ → List ℕ
text_at texts number = if number == 0 then [] else or_null (slice_get texts (number - 1))
