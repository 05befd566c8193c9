-- Words that are numbers or sizes (docs/manual/acs-language.md, Kinds that suit).
use Rattle.std.specs.Prelude.{◌+◌, ◌-◌, ◌*◌, ◌&&◌, ℕ, Bool, false, List, [], ◌∷◌, length, take, drop, nat_le, nat_lt}
use Rattle.std.specs.Prelude.{codes, Option, Some, None, is_some, if◌then◌else◌}
use Rattle.std.specs.List.{list_all}
use Rattle.std.specs.Str.{bytes_eq}
use Rattle.dsn_mask.specs.Name.{is_digit}

-- the value of decimal digits behind those of a given value
abbrev pub value_behind : ℕ → List ℕ → ℕ
value_behind front [] = front
value_behind front (digit ∷ digits) = value_behind (10 * front + (digit - 48)) digits

-- the value of decimal digits
abbrev pub value_of : List ℕ → ℕ
value_of digits = value_behind 0 digits

-- the number that a word is: one or more digits, as many as there may be
abbrev pub number_of : List ℕ → Option ℕ
number_of word = if nat_lt 0 (length word) && list_all is_digit word then Some (value_of word) else None

-- how many KB a unit of size has
abbrev pub kilobytes_in : List ℕ → Option ℕ
kilobytes_in unit =
    if bytes_eq unit (codes "KB") then Some 1 else
    if bytes_eq unit (codes "MB") then Some 1024 else
    if bytes_eq unit (codes "GB") then Some 1048576 else None

-- so many times so much, if both are there
abbrev pub times : Option ℕ → Option ℕ → Option ℕ
times (Some count) (Some unit) = Some (count * unit)
times _ _ = None

-- the size that a word is, in KB: a number before its last two bytes, and a unit
abbrev pub size_of : List ℕ → Option ℕ
size_of word = times (number_of (take (length word - 2) word)) (kilobytes_in (drop (length word - 2) word))

-- the number, if it is one of that range
abbrev pub within : ℕ → ℕ → Option ℕ → Option ℕ
within least most None = None
within least most (Some number) = if nat_le least number && nat_le number most then Some number else None

-- a word that is a number of that range
abbrev pub is_between : ℕ → ℕ → List ℕ → Bool
is_between least most word = is_some (within least most (number_of word))

-- the greatest number that is counted with
abbrev pub greatest : ℕ
greatest = 18446744073709551615

-- there is a number, and it is past the greatest
abbrev pub is_past_greatest : Option ℕ → Bool
is_past_greatest None = false
is_past_greatest (Some number) = nat_lt greatest number
