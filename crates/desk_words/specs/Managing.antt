-- What the words of the desk's command line ask of space management (docs/manual/management.md).
use Rattle.std.specs.Prelude.{ℕ, ◌&&◌, List, [], ◌∷◌, nat_le, Option, None, Some, bytes_eq, codes, if◌then◌else◌}
use Rattle.desk_common.specs.Limits.{last_day}
use Rattle.sms_construct.specs.Numbers.{small_number_of}
use Rattle.sms_script.specs.Found.{◌⊳◌}

-- a day up to the last
abbrev pub day_of : ℕ → Option ℕ
day_of day = if nat_le day last_day then Some day else None

-- the day that a number names
abbrev pub day_in : List ℕ → Option ℕ
day_in number = small_number_of number ⊳ λ day. day_of day

-- `run`, `--manage` and a day; no other words name one
abbrev pub managed_day_in : List (List ℕ) → Option ℕ
managed_day_in [] = None
managed_day_in (word ∷ []) = None
managed_day_in (word ∷ option ∷ []) = None
managed_day_in (word ∷ option ∷ day ∷ []) =
    if bytes_eq word (codes "run") && bytes_eq option (codes "--manage") then day_in day else None
managed_day_in (word ∷ option ∷ day ∷ more ∷ words) = None
