-- Names, volume serials, values and literals, as lists of bytes.
use Rattle.std.specs.Prelude.{◌≡◌, ◌≤◌, ◌==◌, ◌&&◌, ◌||◌, ℕ, Bool, true, List, Option, None, Some, length, nat_le, not}
use Rattle.std.specs.Prelude.{slice_index, if◌then◌else◌}
use Rattle.std.specs.List.{AllPass, list_all}
use Rattle.desk_common.specs.Limits.{most_literal_bytes, most_name_bytes, most_value_bytes, most_volser_bytes}
use Rattle.desk_common.specs.Bytes.{space_byte, quote}

-- 0 to 9
abbrev pub is_digit : ℕ → Bool
is_digit byte = nat_le 48 byte && nat_le byte 57

-- A to Z, #, $ and @: what a name begins with
abbrev pub is_initial : ℕ → Bool
is_initial byte = (nat_le 65 byte && nat_le byte 90) || (byte == 35 || (byte == 36 || byte == 64))

-- what a name is made of
abbrev pub is_name_byte : ℕ → Bool
is_name_byte byte = is_initial byte || is_digit byte

-- a printed byte but the blank and the quote
abbrev pub is_short_byte : ℕ → Bool
is_short_byte byte = nat_le 33 byte && (nat_le byte 126 && not (byte == quote))

-- a printed byte but the quote
abbrev pub is_literal_byte : ℕ → Bool
is_literal_byte byte = byte == space_byte || is_short_byte byte

-- one to eight of A to Z, 0 to 9, #, $ and @, the first no digit
abbrev pub IsName : List ℕ → Type 0
IsName bytes =
    (1 ≤ length bytes) × (length bytes ≤ most_name_bytes) ×
    (is_initial (slice_index bytes 0) ≡ true) × AllPass is_name_byte bytes

-- one to six of A to Z, 0 to 9, #, $ and @
abbrev pub IsVolser : List ℕ → Type 0
IsVolser bytes = (1 ≤ length bytes) × (length bytes ≤ most_volser_bytes) × AllPass is_name_byte bytes

-- at most 44 printed bytes, none a blank or a quote; the empty text is the null value
abbrev pub IsShort : List ℕ → Type 0
IsShort bytes = (length bytes ≤ most_value_bytes) × AllPass is_short_byte bytes

-- at most 110 printed bytes or blanks, none a quote
abbrev pub IsLiteral : List ℕ → Type 0
IsLiteral bytes = (length bytes ≤ most_literal_bytes) × AllPass is_literal_byte bytes

-- the same as tests

-- a name
abbrev pub is_name : List ℕ → Bool
is_name bytes =
    nat_le 1 (length bytes) && (nat_le (length bytes) most_name_bytes &&
    (is_initial (slice_index bytes 0) && list_all is_name_byte bytes))

-- a volume serial
abbrev pub is_volser : List ℕ → Bool
is_volser bytes = nat_le 1 (length bytes) && (nat_le (length bytes) most_volser_bytes && list_all is_name_byte bytes)

-- a value that a routine sees
abbrev pub is_short : List ℕ → Bool
is_short bytes = nat_le (length bytes) most_value_bytes && list_all is_short_byte bytes

-- a literal
abbrev pub is_literal : List ℕ → Bool
is_literal bytes = nat_le (length bytes) most_literal_bytes && list_all is_literal_byte bytes

-- the name that the bytes spell, if any
abbrev pub name_of : List ℕ → Option (List ℕ)
name_of bytes = if is_name bytes then Some bytes else None

-- the volume serial that the bytes spell, if any
abbrev pub volser_of : List ℕ → Option (List ℕ)
volser_of bytes = if is_volser bytes then Some bytes else None

-- the value that the bytes spell, if any
abbrev pub short_of : List ℕ → Option (List ℕ)
short_of bytes = if is_short bytes then Some bytes else None

-- the literal that the bytes spell, if any
abbrev pub literal_of : List ℕ → Option (List ℕ)
literal_of bytes = if is_literal bytes then Some bytes else None
