-- The values of operands (docs/manual/script.md, "Operands").
use Rattle.std.specs.Prelude.{ℕ, ◌==◌, ◌&&◌, Bool, true, List, [], ◌∷◌, length, nat_le, not, Option, None, Some}
use Rattle.std.specs.Prelude.{bytes_eq, codes, if◌then◌else◌}
use Rattle.std.specs.List.{list_all, list_any}
use Rattle.std.specs.Map.{lookup}
use Rattle.std.specs.Option.{option_and_then}
use Rattle.desk_common.specs.Words.{is_one_of}
use Rattle.desk_common.specs.Limits.{most_account_fields, most_value_bytes, most_volume_count, up_to}
use Rattle.dsn_mask.specs.Name.{is_digit, is_short, is_volser, name_of, short_of}
use Rattle.sms_construct.specs.Numbers.{small_number_of}
use Rattle.sms_construct.specs.declared.eattr.Eattr.{Eattr}
use Rattle.sms_construct.specs.Eattr.{eattrs}
use Rattle.sms_construct.specs.Quantities.{volume_count_of}
use Rattle.sms_script.specs.Parts.{listed}

-- the number up to this one that a text writes, if any
abbrev pub number_to : ℕ → List ℕ → Option ℕ
number_to most bytes = option_and_then (up_to most) (small_number_of bytes)

-- no parenthesis and no comma
abbrev pub is_open_byte : ℕ → Bool
is_open_byte byte = not (is_one_of (codes "(),") byte)

-- a value of routines of 1 to so many bytes, with no parenthesis and no comma
abbrev pub is_plain : ℕ → List ℕ → Bool
is_plain most bytes =
    (nat_le 1 (length bytes) && nat_le (length bytes) most) && (list_all is_open_byte bytes && is_short bytes)

-- the text, if it is such a value
abbrev pub plain_of : ℕ → List ℕ → Option (List ℕ)
plain_of most bytes = if is_plain most bytes then Some bytes else None

-- a name, as a value of routines
abbrev pub name_value_of : List ℕ → Option (List ℕ)
name_value_of bytes = option_and_then short_of (name_of bytes)

-- seven digits, as a value of routines
abbrev pub date_of : List ℕ → Option (List ℕ)
date_of bytes = if (length bytes == 7) && list_all is_digit bytes then short_of bytes else None

-- no two of the texts are equal
abbrev pub are_distinct : List (List ℕ) → Bool
are_distinct [] = true
are_distinct (text ∷ texts) = not (list_any (bytes_eq text) texts) && are_distinct texts

-- 1 to 59 volume serials, none twice
abbrev pub are_volumes : List (List ℕ) → Bool
are_volumes texts = nat_le (length texts) most_volume_count && (list_all is_volser texts && are_distinct texts)

-- the volume serials of one value or of a list, if it is right
abbrev pub volumes_of : List ℕ → Option (List (List ℕ))
volumes_of value = if are_volumes (listed value) then Some (listed value) else None

-- 1 to 8 texts, none empty and none too long for a routine
abbrev pub are_fields : List (List ℕ) → Bool
are_fields texts = nat_le (length texts) most_account_fields && list_all (is_plain most_value_bytes) texts

-- the texts of one value or of a list, if it is right
abbrev pub account_of : List ℕ → Option (List (List ℕ))
account_of value = if are_fields (listed value) then Some (listed value) else None

-- a volume count
abbrev pub count_of : List ℕ → Option ℕ
count_of value = option_and_then volume_count_of (small_number_of value)

-- what a word says of whether the data set may lie on cylinder-managed space, if it is such a word
abbrev pub eattr_of : List ℕ → Option Eattr
eattr_of value = lookup (bytes_eq value) eattrs
