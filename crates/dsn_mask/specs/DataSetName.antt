-- Data set names: qualifiers between full stops.
use Rattle.std.specs.Prelude.{◌≡◌, ◌≤◌, ◌==◌, ◌&&◌, ◌||◌, ℕ, Bool, true, List, All, Option, None, Some, length, nat_le}
use Rattle.std.specs.Prelude.{slice_index, if◌then◌else◌}
use Rattle.std.specs.List.{AllPass, list_all}
use Rattle.desk_common.specs.Limits.{most_name_bytes, most_value_bytes}
use Rattle.dsn_mask.specs.Name.{is_initial, is_name_byte}
use Rattle.dsn_mask.specs.Qualifiers.{qualifiers_of}

-- what a qualifier is made of: as a name, or a hyphen
abbrev pub is_qualifier_byte : ℕ → Bool
is_qualifier_byte byte = is_name_byte byte || byte == 45

-- one to eight bytes, the first no digit and no hyphen
abbrev pub IsQualifier : List ℕ → Type 0
IsQualifier bytes =
    (1 ≤ length bytes) × (length bytes ≤ most_name_bytes) ×
    (is_initial (slice_index bytes 0) ≡ true) × AllPass is_qualifier_byte bytes

-- at most 44 bytes, each qualifier in form
abbrev pub IsDataSetName : List ℕ → Type 0
IsDataSetName bytes = (length bytes ≤ most_value_bytes) × All IsQualifier (qualifiers_of bytes)

-- the same as tests

-- a qualifier in form
abbrev pub is_qualifier : List ℕ → Bool
is_qualifier bytes =
    nat_le 1 (length bytes) && (nat_le (length bytes) most_name_bytes &&
    (is_initial (slice_index bytes 0) && list_all is_qualifier_byte bytes))

-- a data set name
abbrev pub is_data_set_name : List ℕ → Bool
is_data_set_name bytes = nat_le (length bytes) most_value_bytes && list_all is_qualifier (qualifiers_of bytes)

-- the data set name that the bytes spell, if any
abbrev pub dsn_of : List ℕ → Option (List ℕ)
dsn_of bytes = if is_data_set_name bytes then Some bytes else None
