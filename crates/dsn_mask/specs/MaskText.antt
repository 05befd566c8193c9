-- The texts of masks (docs/manual/acs-language.md, "Masks").
use Rattle.std.specs.Prelude.{◌≡◌, ◌==◌, ◌&&◌, ◌||◌, ℕ, Bool, true, not, List, [], ◌∷◌, Option, None, Some, length}
use Rattle.std.specs.Prelude.{nat_le, if◌then◌else◌}
use Rattle.std.specs.List.{list_all}
use Rattle.desk_common.specs.Limits.{most_word_bytes}
use Rattle.desk_common.specs.Bytes.{full_stop, star}
use Rattle.desk_common.specs.Words.{begins_with_star}
use Rattle.dsn_mask.specs.Name.{is_name_byte}
use Rattle.dsn_mask.specs.Qualifiers.{qualifiers_of}
use Rattle.dsn_mask.specs.MaskTest.{is_empty, is_two_stars}

-- A to Z, 0 to 9, #, @, $, -, _, the full stop, % and *
abbrev pub is_mask_byte : ℕ → Bool
is_mask_byte byte =
    is_name_byte byte || (byte == 45 || (byte == 95 || (byte == full_stop || (byte == 37 || byte == star))))

-- no two stars stand side by side
abbrev pub are_stars_apart : List ℕ → Bool
are_stars_apart [] = true
are_stars_apart (byte ∷ bytes) = not (byte == star && begins_with_star bytes) && are_stars_apart bytes

-- bytes of masks, no two stars side by side
abbrev pub is_piece : List ℕ → Bool
is_piece bytes = list_all is_mask_byte bytes && are_stars_apart bytes

-- a qualifier of a mask: `**`, or a piece of at least one byte
abbrev pub is_mask_qualifier : List ℕ → Bool
is_mask_qualifier qualifier = is_two_stars qualifier || (not (is_empty qualifier) && is_piece qualifier)

-- 1 to 64 bytes, each qualifier in form
abbrev pub is_mask : List ℕ → Bool
is_mask bytes =
    nat_le 1 (length bytes) && (nat_le (length bytes) most_word_bytes &&
    list_all is_mask_qualifier (qualifiers_of bytes))

-- 1 to 64 bytes of one piece
abbrev pub is_simple : List ℕ → Bool
is_simple bytes = nat_le 1 (length bytes) && (nat_le (length bytes) most_word_bytes && is_piece bytes)

-- a mask of data set names
abbrev pub IsMask : List ℕ → Type 0
IsMask bytes = is_mask bytes ≡ true

-- a simple mask
abbrev pub IsSimple : List ℕ → Type 0
IsSimple bytes = is_simple bytes ≡ true

-- the mask that the bytes spell, if any
abbrev pub mask_of : List ℕ → Option (List ℕ)
mask_of bytes = if is_mask bytes then Some bytes else None

-- the simple mask that the bytes spell, if any
abbrev pub simple_of : List ℕ → Option (List ℕ)
simple_of bytes = if is_simple bytes then Some bytes else None
