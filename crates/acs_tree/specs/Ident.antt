-- Names of variables and words (docs/manual/acs-language.md, Tree).
use Rattle.std.specs.Prelude.{◌≤◌, ◌&&◌, ℕ, Bool, List, length, nat_le, not}
use Rattle.std.specs.List.{AllPass}
use Rattle.desk_common.specs.Limits.{most_word_bytes}

-- a byte that is no small letter
abbrev pub is_upper_byte : ℕ → Bool
is_upper_byte byte = not (nat_le 97 byte && nat_le byte 122)

-- no more bytes than a word may have, and no small letter among them
abbrev pub IsIdent : List ℕ → Type 0
IsIdent bytes = (length bytes ≤ most_word_bytes) × AllPass is_upper_byte bytes
