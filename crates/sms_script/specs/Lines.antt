-- The lines of a text.
use Rattle.std.specs.Prelude.{◌∷◌, [], ◌==◌, ◌||◌, ℕ, Bool, List, Option, None, Some, bytes_eq, codes, unwrap_or}
use Rattle.std.specs.Prelude.{if◌then◌else◌}
use Rattle.std.specs.List.{list_all}
use Rattle.desk_common.specs.Words.{begins_with_star, onto}
use Rattle.desk_common.specs.Bytes.{space_byte}
use Rattle.sms_construct.specs.Parts.{before_last}

-- the lines with their line ends; the last may lack it
abbrev pub lines_of : List ℕ → List (List ℕ)
lines_of [] = []
lines_of (byte ∷ bytes) = if byte == 10 then (byte ∷ []) ∷ lines_of bytes else onto byte (lines_of bytes)

-- what is before the LF, without a CR at its end
abbrev pub without_cr : List ℕ → Option (List ℕ) → List ℕ
without_cr line None = line
without_cr line (Some text) = unwrap_or (before_last 13 text) text

-- the line without its line end: CR LF or LF
abbrev pub text_of_line : List ℕ → List ℕ
text_of_line line = without_cr line (before_last 10 line)

-- only spaces, or nothing
abbrev pub is_blank : List ℕ → Bool
is_blank text = list_all (λ byte. byte == space_byte) text

-- a line that asks nothing
abbrev pub is_skipped : List ℕ → Bool
is_skipped text = begins_with_star text || is_blank text

-- the line that ends a deck block
abbrev pub is_block_end : List ℕ → Bool
is_block_end line = bytes_eq (text_of_line line) (codes "./END")
