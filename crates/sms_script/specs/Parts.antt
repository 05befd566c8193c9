-- Parts of a text.
use Rattle.std.specs.Prelude.{◌-◌, ◌&&◌, ℕ, List, [], ◌∷◌, length, take, drop, nat_le, Option, None, Some, bytes_eq}
use Rattle.std.specs.Prelude.{if◌then◌else◌}
use Rattle.std.specs.Option.{option_and_then}
use Rattle.desk_common.specs.Bytes.{comma}
use Rattle.desk_common.specs.Words.{pieces_of}
use Rattle.sms_construct.specs.Parts.{behind_front, in_parentheses}

-- what is before this end, if it stands there
abbrev pub before_end : List ℕ → List ℕ → Option (List ℕ)
before_end end bytes =
    if nat_le (length end) (length bytes) && bytes_eq (drop (length bytes - length end) bytes) end
    then Some (take (length bytes - length end) bytes) else None

-- what stands in parentheses behind a word, if it does
abbrev pub in_call : List ℕ → List ℕ → Option (List ℕ)
in_call word bytes = option_and_then in_parentheses (behind_front word bytes)

-- the pieces between the commas of a text, if there is one
abbrev pub pieces_behind : Option (List ℕ) → List (List ℕ)
pieces_behind None = []
pieces_behind (Some text) = pieces_of (comma ∷ []) text

-- the pieces of a list, or the whole text
abbrev pub pieces_in : List ℕ → Option (List ℕ) → List (List ℕ)
pieces_in bytes None = bytes ∷ []
pieces_in bytes (Some inner) = pieces_of (comma ∷ []) inner

-- the pieces of a list in parentheses, or the text as the only piece
abbrev pub listed : List ℕ → List (List ℕ)
listed bytes = pieces_in bytes (in_parentheses bytes)
