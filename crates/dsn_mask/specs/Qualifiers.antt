-- A text split at its full stops.
use Rattle.std.specs.Prelude.{◌==◌, ℕ, List, [], Option, None, Some}
use Rattle.desk_common.specs.Bytes.{full_stop}
use Rattle.desk_common.specs.Words.{pieces_between}

-- the qualifiers between the full stops; the empty text has one empty qualifier
abbrev pub qualifiers_of : List ℕ → List (List ℕ)
qualifiers_of text = pieces_between (λ byte. byte == full_stop) text

-- the qualifiers of what is behind a full stop, if there is one
abbrev pub qualifiers_left : Option (List ℕ) → List (List ℕ)
qualifiers_left None = []
qualifiers_left (Some bytes) = qualifiers_of bytes
