-- The words of a text.
use Rattle.std.specs.Prelude.{ℕ, Bool, false, ◌==◌, List, [], ◌∷◌, if◌then◌else◌}
use Rattle.std.specs.List.{list_any}
use Rattle.desk_common.specs.Bytes.{star}

-- the first byte is an asterisk
abbrev pub begins_with_star : List ℕ → Bool
begins_with_star [] = false
begins_with_star (byte ∷ bytes) = byte == star

-- the byte is one of these
abbrev pub is_one_of : List ℕ → ℕ → Bool
is_one_of bytes byte = list_any (λ other. byte == other) bytes

-- the byte goes onto the first piece
abbrev pub onto : ℕ → List (List ℕ) → List (List ℕ)
onto byte [] = (byte ∷ []) ∷ []
onto byte (piece ∷ pieces) = (byte ∷ piece) ∷ pieces

-- the pieces of a text between the bytes that part it, empty ones too; the empty text has one empty piece
abbrev pub pieces_between : (ℕ → Bool) → List ℕ → List (List ℕ)
pieces_between parts [] = [] ∷ []
pieces_between parts (byte ∷ bytes) =
    if parts byte then [] ∷ pieces_between parts bytes else onto byte (pieces_between parts bytes)

-- the pieces between the separators
abbrev pub pieces_of : List ℕ → List ℕ → List (List ℕ)
pieces_of separators text = pieces_between (is_one_of separators) text

-- the pieces that aren't empty
abbrev pub without_empty : List (List ℕ) → List (List ℕ)
without_empty [] = []
without_empty ([] ∷ pieces) = without_empty pieces
without_empty ((byte ∷ bytes) ∷ pieces) = (byte ∷ bytes) ∷ without_empty pieces

-- the words between the blanks
abbrev pub words_of : List ℕ → List ℕ → List (List ℕ)
words_of blanks text = without_empty (pieces_of blanks text)
