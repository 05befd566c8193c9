-- The line of an ALLOC that a record of a table writes (docs/manual/tool.md, "Comparing two decks").
use Rattle.std.specs.Prelude.{ℕ, ◌==◌, ◌&&◌, Bool, List, [], ◌∷◌, ◌++◌, bytes_eq, codes, length, nat_lt, position}
use Rattle.std.specs.Prelude.{slice_get, Option, if◌then◌else◌}
use Rattle.std.specs.List.{list_any}
use Rattle.desk_common.specs.Bytes.{space_byte}
use Rattle.sms_script.specs.Found.{◌⊳◌}
use Rattle.sms_script.specs.Operands.{is_key}

-- the field of a column
abbrev pub field_of : List ℕ → List (List ℕ) → List (List ℕ) → Option (List ℕ)
field_of name columns fields = position (bytes_eq name) columns ⊳ slice_get fields

-- the field has a blank
abbrev pub has_blank : List ℕ → Bool
has_blank field = list_any (λ byte. byte == space_byte) field

-- a blank, and the operand that the field of a column writes; nothing where the field is empty or the column is no key
abbrev pub operand_text : List ℕ → List ℕ → List ℕ
operand_text column field =
    if nat_lt 0 (length field) && is_key column then codes " " ++ column ++ codes "=" ++ field else []

-- the operands of a record, in the order of its columns
abbrev pub operands_text : List (List ℕ) → List (List ℕ) → List ℕ
operands_text (column ∷ columns) (field ∷ fields) = operand_text column field ++ operands_text columns fields
operands_text [] fields = []
operands_text (column ∷ columns) [] = []

-- the line of an ALLOC of this data set with the operands of a record
abbrev pub alloc_line : List ℕ → List (List ℕ) → List (List ℕ) → List ℕ
alloc_line dsn columns fields = codes "ALLOC " ++ dsn ++ operands_text columns fields
