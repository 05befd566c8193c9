-- What WRITE writes (docs/manual/acs-language.md, Meaning).
use Rattle.std.specs.Prelude.{◌++◌, ℕ, List, [], ◌∷◌, take, codes, decimal}
use Rattle.std.specs.List.{join_with_byte}
use Rattle.desk_common.specs.Limits.{most_literal_bytes}
use Rattle.desk_common.specs.Bytes.{comma}
use Rattle.acs_tree.specs.declared.input.Input.{Input}
use Rattle.acs_tree.specs.declared.routine.Operand.{Operand}
use Rattle.acs_tree.specs.declared.routine.OperandForm.{OperandForm}
use Rattle.acs_tree.specs.declared.routine.OperandForm.TheVariants.{Literal, Word, Var}
use Rattle.acs_tree.specs.declared.values.Values.{Values}
use Rattle.acs_tree.specs.Value.{Value, Text, Number, Size, AnyOf, AllOf, Groups}
use Rattle.acs_tree.specs.Variables.{variable_value, index_of}

-- names with commas between them
abbrev pub listed : List (List ℕ) → List ℕ
listed names = join_with_byte comma names

-- a value as WRITE writes it
abbrev pub printed : Value → List ℕ
printed (Text text) = text
printed (Number number) = decimal number
printed (Size kilobytes) = decimal kilobytes ++ codes "KB"
printed (AnyOf volumes) = listed volumes
printed (AllOf volumes) = listed volumes
printed (Groups groups) = listed groups

-- a part of a line; a word, which no check lets through, is nothing
abbrev pub written : OperandForm → Input → Values → List ℕ
written (Literal text) input values = text
written (Word word) input values = []
written (Var ref) input values = printed (variable_value ref.name (index_of ref.index) input values)

-- the parts with nothing between them
abbrev pub joined : List Operand → Input → Values → List ℕ
joined [] input values = []
joined (part ∷ parts) input values = written part.form input values ++ joined parts input values

-- a line is cut to as many bytes as a literal may have
abbrev pub line_of : List Operand → Input → Values → List ℕ
line_of parts input values = take most_literal_bytes (joined parts input values)
