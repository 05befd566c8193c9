-- The row of an operand in the table of variables.
use Rattle.std.specs.Prelude.{Option, None}
use Rattle.acs_tree.specs.declared.routine.OperandForm.{OperandForm}
use Rattle.acs_tree.specs.declared.routine.OperandForm.TheVariants.{Literal, Word, Var}
use Rattle.acs_tree.specs.declared.variable.Variable.{Variable}
use Rattle.acs_tree.specs.Variables.{variable_of}

-- what is known of a variable that an operand is, if it is one
abbrev pub row_of : OperandForm → Option Variable
row_of (Literal text) = None
row_of (Word word) = None
row_of (Var ref) = variable_of ref.name
