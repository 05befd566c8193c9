-- When a condition holds (docs/manual/acs-language.md, Meaning).
use Rattle.std.specs.Prelude.{◌&&◌, ◌||◌, Bool, false, List, Option, Some, None}
use Rattle.std.specs.List.{list_any}
use Rattle.acs_tree.specs.declared.input.Input.{Input}
use Rattle.acs_tree.specs.declared.routine.Compare.{Compare}
use Rattle.acs_tree.specs.declared.routine.Compare.TheVariants.{Eq}
use Rattle.acs_tree.specs.declared.routine.Cond.{Cond, fold-Cond}
use Rattle.acs_tree.specs.declared.routine.Cond.TheOpen.{Cond-F}
use Rattle.acs_tree.specs.declared.routine.Operand.{Operand}
use Rattle.acs_tree.specs.declared.routine.Ref.{Ref}
use Rattle.acs_tree.specs.declared.routine.Stmt.{Stmt}
use Rattle.acs_tree.specs.declared.routine.WhenTest.{WhenTest}
use Rattle.acs_tree.specs.declared.routine.WhenTest.TheVariants.{Any, Holds}
use Rattle.acs_tree.specs.declared.values.Values.{Values}
use Rattle.acs_tree.specs.Comparands.{comparand_of}
use Rattle.acs_tree.specs.Compares.{compares}
use Rattle.acs_tree.specs.Variables.{variable_value, index_of}

-- what holds or not for an input and the values so far
abbrev pub Test : Type 0
Test = Input → Values → Bool

-- a variable, a comparison and an operand, in a routine of that body
abbrev pub comparison : List Stmt → Ref → Compare → Operand → Test
comparison body left op right input values =
    compares input values op (variable_value left.name (index_of left.index) input values)
    (comparand_of body left right)

-- a condition, from those in it
abbrev pub cond_step : List Stmt → Cond-F Test → Test
cond_step body (Cond-F.And one two) input values = one input values && two input values
cond_step body (Cond-F.Or one two) input values = one input values || two input values
cond_step body (Cond-F.Test left op op_at right) input values = comparison body left op right input values

-- the condition holds
abbrev pub holds : List Stmt → Cond → Test
holds body = fold-Cond Test (cond_step body)

-- the variable equals one of the items
abbrev pub equals_any : List Stmt → Ref → List Operand → Test
equals_any body subject items input values = list_any (λ item. comparison body subject Eq item input values) items

-- what a WHEN asks, in a SELECT of a variable or of none; items beside no variable are not met
abbrev pub when_holds : List Stmt → Option Ref → WhenTest → Test
when_holds body subject (Holds cond) = holds body cond
when_holds body (Some subject) (Any items) = equals_any body subject items
when_holds body None (Any items) = λ input values. false
