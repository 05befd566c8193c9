-- What a routine means: by recursion on its tree (docs/manual/acs-language.md, Meaning).
use Rattle.std.specs.Prelude.{ℕ, List, [], ◌∷◌, map, Option, Some, None, if◌then◌else◌}
use Rattle.std.specs.Option.{unwrap_or}
use Rattle.desk_common.specs.Limits.{most_exit_code}
use Rattle.acs_tree.specs.declared.kind.Kind.{Kind}
use Rattle.acs_tree.specs.declared.routine.Form.TheOpen.{Form-F, Stmt-F, When-F}
use Rattle.acs_tree.specs.declared.routine.Operand.{Operand}
use Rattle.acs_tree.specs.declared.routine.OperandForm.{OperandForm}
use Rattle.acs_tree.specs.declared.routine.OperandForm.TheVariants.{Literal, Word, Var}
use Rattle.acs_tree.specs.declared.routine.Ref.{Ref}
use Rattle.acs_tree.specs.declared.routine.Routine.{Routine}
use Rattle.acs_tree.specs.declared.routine.Stmt.{Stmt, fold-Stmt}
use Rattle.acs_tree.specs.Conditions.{Test, holds, when_holds}
use Rattle.acs_tree.specs.Numbers.{number_of, within}
use Rattle.acs_tree.specs.Outcome.{Action, falls, exits, behind, nothing, then_do}
use Rattle.acs_tree.specs.Setting.{sets}
use Rattle.acs_tree.specs.Writing.{line_of}

-- WRITE
abbrev pub writes : List Operand → Action
writes parts input values = behind (line_of parts input values ∷ []) (falls values)

-- the number of a code; what is no code counts as 0
abbrev pub code_from : OperandForm → ℕ
code_from (Word word) = unwrap_or (within 0 most_exit_code (number_of word)) 0
code_from (Literal text) = 0
code_from (Var ref) = 0

-- without a code it is 0
abbrev pub code_of : Option Operand → ℕ
code_of None = 0
code_of (Some code) = code_from code.form

-- what is done, if anything
abbrev pub perhaps : Option Action → Action
perhaps None = nothing
perhaps (Some action) = action

-- IF
abbrev pub choice : Test → Action → Action → Action
choice test first otherwise input values = if test input values then first input values else otherwise input values

-- one after another
abbrev pub in_turn : List Action → Action
in_turn [] = nothing
in_turn (action ∷ actions) = λ input values. then_do (action input values) (in_turn actions input)

-- a WHEN: what it asks, which depends on the variable of its SELECT, and what is done
pub record Arm : Type 0 where
  pub test : Option Ref → Test
  pub body : Action

-- SELECT: the first WHEN that holds and no later one, and with none what is done otherwise
abbrev pub first_of : Option Ref → List Arm → Action → Action
first_of subject [] otherwise = otherwise
first_of subject (arm ∷ arms) otherwise = choice (arm.test subject) arm.body (first_of subject arms otherwise)

-- what a statement does, from what those in it do; a filter list does nothing by itself
abbrev pub form_step : Kind → List Stmt → Form-F Action Action Arm → Action
form_step kind body (Form-F.Filt name name_at include exclude) = nothing
form_step kind body (Form-F.Put target operands) = sets kind target operands
form_step kind body (Form-F.If cond first otherwise) = choice (holds body cond) first (perhaps otherwise)
form_step kind body (Form-F.Pick subject whens otherwise) = first_of subject whens (perhaps otherwise)
form_step kind body (Form-F.Do block) = in_turn block
form_step kind body (Form-F.Write parts) = writes parts
form_step kind body (Form-F.Exit code) = λ input values. exits (code_of code) values

-- what a statement does, from what its form does
abbrev pub stmt_step : Stmt-F Action Action Arm → Action
stmt_step statement = statement.form

-- what a WHEN asks and does, from what its statement does
abbrev pub when_step : List Stmt → When-F Action Action Arm → Arm
when_step body arm = record { test = λ subject. when_holds body subject arm.test; body = arm.body }

-- what a statement does in a routine of that kind and that body
abbrev pub meaning : Kind → List Stmt → Stmt → Action
meaning kind body = fold-Stmt Action Action Arm (form_step kind body) stmt_step (when_step body)

-- what a routine of that kind means: the statements of its body, in turn
abbrev pub meaning_of : Routine → Kind → Action
meaning_of routine kind = in_turn (map (meaning kind routine.body) routine.body)
