-- What lint finds in a routine (docs/manual/tool.md, "Linting a deck").
use Rattle.std.specs.Prelude.{◌++◌, List, [], flat_map}
use Rattle.acs_tree.specs.declared.routine.Form.{Form}
use Rattle.acs_tree.specs.declared.routine.Form.TheOpen.{Form-F}
use Rattle.acs_tree.specs.declared.routine.Operand.{Operand}
use Rattle.acs_tree.specs.declared.routine.Routine.{Routine}
use Rattle.acs_tree.specs.declared.routine.Stmt.{Stmt}
use Rattle.acs_tree.specs.declared.routine.When.{When}
use Rattle.acs_lint.specs.Blocks.{behind_in}
use Rattle.acs_lint.specs.Entries.{spare_in}
use Rattle.acs_lint.specs.Statements.{shape_of, statements_of}
use Rattle.acs_lint.specs.Uses.{names_in, operands_in, quoted_in, unused_in}
use Rattle.acs_lint.specs.Whens.{covered_in}
use Rattle.acs_lint.specs.declared.finding.Finding.{Finding}

-- the findings on what a statement is made of, but for the statements inside it
abbrev pub found_in : Form-F Form Stmt When → List Finding
found_in (Form-F.Filt name name_at include exclude) = spare_in include ++ spare_in exclude
found_in (Form-F.Put target values) = []
found_in (Form-F.If cond first otherwise) = []
found_in (Form-F.Pick subject whens otherwise) = covered_in subject whens
found_in (Form-F.Do block) = behind_in block
found_in (Form-F.Write parts) = []
found_in (Form-F.Exit code) = []

-- the findings on a statement, but for those inside it
abbrev pub found_at : Stmt → List Finding
found_at statement = found_in (shape_of statement.form)

-- the findings on statements in which these operands are compared
abbrev pub compared_with : List Operand → List Stmt → List Finding
compared_with operands statements = quoted_in operands ++ unused_in (names_in operands) statements

-- the findings on what is compared in statements
abbrev pub compared_in : List Stmt → List Finding
compared_in statements = compared_with (operands_in statements) statements

-- the findings on a routine: statements that are never begun, WHENs that are never taken and entries that others
-- cover, then texts between quotes with wildcards, then filter lists that nothing uses
abbrev pub findings_of : Routine → List Finding
findings_of routine =
    behind_in routine.body ++ (flat_map found_at (statements_of routine) ++ compared_in (statements_of routine))
