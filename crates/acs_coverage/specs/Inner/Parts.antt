-- The points of the parts of a statement.
use Rattle.std.specs.Prelude.{List, [], Option, Some, None}
use Rattle.acs_tree.specs.declared.routine.Form.{Form, fold-Form}
use Rattle.acs_tree.specs.declared.routine.Ref.{Ref}
use Rattle.acs_tree.specs.declared.routine.Stmt.{Stmt}
use Rattle.acs_tree.specs.declared.routine.When.{When, fold-When}
use Rattle.acs_coverage.specs.Points.{form_step, points_in, stmt_step, when_step}
use Rattle.acs_coverage.specs.declared.point.Point.{Point}

-- the points of what a statement is
abbrev pub points_of_form : Form → List Point
points_of_form = fold-Form (List Point) (List Point) (Option Ref → List Point) form_step stmt_step when_step

-- the points of a WHEN of a SELECT that names this
abbrev pub points_of_when : When → Option Ref → List Point
points_of_when = fold-When (List Point) (List Point) (Option Ref → List Point) form_step stmt_step when_step

-- the points of a statement that may be missing
abbrev pub points_of_other : Option Stmt → List Point
points_of_other None = []
points_of_other (Some statement) = points_in statement
