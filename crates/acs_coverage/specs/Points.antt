-- The points of a routine: where something may happen in it (docs/manual/tool.md, "Coverage of a script").
use Rattle.std.specs.Prelude.{ℕ, Bool, true, false, List, [], ◌∷◌, ◌++◌, flat_map, map, Option, Some, None}
use Rattle.acs_tree.specs.declared.routine.Compare.TheVariants.{Eq}
use Rattle.acs_tree.specs.declared.routine.Cond.{Cond, fold-Cond}
use Rattle.acs_tree.specs.declared.routine.Cond.TheOpen.{Cond-F}
use Rattle.acs_tree.specs.declared.routine.Form.TheOpen.{Form-F, Stmt-F, When-F}
use Rattle.acs_tree.specs.declared.routine.Operand.{Operand}
use Rattle.acs_tree.specs.declared.routine.Ref.{Ref}
use Rattle.acs_tree.specs.declared.routine.Routine.{Routine}
use Rattle.acs_tree.specs.declared.routine.Stmt.{Stmt, fold-Stmt}
use Rattle.acs_tree.specs.declared.routine.WhenTest.{WhenTest}
use Rattle.acs_tree.specs.declared.routine.WhenTest.TheVariants.{Any, Holds}
use Rattle.acs_coverage.specs.declared.class.Class.{Class}
use Rattle.acs_coverage.specs.declared.class.Class.TheVariants as classes
use Rattle.acs_coverage.specs.declared.point.Point.{Point}
use Rattle.acs_coverage.specs.declared.point.Point.TheVariants.{Statement, When, Comparison}

-- the token that a point stands at: of a comparison that of its right side
abbrev pub place_of : Point → ℕ
place_of (Statement at) = at
place_of (When at) = at
place_of (Comparison left op right) = right

-- the point is of this class
abbrev pub is_of : Class → Point → Bool
is_of classes.Statement (Statement at) = true
is_of classes.When (When at) = true
is_of classes.Comparison (Comparison left op right) = true
is_of _ _ = false

-- the comparisons of a condition, from those of the conditions in it
abbrev pub cond_step : Cond-F (List Point) → List Point
cond_step (Cond-F.And one two) = one ++ two
cond_step (Cond-F.Or one two) = one ++ two
cond_step (Cond-F.Test left op op_at right) = Comparison left.at op right.at ∷ []

-- the comparisons of a condition
abbrev pub comparisons_of : Cond → List Point
comparisons_of = fold-Cond (List Point) cond_step

-- the variable of a SELECT is compared with an item of a WHEN
abbrev pub compared_with : Ref → Operand → Point
compared_with subject item = Comparison subject.at Eq item.at

-- the items of a WHEN are compared with what its SELECT names; where it names nothing, none is
abbrev pub comparisons_with : Option Ref → List Operand → List Point
comparisons_with None items = []
comparisons_with (Some subject) items = map (compared_with subject) items

-- the comparisons that a WHEN asks for
abbrev pub points_of_test : Option Ref → WhenTest → List Point
points_of_test subject (Any items) = comparisons_with subject items
points_of_test subject (Holds cond) = comparisons_of cond

-- the points of what is done otherwise, if anything is
abbrev pub or_none : Option (List Point) → List Point
or_none None = []
or_none (Some points) = points

-- the points of what a statement is, from those of the statements in it
abbrev pub form_step : Form-F (List Point) (List Point) (Option Ref → List Point) → List Point
form_step (Form-F.Filt name name_at include exclude) = []
form_step (Form-F.Put target operands) = []
form_step (Form-F.If cond first otherwise) = comparisons_of cond ++ (first ++ or_none otherwise)
form_step (Form-F.Pick subject whens otherwise) = flat_map (λ arm. arm subject) whens ++ or_none otherwise
form_step (Form-F.Do block) = flat_map (λ points. points) block
form_step (Form-F.Write parts) = []
form_step (Form-F.Exit code) = []

-- the points of a statement: the statement itself, and those of what it is
abbrev pub stmt_step : Stmt-F (List Point) (List Point) (Option Ref → List Point) → List Point
stmt_step statement = Statement statement.at ∷ statement.form

-- the points of a WHEN: itself, what it asks, and its statement; they depend on what the SELECT names
abbrev pub when_step : When-F (List Point) (List Point) (Option Ref → List Point) → Option Ref → List Point
when_step arm subject = When arm.at ∷ (points_of_test subject arm.test ++ arm.body)

-- the points of a statement, in the order of the text
abbrev pub points_in : Stmt → List Point
points_in = fold-Stmt (List Point) (List Point) (Option Ref → List Point) form_step stmt_step when_step

-- the points of a routine, in the order of the text
abbrev pub points_of : Routine → List Point
points_of routine = flat_map points_in routine.body
