-- The points of each form of statement and of condition.
use Rattle.std.proofs.Common.{◌≡◌, ℕ, List, [], ◌∷◌, ◌++◌, map, sym, ◌∙◌, ap, append_assoc}
use Rattle.std.specs.Prelude.{Option, Some, None, flat_map}
use Rattle.std.proofs.lemmas.List.Folds.{flat_map-map}
use Rattle.acs_tree.specs.declared.routine.Compare.{Compare}
use Rattle.acs_tree.specs.declared.routine.Cond.{Cond}
use Rattle.acs_tree.specs.declared.routine.Cond.TheOpen.{Cond-F}
use Rattle.acs_tree.specs.declared.routine.Cond.TheFolds.{fold-roll-Cond}
use Rattle.acs_tree.specs.declared.routine.Cond.TheVariants.{And, Or, Test, rolls-And, rolls-Or, rolls-Test}
use Rattle.acs_tree.specs.declared.routine.Form.{Form, roll-Form, map-Form}
use Rattle.acs_tree.specs.declared.routine.Form.TheOpen.{Form-F}
use Rattle.acs_tree.specs.declared.routine.Form.TheFolds.{fold-roll-Form, fold_out-Stmt}
use Rattle.acs_tree.specs.declared.routine.Form.TheVariants.{Filt, Put, If, Pick, Do, Write, Exit, rolls-Filt}
use Rattle.acs_tree.specs.declared.routine.Form.TheVariants.{rolls-Put, rolls-If, rolls-Pick, rolls-Do, rolls-Write}
use Rattle.acs_tree.specs.declared.routine.Form.TheVariants.{rolls-Exit}
use Rattle.acs_tree.specs.declared.routine.Operand.{Operand}
use Rattle.acs_tree.specs.declared.routine.Ref.{Ref}
use Rattle.acs_tree.specs.declared.routine.Stmt.{Stmt}
use Rattle.acs_tree.specs.declared.routine.When.{When}
use Rattle.acs_coverage.specs.Inner.Parts.{points_of_form, points_of_other, points_of_when}
use Rattle.acs_coverage.specs.Points.{comparisons_of, cond_step, form_step, points_in, stmt_step}
use Rattle.acs_coverage.specs.Points.{when_step}
use Rattle.acs_coverage.specs.declared.point.Point.{Point}
use Rattle.acs_coverage.specs.declared.point.Point.TheVariants as points

pub cond_and : (one two : Cond) → comparisons_of (And one two) ≡ comparisons_of one ++ comparisons_of two
cond_and one two = ap comparisons_of (sym (rolls-And one two)) ∙ fold-roll-Cond (List Point) cond_step (Cond-F.And one two)

pub cond_or : (one two : Cond) → comparisons_of (Or one two) ≡ comparisons_of one ++ comparisons_of two
cond_or one two = ap comparisons_of (sym (rolls-Or one two)) ∙ fold-roll-Cond (List Point) cond_step (Cond-F.Or one two)

pub cond_test : (left : Ref) (op : Compare) (at : ℕ) (right : Operand) → comparisons_of (Test left op at right) ≡ points.Comparison left.at op right.at ∷ []
cond_test left op at right = ap comparisons_of (sym (rolls-Test left op at right)) ∙ fold-roll-Cond (List Point) cond_step (Cond-F.Test left op at right)

pub of_form : (s : Stmt) → points_in s ≡ points.Statement s.at ∷ points_of_form s.form
of_form s = fold_out-Stmt (List Point) (List Point) (Option Ref → List Point) form_step stmt_step when_step s

-- a layer of a form, put together
layer : (form : Form) (parts : Form-F Form Stmt When) → roll-Form parts ≡ form → points_of_form form ≡ form_step (map-Form Form Stmt When (List Point) (List Point) (Option Ref → List Point) points_of_form points_in points_of_when parts)
layer form parts e = ap points_of_form (sym e) ∙ fold-roll-Form (List Point) (List Point) (Option Ref → List Point) form_step stmt_step when_step parts

pub form_filt : (name : List ℕ) (at : ℕ) (include exclude : List Operand) → points_of_form (Filt name at include exclude) ≡ []
form_filt name at include exclude = layer (Filt name at include exclude) (Form-F.Filt name at include exclude) (rolls-Filt name at include exclude)

pub form_put : (target : Ref) (values : List Operand) → points_of_form (Put target values) ≡ []
form_put target values = layer (Put target values) (Form-F.Put target values) (rolls-Put target values)

pub form_if : (cond : Cond) (first : Stmt) (other : Option Stmt) → points_of_form (If cond first other) ≡ comparisons_of cond ++ (points_in first ++ points_of_other other)
form_if cond first None = layer (If cond first None) (Form-F.If cond first None) (rolls-If cond first None)
form_if cond first (Some other) = layer (If cond first (Some other)) (Form-F.If cond first (Some other)) (rolls-If cond first (Some other))

same_whens : (subject : Option Ref) (whens : List When) → flat_map (λ arm. arm subject) (map points_of_when whens) ≡ flat_map (λ arm. points_of_when arm subject) whens
same_whens subject whens = flat_map-map (λ arm. arm subject) points_of_when whens

pub form_pick : (subject : Option Ref) (whens : List When) (other : Option Stmt) → points_of_form (Pick subject whens other) ≡ flat_map (λ arm. points_of_when arm subject) whens ++ points_of_other other
form_pick subject whens None = layer (Pick subject whens None) (Form-F.Pick subject whens None) (rolls-Pick subject whens None) ∙ ap (λ (z : List Point). z ++ []) (same_whens subject whens)
form_pick subject whens (Some other) = layer (Pick subject whens (Some other)) (Form-F.Pick subject whens (Some other)) (rolls-Pick subject whens (Some other)) ∙ ap (λ (z : List Point). z ++ points_in other) (same_whens subject whens)

pub form_do : (body : List Stmt) → points_of_form (Do body) ≡ flat_map points_in body
form_do body = layer (Do body) (Form-F.Do body) (rolls-Do body) ∙ flat_map-map (λ (ps : List Point). ps) points_in body

pub form_write : (parts : List Operand) → points_of_form (Write parts) ≡ []
form_write parts = layer (Write parts) (Form-F.Write parts) (rolls-Write parts)

pub form_exit : (code : Option Operand) → points_of_form (Exit code) ≡ []
form_exit code = layer (Exit code) (Form-F.Exit code) (rolls-Exit code)

pub ruleset cond_steps = (cond_and, cond_or, cond_test, append_assoc)

pub ruleset form_steps = (of_form, form_filt, form_put, form_if, form_pick, form_do, form_write, form_exit, append_assoc)

-- the calls of the walk for a SELECT, one after another
pub pick_points : (s : Stmt) (subject : Option Ref) (whens : List When) (other : Option Stmt) {ws : List When} (p0 : List Point) {p1 p2 p3 : List Point} → s.form ≡ Pick subject whens other → ws ≡ whens
    → p1 ≡ p0 ++ points.Statement s.at ∷ [] → p2 ≡ p1 ++ flat_map (λ arm. points_of_when arm subject) ws → p3 ≡ p2 ++ points_of_other other → p3 ≡ p0 ++ points_in s
pick_points s subject whens other {ws} p0 {p1} {p2} {p3} ef ew e1 e2 e3 =
    e3 ∙ ap (λ (z : List Point). z ++ points_of_other other)
    (e2 ∙ ap (λ (x : List When). p1 ++ flat_map (λ arm. points_of_when arm subject) x) ew ∙ ap (λ (z : List Point). z ++ flat_map (λ arm. points_of_when arm subject) whens) e1)
    ∙ three p0 (points.Statement s.at) (flat_map (λ arm. points_of_when arm subject) whens) (points_of_other other)
    ∙ ap (λ (z : List Point). p0 ++ points.Statement s.at ∷ z) (sym (form_pick subject whens other))
    ∙ ap (λ (f : Form). p0 ++ points.Statement s.at ∷ points_of_form f) (sym ef) ∙ ap (λ (z : List Point). p0 ++ z) (sym (of_form s))
  where
    three : (before : List Point) (p : Point) (one two : List Point) → ((before ++ p ∷ []) ++ one) ++ two ≡ before ++ p ∷ (one ++ two)
    three before p one two = simp append_assoc
