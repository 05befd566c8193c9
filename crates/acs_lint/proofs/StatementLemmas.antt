-- The statements in each form of statement, and that the parts of a tree are the tree's.
use Rattle.std.proofs.Common.{◌≡◌, ℕ, List, [], ◌∷◌, ◌++◌, map, refl, sym, ◌∙◌, ap, subst, append_assoc}
use Rattle.std.specs.Prelude.{Option, Some, None, flat_map}
use Rattle.std.proofs.lemmas.List.Folds.{flat_map-map}
use Rattle.acs_tree.specs.declared.routine.Cond.{Cond}
use Rattle.acs_tree.specs.declared.routine.Form.{Form, roll-Form, map-Form}
use Rattle.acs_tree.specs.declared.routine.Form.TheOpen.{Form-F, Stmt-F, When-F}
use Rattle.acs_tree.specs.declared.routine.Form.TheFolds.{ind-Form, ind-Stmt, ind-When, fold-roll-Form, fold-roll-Stmt, fold-roll-When}
use Rattle.acs_tree.specs.declared.routine.Form.TheFolds.{fold_out-Stmt, fold_out-When}
use Rattle.acs_tree.specs.declared.routine.Form.TheVariants.{Filt, Put, If, Pick, Do, Write, Exit, rolls-Filt}
use Rattle.acs_tree.specs.declared.routine.Form.TheVariants.{rolls-Put, rolls-If, rolls-Pick, rolls-Do, rolls-Write}
use Rattle.acs_tree.specs.declared.routine.Form.TheVariants.{rolls-Exit}
use Rattle.acs_tree.specs.declared.routine.Operand.{Operand}
use Rattle.acs_tree.specs.declared.routine.Ref.{Ref}
use Rattle.acs_tree.specs.declared.routine.Stmt.{Stmt, roll-Stmt, map-Stmt}
use Rattle.acs_tree.specs.declared.routine.When.{When, out-When, roll-When, map-When}
use Rattle.acs_lint.specs.Statements.{FormParts, StmtParts, WhenParts, form_parts, form_step, inside_step, shape_of, shape_step}
use Rattle.acs_lint.specs.Statements.{statements_in, stmt_parts, stmt_step, when_step}
use Rattle.acs_lint.specs.Inner.Parts.{inside_form, inside_when, statements_in_other, when_parts}

-- the parts of a tree are the tree's

abbrev SameForm : Form → Type 0
SameForm form = (form_parts form).self ≡ form

abbrev SameStmt : Stmt → Type 0
SameStmt s = (stmt_parts s).self ≡ s

abbrev SameWhen : When → Type 0
SameWhen arm = (when_parts arm).self ≡ arm

-- the parts of a form that is made of these
abbrev parts_from : Form-F Form Stmt When → Form-F FormParts StmtParts WhenParts
parts_from parts = map-Form Form Stmt When FormParts StmtParts WhenParts form_parts stmt_parts when_parts parts

block_same : (ss : List ((s : Stmt) × SameStmt s)) → map (λ (p : StmtParts). p.self) (map stmt_parts (map (λ e. e.0) ss)) ≡ map (λ e. e.0) ss
block_same [] = refl
block_same (s ∷ ss) = ap (λ (x : Stmt). x ∷ map (λ (p : StmtParts). p.self) (map stmt_parts (map (λ e. e.0) ss))) s.1 ∙ ap (λ (xs : List Stmt). s.0 ∷ xs) (block_same ss)

whens_same : (ws : List ((w : When) × SameWhen w)) → map (λ (p : WhenParts). p.self) (map when_parts (map (λ e. e.0) ws)) ≡ map (λ e. e.0) ws
whens_same [] = refl
whens_same (w ∷ ws) = ap (λ (x : When). x ∷ map (λ (p : WhenParts). p.self) (map when_parts (map (λ e. e.0) ws))) w.1 ∙ ap (λ (xs : List When). w.0 ∷ xs) (whens_same ws)

from_rolled : (parts : Form-F Form Stmt When) → shape_step (parts_from parts) ≡ parts → SameForm (roll-Form parts)
from_rolled parts e =
    ap (λ (p : FormParts). p.self) (fold-roll-Form FormParts StmtParts WhenParts form_step stmt_step when_step parts) ∙ ap roll-Form e

form_layer : (y : Form-F ((f : Form) × SameForm f) ((s : Stmt) × SameStmt s) ((w : When) × SameWhen w)) → SameForm (roll-Form (map-Form ((f : Form) × SameForm f) ((s : Stmt) × SameStmt s) ((w : When) × SameWhen w) Form Stmt When (λ e. e.0) (λ e. e.0) (λ e. e.0) y))
form_layer (Form-F.Filt name name_at include exclude) = from_rolled (Form-F.Filt name name_at include exclude) refl
form_layer (Form-F.Put target values) = from_rolled (Form-F.Put target values) refl
form_layer (Form-F.If cond first None) = from_rolled (Form-F.If cond first.0 None) (ap (λ (s : Stmt). Form-F.If cond s None) first.1)
form_layer (Form-F.If cond first (Some other)) =
    from_rolled (Form-F.If cond first.0 (Some other.0)) (ap (λ (s : Stmt). Form-F.If cond s (Some (stmt_parts other.0).self)) first.1 ∙ ap (λ (s : Stmt). Form-F.If cond first.0 (Some s)) other.1)
form_layer (Form-F.Pick subject whens None) =
    from_rolled (Form-F.Pick subject (map (λ e. e.0) whens) None) (ap (λ (ws : List When). Form-F.Pick subject ws None) (whens_same whens))
form_layer (Form-F.Pick subject whens (Some other)) =
    from_rolled (Form-F.Pick subject (map (λ e. e.0) whens) (Some other.0))
    (ap (λ (ws : List When). Form-F.Pick subject ws (Some (stmt_parts other.0).self)) (whens_same whens) ∙ ap (λ (s : Stmt). Form-F.Pick subject (map (λ e. e.0) whens) (Some s)) other.1)
form_layer (Form-F.Do block) = from_rolled (Form-F.Do (map (λ e. e.0) block)) (ap (λ (ss : List Stmt). Form-F.Do ss) (block_same block))
form_layer (Form-F.Write parts) = from_rolled (Form-F.Write parts) refl
form_layer (Form-F.Exit code) = from_rolled (Form-F.Exit code) refl

stmt_layer : (y : Stmt-F ((f : Form) × SameForm f) ((s : Stmt) × SameStmt s) ((w : When) × SameWhen w)) → SameStmt (roll-Stmt (map-Stmt ((f : Form) × SameForm f) ((s : Stmt) × SameStmt s) ((w : When) × SameWhen w) Form Stmt When (λ e. e.0) (λ e. e.0) (λ e. e.0) y))
stmt_layer y =
    let parts = map-Stmt ((f : Form) × SameForm f) ((s : Stmt) × SameStmt s) ((w : When) × SameWhen w) Form Stmt When (λ e. e.0) (λ e. e.0) (λ e. e.0) y in
    ap (λ (p : StmtParts). p.self) (fold-roll-Stmt FormParts StmtParts WhenParts form_step stmt_step when_step parts)
    ∙ ap (λ (f : Form). roll-Stmt (record { at = y.at; form = f })) y.form.1

when_layer : (y : When-F ((f : Form) × SameForm f) ((s : Stmt) × SameStmt s) ((w : When) × SameWhen w)) → SameWhen (roll-When (map-When ((f : Form) × SameForm f) ((s : Stmt) × SameStmt s) ((w : When) × SameWhen w) Form Stmt When (λ e. e.0) (λ e. e.0) (λ e. e.0) y))
when_layer y =
    let parts = map-When ((f : Form) × SameForm f) ((s : Stmt) × SameStmt s) ((w : When) × SameWhen w) Form Stmt When (λ e. e.0) (λ e. e.0) (λ e. e.0) y in
    ap (λ (p : WhenParts). p.self) (fold-roll-When FormParts StmtParts WhenParts form_step stmt_step when_step parts)
    ∙ ap (λ (s : Stmt). roll-When (record { at = y.at; test = y.test; body = s })) y.body.1

pub stmt_same : (s : Stmt) → SameStmt s
stmt_same = ind-Stmt SameForm SameStmt SameWhen
    (λ x y is. subst (λ z. SameForm (roll-Form z)) is (form_layer y))
    (λ x y is. subst (λ z. SameStmt (roll-Stmt z)) is (stmt_layer y))
    (λ x y is. subst (λ z. SameWhen (roll-When z)) is (when_layer y))

pub when_same : (arm : When) → SameWhen arm
when_same = ind-When SameForm SameStmt SameWhen
    (λ x y is. subst (λ z. SameForm (roll-Form z)) is (form_layer y))
    (λ x y is. subst (λ z. SameStmt (roll-Stmt z)) is (stmt_layer y))
    (λ x y is. subst (λ z. SameWhen (roll-When z)) is (when_layer y))

form_same : (form : Form) → SameForm form
form_same = ind-Form SameForm SameStmt SameWhen
    (λ x y is. subst (λ z. SameForm (roll-Form z)) is (form_layer y))
    (λ x y is. subst (λ z. SameStmt (roll-Stmt z)) is (stmt_layer y))
    (λ x y is. subst (λ z. SameWhen (roll-When z)) is (when_layer y))

-- a form is made of its parts
abbrev RolledForm : Form → Type 0
RolledForm form = (form_parts form).self ≡ roll-Form (shape_of form)

rolled_parts : (parts : Form-F Form Stmt When) → RolledForm (roll-Form parts)
rolled_parts parts =
    let e = fold-roll-Form FormParts StmtParts WhenParts form_step stmt_step when_step parts in
    ap (λ (p : FormParts). p.self) e ∙ sym (ap (λ (p : FormParts). roll-Form p.shape) e)

rolled_form : (form : Form) → RolledForm form
rolled_form = ind-Form RolledForm (λ (s : Stmt). s ≡ s) (λ (arm : When). arm ≡ arm)
    (λ x y is. subst (λ z. RolledForm (roll-Form z)) is (rolled_parts _))
    (λ x y is. refl)
    (λ x y is. refl)

pub rolls : (form : Form) → roll-Form (shape_of form) ≡ form
rolls form = sym (rolled_form form) ∙ form_same form

-- what each form is made of, and the statements in it

all_same : (block : List Stmt) → map (λ (p : StmtParts). p.self) (map stmt_parts block) ≡ block
all_same [] = refl
all_same (s ∷ block) = ap (λ (x : Stmt). x ∷ map (λ (p : StmtParts). p.self) (map stmt_parts block)) (stmt_same s) ∙ ap (λ (xs : List Stmt). s ∷ xs) (all_same block)

-- a layer of a form, put together
layer : (form : Form) (parts : Form-F Form Stmt When) → roll-Form parts ≡ form → form_parts form ≡ form_step (parts_from parts)
layer form parts e = ap form_parts (sym e) ∙ fold-roll-Form FormParts StmtParts WhenParts form_step stmt_step when_step parts

inside_layer : (form : Form) (parts : Form-F Form Stmt When) → roll-Form parts ≡ form → inside_form form ≡ inside_step (parts_from parts)
inside_layer form parts e = ap (λ (p : FormParts). p.inside) (layer form parts e)

pub of_stmt : (s : Stmt) → statements_in s ≡ s ∷ inside_form s.form
of_stmt s =
    ap (λ (p : StmtParts). p.all) (fold_out-Stmt FormParts StmtParts WhenParts form_step stmt_step when_step s)
    ∙ ap (λ (x : Stmt). x ∷ inside_form s.form) (sym (ap (λ (p : StmtParts). p.self) (fold_out-Stmt FormParts StmtParts WhenParts form_step stmt_step when_step s)) ∙ stmt_same s)

pub form_filt : (name : List ℕ) (at : ℕ) (include exclude : List Operand) → inside_form (Filt name at include exclude) ≡ []
form_filt name at include exclude = inside_layer (Filt name at include exclude) (Form-F.Filt name at include exclude) (rolls-Filt name at include exclude)

pub form_put : (target : Ref) (values : List Operand) → inside_form (Put target values) ≡ []
form_put target values = inside_layer (Put target values) (Form-F.Put target values) (rolls-Put target values)

pub form_if : (cond : Cond) (first : Stmt) (other : Option Stmt) → inside_form (If cond first other) ≡ statements_in first ++ statements_in_other other
form_if cond first None = inside_layer (If cond first None) (Form-F.If cond first None) (rolls-If cond first None)
form_if cond first (Some other) = inside_layer (If cond first (Some other)) (Form-F.If cond first (Some other)) (rolls-If cond first (Some other))

pub form_pick : (subject : Option Ref) (whens : List When) (other : Option Stmt) → inside_form (Pick subject whens other) ≡ flat_map inside_when whens ++ statements_in_other other
form_pick subject whens None =
    inside_layer (Pick subject whens None) (Form-F.Pick subject whens None) (rolls-Pick subject whens None) ∙ ap (λ (z : List Stmt). z ++ []) (flat_map-map (λ (p : WhenParts). p.inside) when_parts whens)
form_pick subject whens (Some other) =
    inside_layer (Pick subject whens (Some other)) (Form-F.Pick subject whens (Some other)) (rolls-Pick subject whens (Some other))
    ∙ ap (λ (z : List Stmt). z ++ statements_in other) (flat_map-map (λ (p : WhenParts). p.inside) when_parts whens)

pub form_do : (block : List Stmt) → inside_form (Do block) ≡ flat_map statements_in block
form_do block = inside_layer (Do block) (Form-F.Do block) (rolls-Do block) ∙ flat_map-map (λ (p : StmtParts). p.all) stmt_parts block

pub form_write : (parts : List Operand) → inside_form (Write parts) ≡ []
form_write parts = inside_layer (Write parts) (Form-F.Write parts) (rolls-Write parts)

pub form_exit : (code : Option Operand) → inside_form (Exit code) ≡ []
form_exit code = inside_layer (Exit code) (Form-F.Exit code) (rolls-Exit code)

pub ruleset form_steps = (of_stmt, form_filt, form_put, form_if, form_pick, form_do, form_write, form_exit, append_assoc)

-- the calls of the walk for a SELECT, one after another
pub pick_statements : (s : Stmt) (subject : Option Ref) (whens : List When) (other : Option Stmt) {ws : List When} (p0 : List Stmt) {p1 p2 p3 : List Stmt} → s.form ≡ Pick subject whens other → ws ≡ whens
    → p1 ≡ p0 ++ s ∷ [] → p2 ≡ p1 ++ flat_map inside_when ws → p3 ≡ p2 ++ statements_in_other other → p3 ≡ p0 ++ statements_in s
pick_statements s subject whens other {ws} p0 {p1} {p2} {p3} ef ew e1 e2 e3 =
    e3 ∙ ap (λ (z : List Stmt). z ++ statements_in_other other)
    (e2 ∙ ap (λ (x : List When). p1 ++ flat_map inside_when x) ew ∙ ap (λ (z : List Stmt). z ++ flat_map inside_when whens) e1)
    ∙ three p0 s (flat_map inside_when whens) (statements_in_other other)
    ∙ ap (λ (z : List Stmt). p0 ++ s ∷ z) (sym (form_pick subject whens other))
    ∙ ap (λ (f : Form). p0 ++ s ∷ inside_form f) (sym ef) ∙ ap (λ (z : List Stmt). p0 ++ z) (sym (of_stmt s))
  where
    three : (before : List Stmt) (p : Stmt) (one two : List Stmt) → ((before ++ p ∷ []) ++ one) ++ two ≡ before ++ p ∷ (one ++ two)
    three before p one two = simp append_assoc

-- what a form is made of

shape_layer : (form : Form) (parts : Form-F Form Stmt When) → roll-Form parts ≡ form → shape_of form ≡ shape_step (parts_from parts)
shape_layer form parts e = ap (λ (p : FormParts). p.shape) (layer form parts e)

arms_same : (whens : List When) → map (λ (p : WhenParts). p.self) (map when_parts whens) ≡ whens
arms_same [] = refl
arms_same (w ∷ ws) = ap (λ (x : When). x ∷ map (λ (p : WhenParts). p.self) (map when_parts ws)) (when_same w) ∙ ap (λ (xs : List When). w ∷ xs) (arms_same ws)

pub shape_filt : (name : List ℕ) (at : ℕ) (include exclude : List Operand) → shape_of (Filt name at include exclude) ≡ Form-F.Filt name at include exclude
shape_filt name at include exclude = shape_layer (Filt name at include exclude) (Form-F.Filt name at include exclude) (rolls-Filt name at include exclude)

pub shape_put : (target : Ref) (values : List Operand) → shape_of (Put target values) ≡ Form-F.Put target values
shape_put target values = shape_layer (Put target values) (Form-F.Put target values) (rolls-Put target values)

pub shape_if : (cond : Cond) (first : Stmt) (other : Option Stmt) → shape_of (If cond first other) ≡ Form-F.If cond first other
shape_if cond first None = shape_layer (If cond first None) (Form-F.If cond first None) (rolls-If cond first None) ∙ ap (λ (s : Stmt). Form-F.If cond s None) (stmt_same first)
shape_if cond first (Some other) =
    shape_layer (If cond first (Some other)) (Form-F.If cond first (Some other)) (rolls-If cond first (Some other))
    ∙ ap (λ (s : Stmt). Form-F.If cond s (Some (stmt_parts other).self)) (stmt_same first) ∙ ap (λ (s : Stmt). Form-F.If cond first (Some s)) (stmt_same other)

pub shape_pick : (subject : Option Ref) (whens : List When) (other : Option Stmt) → shape_of (Pick subject whens other) ≡ Form-F.Pick subject whens other
shape_pick subject whens None =
    shape_layer (Pick subject whens None) (Form-F.Pick subject whens None) (rolls-Pick subject whens None) ∙ ap (λ (ws : List When). Form-F.Pick subject ws None) (arms_same whens)
shape_pick subject whens (Some other) =
    shape_layer (Pick subject whens (Some other)) (Form-F.Pick subject whens (Some other)) (rolls-Pick subject whens (Some other))
    ∙ ap (λ (ws : List When). Form-F.Pick subject ws (Some (stmt_parts other).self)) (arms_same whens) ∙ ap (λ (s : Stmt). Form-F.Pick subject whens (Some s)) (stmt_same other)

pub shape_do : (block : List Stmt) → shape_of (Do block) ≡ Form-F.Do block
shape_do block = shape_layer (Do block) (Form-F.Do block) (rolls-Do block) ∙ ap (λ (ss : List Stmt). Form-F.Do ss) (all_same block)

pub shape_write : (parts : List Operand) → shape_of (Write parts) ≡ Form-F.Write parts
shape_write parts = shape_layer (Write parts) (Form-F.Write parts) (rolls-Write parts)

pub shape_exit : (code : Option Operand) → shape_of (Exit code) ≡ Form-F.Exit code
shape_exit code = shape_layer (Exit code) (Form-F.Exit code) (rolls-Exit code)

pub ruleset shapes = (shape_filt, shape_put, shape_if, shape_pick, shape_do, shape_write, shape_exit)
