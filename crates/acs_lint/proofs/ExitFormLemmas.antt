-- Whether each form of statement always exits.
use Rattle.std.proofs.Common.{◌≡◌, ◌&&◌, ◌||◌, ℕ, Bool, true, false, List, [], ◌∷◌, map, refl, sym, ◌∙◌, ap}
use Rattle.std.specs.Prelude.{Option, Some, None}
use Rattle.std.specs.List.{list_all, list_any}
use Rattle.acs_trace.specs.Lint.{always_exits, exits_form, exits_stmt, exits_when}
use Rattle.acs_tree.specs.declared.routine.Cond.{Cond}
use Rattle.acs_tree.specs.declared.routine.Form.{Form, roll-Form, map-Form}
use Rattle.acs_tree.specs.declared.routine.Form.TheOpen.{Form-F}
use Rattle.acs_tree.specs.declared.routine.Form.TheFolds.{fold-roll-Form, fold_out-Stmt, fold_out-When}
use Rattle.acs_tree.specs.declared.routine.Form.TheVariants.{Filt, Put, If, Pick, Do, Write, Exit, rolls-Filt}
use Rattle.acs_tree.specs.declared.routine.Form.TheVariants.{rolls-Put, rolls-If, rolls-Pick, rolls-Do, rolls-Write}
use Rattle.acs_tree.specs.declared.routine.Form.TheVariants.{rolls-Exit}
use Rattle.acs_tree.specs.declared.routine.Operand.{Operand}
use Rattle.acs_tree.specs.declared.routine.Ref.{Ref}
use Rattle.acs_tree.specs.declared.routine.Stmt.{Stmt}
use Rattle.acs_tree.specs.declared.routine.When.{When, out-When}
use Rattle.acs_lint.specs.Inner.Exits.{form_exits, other_exits, when_exits}

pub of_stmt : (s : Stmt) → always_exits s ≡ form_exits s.form
of_stmt s = fold_out-Stmt Bool Bool Bool exits_form exits_stmt exits_when s

layer : (form : Form) (parts : Form-F Form Stmt When) → roll-Form parts ≡ form → form_exits form ≡ exits_form (map-Form Form Stmt When Bool Bool Bool form_exits always_exits when_exits parts)
layer form parts e = ap form_exits (sym e) ∙ fold-roll-Form Bool Bool Bool exits_form exits_stmt exits_when parts

any_of : (block : List Stmt) → list_any (λ (exits : Bool). exits) (map always_exits block) ≡ list_any always_exits block
any_of [] = refl
any_of (s ∷ block) = ap (λ (b : Bool). always_exits s || b) (any_of block)

all_of : (whens : List When) → list_all (λ (exits : Bool). exits) (map when_exits whens) ≡ list_all when_exits whens
all_of [] = refl
all_of (arm ∷ whens) = ap (λ (b : Bool). when_exits arm && b) (all_of whens)

pub form_filt : (name : List ℕ) (at : ℕ) (include exclude : List Operand) → form_exits (Filt name at include exclude) ≡ false
form_filt name at include exclude = layer (Filt name at include exclude) (Form-F.Filt name at include exclude) (rolls-Filt name at include exclude)

pub form_put : (target : Ref) (values : List Operand) → form_exits (Put target values) ≡ false
form_put target values = layer (Put target values) (Form-F.Put target values) (rolls-Put target values)

pub form_if : (cond : Cond) (first : Stmt) (other : Option Stmt) → form_exits (If cond first other) ≡ always_exits first && other_exits other
form_if cond first None = layer (If cond first None) (Form-F.If cond first None) (rolls-If cond first None)
form_if cond first (Some other) = layer (If cond first (Some other)) (Form-F.If cond first (Some other)) (rolls-If cond first (Some other))

pub form_pick : (subject : Option Ref) (whens : List When) (other : Option Stmt) → form_exits (Pick subject whens other) ≡ list_all when_exits whens && other_exits other
form_pick subject whens None = layer (Pick subject whens None) (Form-F.Pick subject whens None) (rolls-Pick subject whens None) ∙ ap (λ (b : Bool). b && false) (all_of whens)
form_pick subject whens (Some other) = layer (Pick subject whens (Some other)) (Form-F.Pick subject whens (Some other)) (rolls-Pick subject whens (Some other)) ∙ ap (λ (b : Bool). b && always_exits other) (all_of whens)

pub form_do : (block : List Stmt) → form_exits (Do block) ≡ list_any always_exits block
form_do block = layer (Do block) (Form-F.Do block) (rolls-Do block) ∙ any_of block

pub form_write : (parts : List Operand) → form_exits (Write parts) ≡ false
form_write parts = layer (Write parts) (Form-F.Write parts) (rolls-Write parts)

pub form_exit : (code : Option Operand) → form_exits (Exit code) ≡ true
form_exit code = layer (Exit code) (Form-F.Exit code) (rolls-Exit code)

pub of_when : (arm : When) → when_exits arm ≡ always_exits (out-When arm).body
of_when arm = fold_out-When Bool Bool Bool exits_form exits_stmt exits_when arm

pub ruleset exit_steps = (of_stmt, form_filt, form_put, form_if, form_pick, form_do, form_write, form_exit, of_when)
