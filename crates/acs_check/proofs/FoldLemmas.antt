-- The nodes of each form of statement.
use Rattle.std.proofs.Common.{◌≡◌, ℕ, List, [], ◌∷◌, ◌++◌, map, refl, sym, ◌∙◌, ap}
use Rattle.std.specs.Prelude.{Option, Some, None}
use Rattle.acs_tree.specs.declared.routine.Stmt.{Stmt}
use Rattle.acs_tree.specs.declared.routine.Cond.{Cond}
use Rattle.acs_tree.specs.declared.routine.Cond.TheOpen.{Cond-F}
use Rattle.acs_tree.specs.declared.routine.Cond.TheFolds.{fold-roll-Cond}
use Rattle.acs_tree.specs.declared.routine.Cond.TheVariants.{And, Or, Test, rolls-And, rolls-Or, rolls-Test}
use Rattle.acs_tree.specs.declared.routine.Compare.{Compare}
use Rattle.acs_tree.specs.declared.routine.Form.{Form, roll-Form, map-Form}
use Rattle.acs_tree.specs.declared.routine.Form.TheOpen.{Form-F}
use Rattle.acs_tree.specs.declared.routine.Form.TheFolds.{fold-roll-Form, fold_out-Stmt, fold_out-When}
use Rattle.acs_tree.specs.declared.routine.Form.TheVariants.{Filt, Put, If, Pick, Do, Write, Exit, rolls-Filt}
use Rattle.acs_tree.specs.declared.routine.Form.TheVariants.{rolls-Put, rolls-If, rolls-Pick, rolls-Do, rolls-Write}
use Rattle.acs_tree.specs.declared.routine.Form.TheVariants.{rolls-Exit}
use Rattle.acs_tree.specs.declared.routine.Operand.{Operand}
use Rattle.acs_tree.specs.declared.routine.Ref.{Ref}
use Rattle.acs_tree.specs.declared.routine.When.{When, out-When}
use Rattle.acs_check.specs.Inner.Parts.{nodes_of_form, nodes_of_when, nodes_of_whens, nodes_of_block, nodes_of_optional}
use Rattle.acs_tree.specs.Nodes.{Node, ListName, Target, Part, entries_behind, values_behind, nodes_of_test}
use Rattle.acs_tree.specs.Nodes.{nodes_of_code, Left, Order, Right, nodes_of, nodes_of_cond, cond_step, form_step}
use Rattle.acs_tree.specs.Nodes.{stmt_step, when_step, nodes_of_subject, joined, whens_of}

pub cond_and : (one two : Cond) → nodes_of_cond (And one two) ≡ nodes_of_cond one ++ nodes_of_cond two
cond_and one two = ap nodes_of_cond (sym (rolls-And one two)) ∙ fold-roll-Cond (List Node) cond_step (Cond-F.And one two)

pub cond_or : (one two : Cond) → nodes_of_cond (Or one two) ≡ nodes_of_cond one ++ nodes_of_cond two
cond_or one two = ap nodes_of_cond (sym (rolls-Or one two)) ∙ fold-roll-Cond (List Node) cond_step (Cond-F.Or one two)

pub cond_test : (left : Ref) (op : Compare) (at : ℕ) (right : Operand) → nodes_of_cond (Test left op at right) ≡ Left left ∷ Order left op at ∷ Right (Some left) right ∷ []
cond_test left op at right = ap nodes_of_cond (sym (rolls-Test left op at right)) ∙ fold-roll-Cond (List Node) cond_step (Cond-F.Test left op at right)

pub of_form : (s : Stmt) → nodes_of s ≡ nodes_of_form s.form
of_form s = fold_out-Stmt (List Node) (List Node) (Option Ref → List Node) form_step stmt_step when_step s

-- a layer of a form, put together
layer : (form : Form) (parts : Form-F Form Stmt When) → roll-Form parts ≡ form → nodes_of_form form ≡ form_step (map-Form Form Stmt When (List Node) (List Node) (Option Ref → List Node) nodes_of_form nodes_of nodes_of_when parts)
layer form parts e = ap nodes_of_form (sym e) ∙ fold-roll-Form (List Node) (List Node) (Option Ref → List Node) form_step stmt_step when_step parts

pub form_filt : (name : List ℕ) (at : ℕ) (include exclude : List Operand) → nodes_of_form (Filt name at include exclude) ≡ ListName name at ∷ (entries_behind 0 include ++ entries_behind 0 exclude)
form_filt name at include exclude = layer (Filt name at include exclude) (Form-F.Filt name at include exclude) (rolls-Filt name at include exclude)

pub form_put : (target : Ref) (values : List Operand) → nodes_of_form (Put target values) ≡ Target target ∷ values_behind target [] values
form_put target values = layer (Put target values) (Form-F.Put target values) (rolls-Put target values)

pub form_if : (cond : Cond) (first : Stmt) (other : Option Stmt) → nodes_of_form (If cond first other) ≡ nodes_of_cond cond ++ (nodes_of first ++ nodes_of_optional other)
form_if cond first None = layer (If cond first None) (Form-F.If cond first None) (rolls-If cond first None)
form_if cond first (Some other) = layer (If cond first (Some other)) (Form-F.If cond first (Some other)) (rolls-If cond first (Some other))

same_branches : (subject : Option Ref) (whens : List When) → whens_of subject (map nodes_of_when whens) ≡ nodes_of_whens subject whens
same_branches subject [] = refl
same_branches subject (when ∷ whens) = ap (λ z. nodes_of_when when subject ++ z) (same_branches subject whens)

pub form_pick : (subject : Option Ref) (whens : List When) (other : Option Stmt)
    → nodes_of_form (Pick subject whens other) ≡ nodes_of_subject subject ++ (nodes_of_whens subject whens ++ nodes_of_optional other)
form_pick subject whens None = layer (Pick subject whens None) (Form-F.Pick subject whens None) (rolls-Pick subject whens None) ∙ ap (λ z. nodes_of_subject subject ++ (z ++ [])) (same_branches subject whens)
form_pick subject whens (Some other) = layer (Pick subject whens (Some other)) (Form-F.Pick subject whens (Some other)) (rolls-Pick subject whens (Some other)) ∙ ap (λ z. nodes_of_subject subject ++ (z ++ nodes_of other)) (same_branches subject whens)

same_block : (body : List Stmt) → joined (map nodes_of body) ≡ nodes_of_block body
same_block [] = refl
same_block (s ∷ body) = ap (λ z. nodes_of s ++ z) (same_block body)

pub form_do : (body : List Stmt) → nodes_of_form (Do body) ≡ nodes_of_block body
form_do body = layer (Do body) (Form-F.Do body) (rolls-Do body) ∙ same_block body

pub form_write : (parts : List Operand) → nodes_of_form (Write parts) ≡ map Part parts
form_write parts = layer (Write parts) (Form-F.Write parts) (rolls-Write parts)

pub form_exit : (code : Option Operand) → nodes_of_form (Exit code) ≡ nodes_of_code code
form_exit code = layer (Exit code) (Form-F.Exit code) (rolls-Exit code)

pub of_branch : (when : When) (subject : Option Ref) → nodes_of_when when subject ≡ nodes_of_test (out-When when).test subject ++ nodes_of (out-When when).body
of_branch when subject = ap (λ f. f subject) (fold_out-When (List Node) (List Node) (Option Ref → List Node) form_step stmt_step when_step when)
