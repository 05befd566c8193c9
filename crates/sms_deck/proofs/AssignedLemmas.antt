-- The names in each form of statement.
use Rattle.std.proofs.Common.{◌≡◌, ◌<◌, ◌+◌, ℕ, suc, true, false, is_some, List, [], ◌∷◌, ◌++◌, length, drop, drop-cons}
use Rattle.std.proofs.Common.{get_or, map, not, refl, sym, ◌∙◌, ap, arith}
use Rattle.std.specs.Prelude.{Option, Some, None}
use Rattle.std.specs.Option.{option_or}
use Rattle.std.proofs.lemmas.List.Folds.{find-append}
use Rattle.toml.specs.Data.{Members}
use Rattle.acs_tree.specs.declared.routine.Stmt.{Stmt}
use Rattle.acs_tree.specs.declared.routine.Cond.{Cond}
use Rattle.acs_tree.specs.declared.routine.Form.{Form, roll-Form, map-Form}
use Rattle.acs_tree.specs.declared.routine.Form.TheOpen.{Form-F}
use Rattle.acs_tree.specs.declared.routine.Form.TheFolds.{fold-roll-Form, fold_out-Stmt, fold_out-When}
use Rattle.acs_tree.specs.declared.routine.Form.TheVariants.{Filt, Put, If, Pick, Do, Write, Exit, rolls-Filt}
use Rattle.acs_tree.specs.declared.routine.Form.TheVariants.{rolls-Put, rolls-If, rolls-Pick, rolls-Do, rolls-Write}
use Rattle.acs_tree.specs.declared.routine.Form.TheVariants.{rolls-Exit}
use Rattle.acs_tree.specs.declared.routine.Operand.{Operand}
use Rattle.acs_tree.specs.declared.routine.Ref.{Ref}
use Rattle.acs_tree.specs.declared.routine.When.{When, out-When}
use Rattle.deck_meaning.specs.Layout.{has}
use Rattle.deck_meaning.specs.Assigned.{literal_names, joined, form_step, stmt_step, when_step, assigned_in, assigned_by}
use Rattle.deck_meaning.specs.Assigned.{assigned_in_form, assigned_in_when, assigned_in_whens, assigned_in_other}
use Rattle.deck_meaning.specs.Assigned.{first_unknown}

pub of_form : (s : Stmt) → assigned_in s ≡ assigned_in_form s.form
of_form s = fold_out-Stmt (List (List ℕ)) (List (List ℕ)) (List (List ℕ)) form_step stmt_step when_step s

-- a layer of a form, put together
layer : (form : Form) (parts : Form-F Form Stmt When) → roll-Form parts ≡ form → assigned_in_form form ≡ form_step (map-Form Form Stmt When (List (List ℕ)) (List (List ℕ)) (List (List ℕ)) assigned_in_form assigned_in assigned_in_when parts)
layer form parts e = ap assigned_in_form (sym e) ∙ fold-roll-Form (List (List ℕ)) (List (List ℕ)) (List (List ℕ)) form_step stmt_step when_step parts

pub form_filt : (name : List ℕ) (at : ℕ) (include exclude : List Operand) → assigned_in_form (Filt name at include exclude) ≡ []
form_filt name at include exclude = layer (Filt name at include exclude) (Form-F.Filt name at include exclude) (rolls-Filt name at include exclude)

pub form_put : (target : Ref) (values : List Operand) → assigned_in_form (Put target values) ≡ literal_names values
form_put target values = layer (Put target values) (Form-F.Put target values) (rolls-Put target values)

pub form_if : (cond : Cond) (first : Stmt) (other : Option Stmt) → assigned_in_form (If cond first other) ≡ assigned_in first ++ assigned_in_other other
form_if cond first None = layer (If cond first None) (Form-F.If cond first None) (rolls-If cond first None)
form_if cond first (Some other) = layer (If cond first (Some other)) (Form-F.If cond first (Some other)) (rolls-If cond first (Some other))

same_whens : (whens : List When) → joined (map assigned_in_when whens) ≡ assigned_in_whens whens
same_whens [] = refl
same_whens (when ∷ whens) = ap (λ z. assigned_in_when when ++ z) (same_whens whens)

pub form_pick : (subject : Option Ref) (whens : List When) (other : Option Stmt) → assigned_in_form (Pick subject whens other) ≡ assigned_in_whens whens ++ assigned_in_other other
form_pick subject whens None = layer (Pick subject whens None) (Form-F.Pick subject whens None) (rolls-Pick subject whens None) ∙ ap (λ z. z ++ []) (same_whens whens)
form_pick subject whens (Some other) = layer (Pick subject whens (Some other)) (Form-F.Pick subject whens (Some other)) (rolls-Pick subject whens (Some other)) ∙ ap (λ z. z ++ assigned_in other) (same_whens whens)

same_body : (body : List Stmt) → joined (map assigned_in body) ≡ assigned_by body
same_body [] = refl
same_body (s ∷ body) = ap (λ z. assigned_in s ++ z) (same_body body)

pub form_do : (body : List Stmt) → assigned_in_form (Do body) ≡ assigned_by body
form_do body = layer (Do body) (Form-F.Do body) (rolls-Do body) ∙ same_body body

pub form_write : (parts : List Operand) → assigned_in_form (Write parts) ≡ []
form_write parts = layer (Write parts) (Form-F.Write parts) (rolls-Write parts)

pub form_exit : (code : Option Operand) → assigned_in_form (Exit code) ≡ []
form_exit code = layer (Exit code) (Form-F.Exit code) (rolls-Exit code)

pub of_when : (when : When) → assigned_in_when when ≡ assigned_in (out-When when).body
of_when when = fold_out-When (List (List ℕ)) (List (List ℕ)) (List (List ℕ)) form_step stmt_step when_step when

pub unknown_append : (constructs : Members) (a b : List (List ℕ)) → first_unknown constructs (a ++ b) ≡ option_or (first_unknown constructs a) (first_unknown constructs b)
unknown_append constructs a b = find-append (λ name. not (has name constructs)) a b

-- one turn over the statements, and one over the WHENs

pub body_turn : (constructs : Members) (s : Stmt) (body : List Stmt) (i : ℕ) → i < length body → s ≡ get_or body i s
    → option_or (first_unknown constructs (assigned_in s)) (first_unknown constructs (assigned_by (drop (i + 1) body))) ≡ first_unknown constructs (assigned_by (drop i body))
body_turn constructs s body i h e =
    let d : drop i body ≡ s ∷ drop (suc i) body = drop-cons body i s h ∙ ap (λ z. z ∷ drop (suc i) body) (sym e) in
    let k : i + 1 ≡ suc i = omega arith in
    ap (λ z. option_or (first_unknown constructs (assigned_in s)) (first_unknown constructs (assigned_by (drop z body)))) k
    ∙ sym (unknown_append constructs (assigned_in s) (assigned_by (drop (suc i) body))) ∙ ap (λ z. first_unknown constructs (assigned_by z)) (sym d)

pub when_turn : (constructs : Members) (when : When) (whens : List When) (i : ℕ) → i < length whens → when ≡ get_or whens i when
    → option_or (first_unknown constructs (assigned_in (out-When when).body)) (first_unknown constructs (assigned_in_whens (drop (i + 1) whens))) ≡ first_unknown constructs (assigned_in_whens (drop i whens))
when_turn constructs when whens i h e =
    let d : drop i whens ≡ when ∷ drop (suc i) whens = drop-cons whens i when h ∙ ap (λ z. z ∷ drop (suc i) whens) (sym e) in
    let k : i + 1 ≡ suc i = omega arith in
    ap (λ z. option_or (first_unknown constructs (assigned_in (out-When when).body)) (first_unknown constructs (assigned_in_whens (drop z whens)))) k
    ∙ ap (λ z. option_or (first_unknown constructs z) (first_unknown constructs (assigned_in_whens (drop (suc i) whens)))) (sym (of_when when))
    ∙ sym (unknown_append constructs (assigned_in_when when) (assigned_in_whens (drop (suc i) whens))) ∙ ap (λ z. first_unknown constructs (assigned_in_whens z)) (sym d)

or_found : {A : Type 0} (o p : Option A) {w : Option A} → is_some o ≡ true → option_or o p ≡ w → o ≡ w
or_found None p t e = absurd cc
or_found (Some x) p t e = e

or_passed : {A : Type 0} (o p : Option A) {w : Option A} → is_some o ≡ false → option_or o p ≡ w → p ≡ w
or_passed None p f e = e
or_passed (Some x) p f e = absurd cc

-- what the rest of the statements, or of the WHENs, assigns

abbrev rest_of_body : Members → List Stmt → ℕ → Option (List ℕ)
rest_of_body constructs body i = first_unknown constructs (assigned_by (drop i body))

abbrev rest_of_whens : Members → List When → ℕ → Option (List ℕ)
rest_of_whens constructs whens i = first_unknown constructs (assigned_in_whens (drop i whens))

pub found_in_body : (constructs : Members) (found : Option (List ℕ)) {whole : Option (List ℕ)} (s : Stmt) (body : List Stmt) (i : ℕ) → i < length body → s ≡ get_or body i s
    → found ≡ first_unknown constructs (assigned_in s) → is_some found ≡ true → rest_of_body constructs body i ≡ whole → found ≡ whole
found_in_body constructs found s body i h e f t w = or_found found (rest_of_body constructs body (i + 1)) t (ap (λ o. option_or o (rest_of_body constructs body (i + 1))) f ∙ body_turn constructs s body i h e ∙ w)

pub passed_in_body : (constructs : Members) (found : Option (List ℕ)) {whole : Option (List ℕ)} (s : Stmt) (body : List Stmt) (i : ℕ) → i < length body → s ≡ get_or body i s
    → found ≡ first_unknown constructs (assigned_in s) → is_some found ≡ false → rest_of_body constructs body i ≡ whole → rest_of_body constructs body (i + 1) ≡ whole
passed_in_body constructs found s body i h e f t w = or_passed found (rest_of_body constructs body (i + 1)) t (ap (λ o. option_or o (rest_of_body constructs body (i + 1))) f ∙ body_turn constructs s body i h e ∙ w)

pub found_in_whens : (constructs : Members) (found : Option (List ℕ)) {whole : Option (List ℕ)} (inner : Stmt) (when : When) (whens : List When) (i : ℕ) → i < length whens → when ≡ get_or whens i when → inner ≡ (out-When when).body
    → found ≡ first_unknown constructs (assigned_in inner) → is_some found ≡ true → rest_of_whens constructs whens i ≡ whole → found ≡ whole
found_in_whens constructs found inner when whens i h e b f t w =
    or_found found (rest_of_whens constructs whens (i + 1)) t (ap (λ o. option_or o (rest_of_whens constructs whens (i + 1))) (f ∙ ap (λ s. first_unknown constructs (assigned_in s)) b) ∙ when_turn constructs when whens i h e ∙ w)

pub passed_in_whens : (constructs : Members) (found : Option (List ℕ)) {whole : Option (List ℕ)} (inner : Stmt) (when : When) (whens : List When) (i : ℕ) → i < length whens → when ≡ get_or whens i when → inner ≡ (out-When when).body
    → found ≡ first_unknown constructs (assigned_in inner) → is_some found ≡ false → rest_of_whens constructs whens i ≡ whole → rest_of_whens constructs whens (i + 1) ≡ whole
passed_in_whens constructs found inner when whens i h e b f t w =
    or_passed found (rest_of_whens constructs whens (i + 1)) t (ap (λ o. option_or o (rest_of_whens constructs whens (i + 1))) (f ∙ ap (λ s. first_unknown constructs (assigned_in s)) b) ∙ when_turn constructs when whens i h e ∙ w)

pub ruleset form_steps = (of_form, form_filt, form_put, form_if, form_pick, form_do, form_write, form_exit, unknown_append)
