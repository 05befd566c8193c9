-- Nodes that are walked in parts.
use Rattle.std.proofs.Common.{◌≡◌, ◌<◌, ◌+◌, ℕ, suc, List, [], ◌∷◌, ◌++◌, length, drop, drop-cons, get_or, refl, sym}
use Rattle.std.proofs.Common.{◌∙◌, ap, arith}
use Rattle.std.specs.Prelude.{Option}
use Rattle.acs_tree.specs.declared.check_err.CheckErr.{CheckErr}
use Rattle.acs_tree.specs.declared.kind.Kind.{Kind}
use Rattle.acs_tree.specs.declared.routine.Stmt.{Stmt}
use Rattle.acs_tree.specs.declared.routine.Cond.{Cond}
use Rattle.acs_tree.specs.declared.routine.Form.TheVariants.{If, Pick}
use Rattle.acs_tree.specs.declared.routine.Ref.{Ref}
use Rattle.acs_tree.specs.declared.routine.When.{When, out-When}
use Rattle.acs_tree.specs.Nodes.{Node, nodes_of, nodes_of_cond, nodes_of_test, nodes_of_subject}
use Rattle.acs_tree.specs.Sound.{faults_at}
use Rattle.acs_check.specs.Inner.Parts.{nodes_of_form, nodes_of_block, nodes_of_when, nodes_of_whens, nodes_of_optional}
use Rattle.acs_check.specs.Inner.Walk.{least, met, walked, passed, faults_in, faults_behind}
use Rattle.acs_check.proofs.FoldLemmas.{cond_and, cond_or, cond_test, form_do, form_exit, form_filt, form_if, form_pick}
use Rattle.acs_check.proofs.FoldLemmas.{form_put, form_write, of_branch, of_form}
use Rattle.acs_check.proofs.LeastLemmas.{least_append}

pub walked_append : (kind : Kind) (before : List Stmt) (best : Option CheckErr) (a b : List Node) → walked kind before best (a ++ b) ≡ walked kind before (walked kind before best a) b
walked_append kind before best [] b = refl
walked_append kind before best (n ∷ ns) b = walked_append kind before (met kind before best n) ns b

-- the walk comes to the least of the faults

pub walked_least : (kind : Kind) (before : List Stmt) (best : Option CheckErr) (nodes : List Node) → walked kind before best nodes ≡ least best (faults_in kind before nodes)
walked_least kind before best [] = refl
walked_least kind before best (n ∷ ns) = walked_least kind before (met kind before best n) ns ∙ sym (least_append best (faults_at kind before n) (faults_in kind before ns))

pub passed_least : (kind : Kind) (before : List Stmt) (best : Option CheckErr) (body : List Stmt) → passed kind before best body ≡ least best (faults_behind kind before body)
passed_least kind before best [] = refl
passed_least kind before best (s ∷ ss) =
    ap (λ z. passed kind (before ++ s ∷ []) z ss) (walked_least kind before best (nodes_of s))
    ∙ passed_least kind (before ++ s ∷ []) (least best (faults_in kind before (nodes_of s))) ss
    ∙ sym (least_append best (faults_in kind before (nodes_of s)) (faults_behind kind (before ++ s ∷ []) ss))

-- the walk of a statement, part by part

pub walk_if : (kind : Kind) (before : List Stmt) (best : Option CheckErr) (cond : Cond) (first : Stmt) (other : Option Stmt)
    → walked kind before (walked kind before (walked kind before best (nodes_of_cond cond)) (nodes_of first)) (nodes_of_optional other) ≡ walked kind before best (nodes_of_form (If cond first other))
walk_if kind before best cond first other =
    sym (ap (walked kind before best) (form_if cond first other) ∙ walked_append kind before best (nodes_of_cond cond) (nodes_of first ++ nodes_of_optional other)
    ∙ walked_append kind before (walked kind before best (nodes_of_cond cond)) (nodes_of first) (nodes_of_optional other))

pub walk_pick : (kind : Kind) (before : List Stmt) (best : Option CheckErr) (subject : Option Ref) (whens : List When) (other : Option Stmt)
    → walked kind before (walked kind before (walked kind before best (nodes_of_subject subject)) (nodes_of_whens subject whens)) (nodes_of_optional other) ≡ walked kind before best (nodes_of_form (Pick subject whens other))
walk_pick kind before best subject whens other =
    sym (ap (walked kind before best) (form_pick subject whens other) ∙ walked_append kind before best (nodes_of_subject subject) (nodes_of_whens subject whens ++ nodes_of_optional other)
    ∙ walked_append kind before (walked kind before best (nodes_of_subject subject)) (nodes_of_whens subject whens) (nodes_of_optional other))

pub block_turn : (kind : Kind) (before : List Stmt) (best : Option CheckErr) (s : Stmt) (body : List Stmt) (i : ℕ) → i < length body → s ≡ get_or body i s
    → walked kind before (walked kind before best (nodes_of s)) (nodes_of_block (drop (i + 1) body)) ≡ walked kind before best (nodes_of_block (drop i body))
block_turn kind before best s body i h e =
    let d : drop i body ≡ s ∷ drop (suc i) body = drop-cons body i s h ∙ ap (λ z. z ∷ drop (suc i) body) (sym e) in
    let k : i + 1 ≡ suc i = omega arith in
    ap (λ z. walked kind before (walked kind before best (nodes_of s)) (nodes_of_block (drop z body))) k
    ∙ sym (walked_append kind before best (nodes_of s) (nodes_of_block (drop (suc i) body))) ∙ ap (λ z. walked kind before best (nodes_of_block z)) (sym d)

pub branches_turn : (kind : Kind) (before : List Stmt) (best : Option CheckErr) (subject : Option Ref) (when : When) (whens : List When) (i : ℕ) → i < length whens → when ≡ get_or whens i when
    → walked kind before (walked kind before (walked kind before best (nodes_of_test (out-When when).test subject)) (nodes_of (out-When when).body)) (nodes_of_whens subject (drop (i + 1) whens))
    ≡ walked kind before best (nodes_of_whens subject (drop i whens))
branches_turn kind before best subject when whens i h e =
    let d : drop i whens ≡ when ∷ drop (suc i) whens = drop-cons whens i when h ∙ ap (λ z. z ∷ drop (suc i) whens) (sym e) in
    let k : i + 1 ≡ suc i = omega arith in
    let test = nodes_of_test (out-When when).test subject in
    let body = nodes_of (out-When when).body in
    ap (λ z. walked kind before (walked kind before (walked kind before best test) body) (nodes_of_whens subject (drop z whens))) k
    ∙ ap (λ z. walked kind before z (nodes_of_whens subject (drop (suc i) whens))) (sym (walked_append kind before best test body) ∙ ap (walked kind before best) (sym (of_branch when subject)))
    ∙ sym (walked_append kind before best (nodes_of_when when subject) (nodes_of_whens subject (drop (suc i) whens)))
    ∙ ap (λ z. walked kind before best (nodes_of_whens subject z)) (sym d)

-- the calls of the walk, one after another

pub if_at : (kind : Kind) (before : List Stmt) (best : Option CheckErr) (s : Stmt) (cond : Cond) (first : Stmt) (other : Option Stmt) {s1 s2 s3 : Option CheckErr} {w : Stmt} → s.form ≡ If cond first other → w ≡ first
    → s1 ≡ walked kind before best (nodes_of_cond cond) → s2 ≡ walked kind before s1 (nodes_of w) → s3 ≡ walked kind before s2 (nodes_of_optional other) → s3 ≡ walked kind before best (nodes_of s)
if_at kind before best s cond first other {s1} {s2} {s3} {w} ef ew e1 e2 e3 =
    e3 ∙ ap (λ z. walked kind before z (nodes_of_optional other)) (e2 ∙ ap (λ z. walked kind before s1 (nodes_of z)) ew ∙ ap (λ z. walked kind before z (nodes_of first)) e1)
    ∙ walk_if kind before best cond first other ∙ ap (walked kind before best) (sym (of_form s ∙ ap nodes_of_form ef))

pub pick_at : (kind : Kind) (before : List Stmt) (best : Option CheckErr) (s : Stmt) (subject : Option Ref) (whens : List When) (other : Option Stmt) {s1 s2 s3 : Option CheckErr} {ws : List When} → s.form ≡ Pick subject whens other → ws ≡ whens
    → s1 ≡ walked kind before best (nodes_of_subject subject) → s2 ≡ walked kind before s1 (nodes_of_whens subject ws) → s3 ≡ walked kind before s2 (nodes_of_optional other) → s3 ≡ walked kind before best (nodes_of s)
pick_at kind before best s subject whens other {s1} {s2} {s3} {ws} ef ew e1 e2 e3 =
    e3 ∙ ap (λ z. walked kind before z (nodes_of_optional other)) (e2 ∙ ap (λ z. walked kind before s1 (nodes_of_whens subject z)) ew ∙ ap (λ z. walked kind before z (nodes_of_whens subject whens)) e1)
    ∙ walk_pick kind before best subject whens other ∙ ap (walked kind before best) (sym (of_form s ∙ ap nodes_of_form ef))

-- the same of another reading of what it compares
pub pick_given : (kind : Kind) (before : List Stmt) (best : Option CheckErr) (s : Stmt) (subject : Option Ref) (whens : List When) (other : Option Stmt) {given : Option Ref} {s1 s2 s3 : Option CheckErr} {ws : List When} → s.form ≡ Pick subject whens other → given ≡ subject → ws ≡ whens
    → s1 ≡ walked kind before best (nodes_of_subject given) → s2 ≡ walked kind before s1 (nodes_of_whens given ws) → s3 ≡ walked kind before s2 (nodes_of_optional other) → s3 ≡ walked kind before best (nodes_of s)
pick_given kind before best s subject whens other {given} {s1} {s2} {s3} {ws} ef eg ew e1 e2 e3 =
    pick_at kind before best s subject whens other ef ew (e1 ∙ ap (λ z. walked kind before best (nodes_of_subject z)) eg) (e2 ∙ ap (λ z. walked kind before s1 (nodes_of_whens z ws)) eg) e3

pub when_at : (kind : Kind) (before : List Stmt) (best : Option CheckErr) (subject : Option Ref) (when : When) (whens : List When) (i : ℕ) {s1 s2 : Option CheckErr} {w : Stmt} → i < length whens → when ≡ get_or whens i when → w ≡ (out-When when).body
    → s1 ≡ walked kind before best (nodes_of_test (out-When when).test subject) → s2 ≡ walked kind before s1 (nodes_of w)
    → walked kind before s2 (nodes_of_whens subject (drop (i + 1) whens)) ≡ walked kind before best (nodes_of_whens subject (drop i whens))
when_at kind before best subject when whens i {s1} {s2} {w} h e ew e1 e2 =
    ap (λ z. walked kind before z (nodes_of_whens subject (drop (i + 1) whens)))
    (e2 ∙ ap (λ z. walked kind before s1 (nodes_of z)) ew ∙ ap (λ z. walked kind before z (nodes_of (out-When when).body)) e1)
    ∙ branches_turn kind before best subject when whens i h e

pub ruleset cond_steps = (cond_and, cond_or, cond_test, walked_append)

pub ruleset form_steps = (of_form, form_filt, form_put, form_if, form_pick, form_do, form_write, form_exit, walked_append)
