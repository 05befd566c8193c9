-- What each form of statement does, one equation for each, and its code.
use Rattle.std.proofs.Common.{◌≡◌, ◌<◌, ◌≤◌, ◌+◌, ℕ, suc, List, [], ◌∷◌, ◌++◌, length, map, drop, get_or, Option, Some}
use Rattle.std.proofs.Common.{None, refl, sym, ap, ◌∙◌, subst, append_assoc, arith}
use Rattle.std.specs.Prelude.{option_map}
use Rattle.std.proofs.Math.Seq.{drop-cons}
use Rattle.dsn_mask.specs.Filter.{FilterLists}
use Rattle.acs_tree.specs.declared.input.Input.{Input}
use Rattle.acs_tree.specs.declared.kind.Kind.{Kind}
use Rattle.acs_tree.specs.declared.routine.Cond.{Cond}
use Rattle.acs_tree.specs.declared.routine.Form.{Form, roll-Form, map-Form}
use Rattle.acs_tree.specs.declared.routine.Form.TheOpen.{Form-F}
use Rattle.acs_tree.specs.declared.routine.Form.TheFolds.{fold-roll-Form, fold_out-Stmt, fold_out-When}
use Rattle.acs_tree.specs.declared.routine.Form.TheVariants.{Put, If, Pick, Write, Exit, rolls-Put, rolls-If}
use Rattle.acs_tree.specs.declared.routine.Form.TheVariants.{rolls-Pick, rolls-Write, rolls-Exit}
use Rattle.acs_tree.specs.declared.routine.Operand.{Operand}
use Rattle.acs_tree.specs.declared.routine.Ref.{Ref}
use Rattle.acs_tree.specs.declared.routine.Stmt.{Stmt}
use Rattle.acs_tree.specs.declared.routine.When.{When, out-When}
use Rattle.acs_tree.specs.declared.values.Values.{Values}
use Rattle.acs_tree.specs.Conditions.{holds, when_holds}
use Rattle.acs_tree.specs.Meaning.{Arm, choice, code_of, first_of, form_step, in_turn, meaning, perhaps, stmt_step}
use Rattle.acs_tree.specs.Meaning.{when_step, writes}
use Rattle.acs_tree.specs.Outcome.{nothing, Action, exits}
use Rattle.acs_tree.specs.Setting.{sets}
use Rattle.acs_tree.specs.Writing.{joined, written}
use Rattle.acs_code.specs.declared.instr.Instr.{Instr}
use Rattle.acs_code.specs.declared.part.Part.{Part}
use Rattle.acs_code.specs.Inner.Arms.{arm_of, form_meaning}
use Rattle.acs_code.specs.Machine.{part_text, parts_text}
use Rattle.acs_code.specs.Compiled.{filters_of}
use Rattle.acs_code.specs.Inner.Upward.{Branches, Does, Over}
use Rattle.acs_code.proofs.Pieces.{does_choice, does_then}

-- the parts of a line

parts_push : (parts : List Part) (part : Part) (input : Input) (values : Values) → parts_text (parts ++ part ∷ []) input values ≡ parts_text parts input values ++ (part_text part input values ++ [])
parts_push [] part input values = refl
parts_push (first ∷ parts) part input values =
    ap (λ t. part_text first input values ++ t) (parts_push parts part input values) ∙ sym (append_assoc (part_text first input values) (parts_text parts input values) (part_text part input values ++ []))

with_none : (xs ys : List ℕ) → (xs ++ []) ++ ys ≡ xs ++ ys
with_none xs ys = append_assoc xs [] ys

pub parts_turn : (operands : List Operand) (k : ℕ) (operand : Operand) (parts new : List Part) (part : Part) (input : Input) (values : Values) → k < length operands → operand ≡ get_or operands k operand → new ≡ parts ++ part ∷ []
    → part_text part input values ≡ written operand.form input values → parts_text parts input values ++ joined (drop k operands) input values ≡ joined operands input values
    → parts_text new input values ++ joined (drop (k + 1) operands) input values ≡ joined operands input values
parts_turn operands k operand parts new part input values h is en same whole =
    let rest = joined (drop (suc k) operands) input values in
    let one : k + 1 ≡ suc k = omega arith in
    let split : joined (drop k operands) input values ≡ written operand.form input values ++ rest = ap (λ ls. joined ls input values) (drop-cons operands k operand h) ∙ ap (λ (o : Operand). written o.form input values ++ rest) (sym is) in
    ap (λ n. parts_text new input values ++ joined (drop n operands) input values) one
    ∙ ap (λ ps. parts_text ps input values ++ rest) en ∙ ap (λ t. t ++ rest) (parts_push parts part input values)
    ∙ append_assoc (parts_text parts input values) (part_text part input values ++ []) rest
    ∙ ap (λ t. parts_text parts input values ++ t) (with_none (part_text part input values) rest ∙ ap (λ t. t ++ rest) same ∙ sym split) ∙ whole

module _ (kind : Kind) (lists : List Stmt) where
  of_form : (s : Stmt) → meaning kind lists s ≡ form_meaning kind lists s.form
  of_form s = fold_out-Stmt Action Action Arm (form_step kind lists) stmt_step (when_step lists) s

  layer : (form : Form) (parts : Form-F Form Stmt When) → roll-Form parts ≡ form → form_meaning kind lists form ≡ form_step kind lists (map-Form Form Stmt When Action Action Arm (form_meaning kind lists) (meaning kind lists) (arm_of kind lists) parts)
  layer form parts e = ap (form_meaning kind lists) (sym e) ∙ fold-roll-Form Action Action Arm (form_step kind lists) stmt_step (when_step lists) parts

  of_layer : (s : Stmt) (form : Form) (action : Action) → s.form ≡ form → form_meaning kind lists form ≡ action → meaning kind lists s ≡ action
  of_layer s form action e f = of_form s ∙ ap (form_meaning kind lists) e ∙ f

  pub means_put : (s : Stmt) (target : Ref) (operands : List Operand) → s.form ≡ Put target operands → meaning kind lists s ≡ sets kind target operands
  means_put s target operands e = of_layer s (Put target operands) (sets kind target operands) e (layer (Put target operands) (Form-F.Put target operands) (rolls-Put target operands))

  form_if : (cond : Cond) (first : Stmt) (other : Option Stmt) → form_meaning kind lists (If cond first other) ≡ choice (holds lists cond) (meaning kind lists first) (perhaps (option_map (meaning kind lists) other))
  form_if cond first None = layer (If cond first None) (Form-F.If cond first None) (rolls-If cond first None)
  form_if cond first (Some other) = layer (If cond first (Some other)) (Form-F.If cond first (Some other)) (rolls-If cond first (Some other))

  form_pick : (subject : Option Ref) (whens : List When) (other : Option Stmt) → form_meaning kind lists (Pick subject whens other) ≡ first_of subject (map (arm_of kind lists) whens) (perhaps (option_map (meaning kind lists) other))
  form_pick subject whens None = layer (Pick subject whens None) (Form-F.Pick subject whens None) (rolls-Pick subject whens None)
  form_pick subject whens (Some other) = layer (Pick subject whens (Some other)) (Form-F.Pick subject whens (Some other)) (rolls-Pick subject whens (Some other))

  pub means_write : (s : Stmt) (parts : List Operand) → s.form ≡ Write parts → meaning kind lists s ≡ writes parts
  means_write s parts e = of_layer s (Write parts) (writes parts) e (layer (Write parts) (Form-F.Write parts) (rolls-Write parts))

  pub means_exit : (s : Stmt) (code : Option Operand) → s.form ≡ Exit code → meaning kind lists s ≡ (λ input values. exits (code_of code) values)
  means_exit s code e = of_layer s (Exit code) (λ input values. exits (code_of code) values) e (layer (Exit code) (Form-F.Exit code) (rolls-Exit code))

  means_when : (w : When) → arm_of kind lists w ≡ record { test = λ subject. when_holds lists subject (out-When w).test; body = meaning kind lists (out-When w).body }
  means_when w = fold_out-When Action Action Arm (form_step kind lists) stmt_step (when_step lists) w

  -- code of statements, from that of what they are made of

  pub put_turn : (s : Stmt) (target : Ref) (operands given : List Operand) {rest code : List Instr} → s.form ≡ Put target operands → given ≡ operands → Does kind (filters_of lists) (sets kind target given) rest code → Does kind (filters_of lists) (meaning kind lists s) rest code
  put_turn s target operands given e p d = rw (means_put s target operands e, sym p) d

  pub written_turn : (s : Stmt) (operands given : List Operand) {rest code : List Instr} → s.form ≡ Write operands → given ≡ operands → Does kind (filters_of lists) (writes given) rest code → Does kind (filters_of lists) (meaning kind lists s) rest code
  written_turn s operands given e p d = rw (means_write s operands e, sym p) d

  pub exit_turn : (s : Stmt) (number : Option Operand) {rest code : List Instr} → s.form ≡ Exit number → Does kind (filters_of lists) (λ input values. exits (code_of number) values) rest code → Does kind (filters_of lists) (meaning kind lists s) rest code
  exit_turn s number e d = rw (means_exit s number e) d

  pub block_turn : (body : List Stmt) (left k : ℕ) (s : Stmt) {rest mid code : List Instr} → left ≡ suc k → k < length body → s ≡ get_or body k s → Does kind (filters_of lists) (in_turn (map (meaning kind lists) (drop left body))) rest mid → Does kind (filters_of lists) (meaning kind lists s) mid code
      → Does kind (filters_of lists) (in_turn (map (meaning kind lists) (drop k body))) rest code
  block_turn body left k s {rest} {mid} {code} e h is d f =
      let d' = subst (λ n. Does kind (filters_of lists) (in_turn (map (meaning kind lists) (drop n body))) rest mid) e d in
      rw (drop-cons body k s h, sym is) (does_then kind (filters_of lists) d' f)

  pub if_turn : (s : Stmt) (cond : Cond) (first given : Stmt) (other : Option Stmt) {end : ℕ} {rest mid code : List Instr} → s.form ≡ If cond first other → given ≡ first → end ≡ length rest → Does kind (filters_of lists) (perhaps (option_map (meaning kind lists) other)) rest mid
      → ((action : Action) (r : List Instr) → end ≡ length r → Does kind (filters_of lists) action r mid → Does kind (filters_of lists) (choice (holds lists cond) (meaning kind lists given) action) r code) → Does kind (filters_of lists) (meaning kind lists s) rest code
  if_turn s cond first given other {end} {rest} {mid} {code} e p h d f =
      rw (of_layer s (If cond first other) _ e (form_if cond first other), sym p) (f (perhaps (option_map (meaning kind lists) other)) rest h d)

  pub pick_turn : (s : Stmt) (subject : Option Ref) (whens given : List When) (other : Option Stmt) {end : ℕ} {rest mid code : List Instr} → s.form ≡ Pick subject whens other → given ≡ whens → end ≡ length rest → Does kind (filters_of lists) (perhaps (option_map (meaning kind lists) other)) rest mid
      → ((action : Action) (r : List Instr) → end ≡ length r → Does kind (filters_of lists) action r mid → Does kind (filters_of lists) (first_of subject (map (arm_of kind lists) given) action) r code) → Does kind (filters_of lists) (meaning kind lists s) rest code
  pick_turn s subject whens given other {end} {rest} {mid} {code} e p h d f =
      rw (of_layer s (Pick subject whens other) _ e (form_pick subject whens other), sym p) (f (perhaps (option_map (meaning kind lists) other)) rest h d)

  -- a statement under a condition
  pub conditional_turn : (cond : Cond) (body : Stmt) {end holds_at fails_at : ℕ} {old jumped behind code : List Instr} → fails_at ≡ length old → holds_at ≡ length behind
      → ((k : Kind) (f : List FilterLists) → end ≤ length old → Over k f old jumped)
      → ((k : Kind) (f : List FilterLists) (rest : List Instr) → end ≡ length rest → Over k f rest old → Does k f nothing rest jumped)
      → Does kind (filters_of lists) (meaning kind lists body) jumped behind
      → Branches kind (filters_of lists) (holds lists cond) holds_at fails_at behind code
      → (other : Action) (rest : List Instr) → end ≡ length rest → Does kind (filters_of lists) other rest old → Does kind (filters_of lists) (choice (holds lists cond) (meaning kind lists body) other) rest code
  conditional_turn cond body {end} {holds_at} {fails_at} {old} {jumped} {behind} {code} ef eh over there first branches other rest e d =
      let branches' = subst (λ n. Branches kind (filters_of lists) (holds lists cond) n (length old) behind code) eh (subst (λ n. Branches kind (filters_of lists) (holds lists cond) holds_at n behind code) ef branches) in
      does_choice kind (filters_of lists) d (over kind (filters_of lists) (omega (arith, e, d.over.longer))) (there kind (filters_of lists) rest e d.over) first branches'

  -- a WHEN
  pub when_clause_turn : (subject : Option Ref) (w : When) (given : Stmt) {end holds_at fails_at : ℕ} {old jumped behind code : List Instr} → given ≡ (out-When w).body → fails_at ≡ length old → holds_at ≡ length behind
      → ((k : Kind) (f : List FilterLists) → end ≤ length old → Over k f old jumped)
      → ((k : Kind) (f : List FilterLists) (rest : List Instr) → end ≡ length rest → Over k f rest old → Does k f nothing rest jumped)
      → Does kind (filters_of lists) (meaning kind lists given) jumped behind
      → Branches kind (filters_of lists) (when_holds lists subject (out-When w).test) holds_at fails_at behind code
      → (other : Action) (rest : List Instr) → end ≡ length rest → Does kind (filters_of lists) other rest old → Does kind (filters_of lists) (first_of subject (arm_of kind lists w ∷ []) other) rest code
  when_clause_turn subject w given {end} {holds_at} {fails_at} {old} {jumped} {behind} {code} eb ef eh over there first branches other rest e d =
      let test = when_holds lists subject (out-When w).test in
      let branches' = subst (λ n. Branches kind (filters_of lists) test n (length old) behind code) eh (subst (λ n. Branches kind (filters_of lists) test holds_at n behind code) ef branches) in
      rw (means_when w, sym eb) (does_choice kind (filters_of lists) d (over kind (filters_of lists) (omega (arith, e, d.over.longer))) (there kind (filters_of lists) rest e d.over) first branches')

  -- one WHEN more in front
  pub when_clauses_turn : (subject : Option Ref) (arms : List When) (left k : ℕ) (w : When) (other : Action) (rest code : List Instr) → left ≡ suc k → k < length arms → w ≡ get_or arms k w
      → Does kind (filters_of lists) (first_of subject (arm_of kind lists w ∷ []) (first_of subject (map (arm_of kind lists) (drop left arms)) other)) rest code
      → Does kind (filters_of lists) (first_of subject (map (arm_of kind lists) (drop k arms)) other) rest code
  when_clauses_turn subject arms left k w other rest code e h is d =
      let d' = subst (λ n. Does kind (filters_of lists) (first_of subject (arm_of kind lists w ∷ []) (first_of subject (map (arm_of kind lists) (drop n arms)) other)) rest code) e d in
      rw (drop-cons arms k w h, sym is) d'
