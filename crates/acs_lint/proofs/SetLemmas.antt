-- What no SET sets comes in no outcome.
use Rattle.std.proofs.Common.{◌≡◌, ◌&&◌, ◌||◌, ℕ, Bool, true, false, not, List, [], ◌∷◌, ◌++◌, map, bytes_eq, length, nat_lt, refl, sym, ap, ◌∙◌, subst}
use Rattle.std.specs.Prelude.{Option, Some, None, flat_map, if◌then◌else◌}
use Rattle.std.specs.List.{list_any}
use Rattle.std.proofs.lemmas.List.Concat.{flat_map-append}
use Rattle.acs_tree.specs.declared.ending.Ending.{Ending}
use Rattle.acs_tree.specs.declared.ending.Ending.TheVariants as ending
use Rattle.acs_tree.specs.declared.input.Input.{Input}
use Rattle.acs_tree.specs.declared.kind.Kind.{Kind}
use Rattle.acs_tree.specs.declared.kind.Kind.TheVariants.{DataClas, StorClas, MgmtClas, StorGrp}
use Rattle.acs_tree.specs.declared.routine.Cond.{Cond}
use Rattle.acs_tree.specs.declared.routine.Form.{Form, fold-Form, roll-Form, map-Form}
use Rattle.acs_tree.specs.declared.routine.Form.TheOpen.{Form-F, Stmt-F, When-F}
use Rattle.acs_tree.specs.declared.routine.Form.TheFolds.{ind-Stmt, fold-roll-Form, fold-roll-Stmt, fold-roll-When}
use Rattle.acs_tree.specs.declared.routine.Form.TheVariants.{If, Pick, Do, rolls-Put, rolls-If, rolls-Pick, rolls-Do}
use Rattle.acs_tree.specs.declared.routine.Operand.{Operand}
use Rattle.acs_tree.specs.declared.routine.OperandForm.{OperandForm}
use Rattle.acs_tree.specs.declared.routine.OperandForm.TheVariants.{Literal, Word, Var}
use Rattle.acs_tree.specs.declared.routine.Ref.{Ref}
use Rattle.acs_tree.specs.declared.routine.Routine.{Routine}
use Rattle.acs_tree.specs.declared.routine.Stmt.{Stmt, roll-Stmt, map-Stmt}
use Rattle.acs_tree.specs.declared.routine.When.{When, roll-When, map-When}
use Rattle.acs_tree.specs.declared.values.Values.{Values}
use Rattle.dsn_mask.specs.Name.{is_short}
use Rattle.acs_tree.specs.Conditions.{holds}
use Rattle.acs_tree.specs.Meaning.{Arm, choice, code_of, first_of, form_step, in_turn, meaning, meaning_of, perhaps, stmt_step, when_step, writes}
use Rattle.acs_tree.specs.Outcome.{Action, Outcome, after, behind, exits, falls, nothing, then_do}
use Rattle.acs_tree.specs.Setting.{class_from, class_set, groups_behind, groups_set, is_new_group, kind_set, sets, with_class, with_group}
use Rattle.acs_tree.specs.Variables.{name_of}
use Rattle.acs_lint.specs.Inner.Parts.{inside_form, inside_when, statements_in_other}
use Rattle.acs_lint.specs.Meant.{arm_of}
use Rattle.acs_lint.specs.Statements as statements
use Rattle.acs_lint.specs.Statements.{FormParts, StmtParts, WhenParts, shape_of, statements_in}
use Rattle.acs_lint.specs.Uses.{held_of, may_be, may_be_set, values_at, values_in, values_of}
use Rattle.acs_lint.proofs.BoolLemmas.{never, off_left, off_right}
use Rattle.acs_lint.proofs.ListLemmas.{front_off, joined_off, rest_off}
use Rattle.acs_lint.proofs.StatementLemmas.{form_do, form_if, form_pick, of_stmt, shape_put}

module _ (name : List ℕ) (some : bytes_eq name [] ≡ false) where
  abbrev Lacks : List (List ℕ) → Type 0
  Lacks texts = list_any (bytes_eq name) texts ≡ false

  -- a value that can't be the text
  abbrev Other : Operand → Bool
  Other value = may_be name value.form

  abbrev Silent : List Operand → Type 0
  Silent values = list_any Other values ≡ false

  -- of the statements of two lists
  abbrev SilentIn : List Stmt → Type 0
  SilentIn ss = Silent (values_in ss)

  front_in : (xs ys : List Stmt) → SilentIn (xs ++ ys) → SilentIn xs
  front_in xs ys h = front_off Other (values_in xs) (values_in ys) (ap (list_any Other) (sym (flat_map-append (λ (s : Stmt). values_at (shape_of s.form)) xs ys)) ∙ h)

  rest_in : (xs ys : List Stmt) → SilentIn (xs ++ ys) → SilentIn ys
  rest_in xs ys h = rest_off Other (values_in xs) (values_in ys) (ap (list_any Other) (sym (flat_map-append (λ (s : Stmt). values_at (shape_of s.form)) xs ys)) ∙ h)

  module _ (kind : Kind) where
    -- the variable of the kind doesn't hold the text
    abbrev Without : Values → Type 0
    Without values = Lacks (held_of kind values)

    -- an action that doesn't bring it
    abbrev Keeps : Action → Type 0
    Keeps action = (input : Input) (values : Values) → Without values → Without (action input values).values

  -- SET

  new_group : (b : Bool) (groups : List (List ℕ)) (text : List ℕ) → Lacks groups → bytes_eq name text ≡ false → Lacks (if b then groups ++ text ∷ [] else groups)
  new_group true groups text h e = joined_off (bytes_eq name) groups (text ∷ []) h (ap (λ (c : Bool). c || false) e)
  new_group false groups text h e = h

  group_lacks : (groups : List (List ℕ)) → Lacks groups → (form : OperandForm) → may_be name form ≡ false → Lacks (with_group groups form)
  group_lacks groups h (Literal text) l = new_group (is_new_group groups text) groups text h l
  group_lacks groups h (Word word) l = h
  group_lacks groups h (Var ref) l = h

  groups_lack : (operands : List Operand) (groups : List (List ℕ)) → Lacks groups → Silent operands → Lacks (groups_behind groups operands)
  groups_lack [] groups h l = h
  groups_lack (operand ∷ operands) groups h l =
      groups_lack operands (with_group groups operand.form) (group_lacks groups h operand.form (off_left (Other operand) (list_any Other operands) l)) (off_right (Other operand) (list_any Other operands) l)

  text_lacks : (b : Bool) (text : List ℕ) → bytes_eq name text ≡ false → bytes_eq name (if b then text else []) ≡ false
  text_lacks true text e = e
  text_lacks false text e = some

  class_lacks : (form : OperandForm) (input : Input) (values : Values) → may_be name form ≡ false → Lacks (class_from form input values ∷ [])
  class_lacks (Literal text) input values l = ap (λ (c : Bool). c || false) (text_lacks (is_short text) text l)
  class_lacks (Word word) input values l = ap (λ (c : Bool). c || false) some
  class_lacks (Var ref) input values l = never (sym l)

  class_keeps : (kind : Kind) (operands : List Operand) → ((class : List ℕ) (values : Values) → held_of kind (with_class kind class values) ≡ class ∷ []) → Silent operands → Keeps kind (class_set kind operands)
  class_keeps kind [] same l input values h = h
  class_keeps kind (operand ∷ operands) same l input values h =
      ap (list_any (bytes_eq name)) (same (class_from operand.form input values) values) ∙ class_lacks operand.form input values (off_left (Other operand) (list_any Other operands) l)

  kind_keeps : (kind : Kind) (operands : List Operand) → Silent operands → Keeps kind (kind_set kind operands)
  kind_keeps DataClas operands l = class_keeps DataClas operands (λ class values. refl) l
  kind_keeps StorClas operands l = class_keeps StorClas operands (λ class values. refl) l
  kind_keeps MgmtClas operands l = class_keeps MgmtClas operands (λ class values. refl) l
  kind_keeps StorGrp operands l = λ input values h. groups_lack operands [] refl l

  sets_keep : (kind : Kind) (target : Ref) (operands : List Operand) → Silent operands → Keeps kind (sets kind target operands)
  sets_keep kind target operands l = step (bytes_eq target.name (name_of kind))
    where
      step : (b : Bool) → Keeps kind (if b then kind_set kind operands else nothing)
      step true = kind_keeps kind operands l
      step false = λ input values h. h

  -- statements

  if_keeps : (kind : Kind) (b : Bool) (one other : Outcome) → Without kind one.values → Without kind other.values → Without kind (if b then one else other).values
  if_keeps kind true one other g h = g
  if_keeps kind false one other g h = h

  then_keeps : (kind : Kind) (first : Outcome) (next : Values → Outcome) → Without kind first.values → ((values : Values) → Without kind values → Without kind (next values).values) → Without kind (then_do first next).values
  then_keeps kind first next h f = cases first.ending
    where
      cases : (e : Ending) → Without kind (after e first next).values
      cases ending.Falls = f first.values h
      cases (ending.Exit code) = h

  module _ (kind : Kind) (body : List Stmt) where
    abbrev does : Form → Action
    does = fold-Form Action Action Arm (form_step kind body) stmt_step (when_step body)

    abbrev FormKeeps : Form → Type 0
    FormKeeps form = Silent (values_at (shape_of form)) → SilentIn (inside_form form) → Keeps kind (does form)

    abbrev StmtKeeps : Stmt → Type 0
    StmtKeeps s = SilentIn (statements_in s) → Keeps kind (meaning kind body s)

    abbrev WhenKeeps : When → Type 0
    WhenKeeps arm = SilentIn (inside_when arm) → Keeps kind ((arm_of kind body arm).body)

    block_keeps : (ss : List ((s : Stmt) × StmtKeeps s)) → SilentIn (flat_map statements_in (map (λ e. e.0) ss)) → Keeps kind (in_turn (map (meaning kind body) (map (λ e. e.0) ss)))
    block_keeps [] l input values h = h
    block_keeps (s ∷ ss) l input values h =
        then_keeps kind (meaning kind body s.0 input values) (in_turn (map (meaning kind body) (map (λ e. e.0) ss)) input)
        (s.1 (front_in (statements_in s.0) (flat_map statements_in (map (λ e. e.0) ss)) l) input values h)
        (block_keeps ss (rest_in (statements_in s.0) (flat_map statements_in (map (λ e. e.0) ss)) l) input)

    pick_keeps : (subject : Option Ref) (ws : List ((w : When) × WhenKeeps w)) (other : Action) → SilentIn (flat_map inside_when (map (λ e. e.0) ws)) → Keeps kind other → Keeps kind (first_of subject (map (arm_of kind body) (map (λ e. e.0) ws)) other)
    pick_keeps subject [] other l k = k
    pick_keeps subject (w ∷ ws) other l k = λ input values h.
        if_keeps kind ((arm_of kind body w.0).test subject input values) ((arm_of kind body w.0).body input values) (first_of subject (map (arm_of kind body) (map (λ e. e.0) ws)) other input values)
        (w.1 (front_in (inside_when w.0) (flat_map inside_when (map (λ e. e.0) ws)) l) input values h)
        (pick_keeps subject ws other (rest_in (inside_when w.0) (flat_map inside_when (map (λ e. e.0) ws)) l) k input values h)

    from_rolled : (parts : Form-F Form Stmt When) → (Silent (values_at (shape_of (roll-Form parts))) → SilentIn (inside_form (roll-Form parts)) → Keeps kind (form_step kind body (map-Form Form Stmt When Action Action Arm does (meaning kind body) (arm_of kind body) parts))) → FormKeeps (roll-Form parts)
    from_rolled parts f a b = subst (Keeps kind) (sym (fold-roll-Form Action Action Arm (form_step kind body) stmt_step (when_step body) parts)) (f a b)

    inside_is : (parts : Form-F Form Stmt When) (form : Form) (ss : List Stmt) → roll-Form parts ≡ form → inside_form form ≡ ss → SilentIn (inside_form (roll-Form parts)) → SilentIn ss
    inside_is parts form ss e f l = subst SilentIn (ap inside_form e ∙ f) l

    form_layer : (y : Form-F ((f : Form) × FormKeeps f) ((s : Stmt) × StmtKeeps s) ((w : When) × WhenKeeps w)) → FormKeeps (roll-Form (map-Form ((f : Form) × FormKeeps f) ((s : Stmt) × StmtKeeps s) ((w : When) × WhenKeeps w) Form Stmt When (λ e. e.0) (λ e. e.0) (λ e. e.0) y))
    form_layer (Form-F.Filt list list_at include exclude) = from_rolled (Form-F.Filt list list_at include exclude) (λ a b input values h. h)
    form_layer (Form-F.Put target operands) =
        from_rolled (Form-F.Put target operands) (λ a b. sets_keep kind target operands (subst (λ shape. Silent (values_at shape)) (ap shape_of (rolls-Put target operands) ∙ shape_put target operands) a))
    form_layer (Form-F.If cond first None) = from_rolled (Form-F.If cond first.0 None) (λ a b input values h.
        let l = inside_is (Form-F.If cond first.0 None) (If cond first.0 None) (statements_in first.0 ++ []) (rolls-If cond first.0 None) (form_if cond first.0 None) b in
        if_keeps kind (holds body cond input values) (meaning kind body first.0 input values) (nothing input values) (first.1 (front_in (statements_in first.0) [] l) input values h) h)
    form_layer (Form-F.If cond first (Some other)) = from_rolled (Form-F.If cond first.0 (Some other.0)) (λ a b input values h.
        let l = inside_is (Form-F.If cond first.0 (Some other.0)) (If cond first.0 (Some other.0)) (statements_in first.0 ++ statements_in other.0) (rolls-If cond first.0 (Some other.0)) (form_if cond first.0 (Some other.0)) b in
        if_keeps kind (holds body cond input values) (meaning kind body first.0 input values) (meaning kind body other.0 input values)
        (first.1 (front_in (statements_in first.0) (statements_in other.0) l) input values h) (other.1 (rest_in (statements_in first.0) (statements_in other.0) l) input values h))
    form_layer (Form-F.Pick subject whens None) = from_rolled (Form-F.Pick subject (map (λ e. e.0) whens) None) (λ a b.
        let ws = map (λ e. e.0) whens in
        let l = inside_is (Form-F.Pick subject ws None) (Pick subject ws None) (flat_map inside_when ws ++ []) (rolls-Pick subject ws None) (form_pick subject ws None) b in
        pick_keeps subject whens nothing (front_in (flat_map inside_when ws) [] l) (λ input values h. h))
    form_layer (Form-F.Pick subject whens (Some other)) = from_rolled (Form-F.Pick subject (map (λ e. e.0) whens) (Some other.0)) (λ a b.
        let ws = map (λ e. e.0) whens in
        let l = inside_is (Form-F.Pick subject ws (Some other.0)) (Pick subject ws (Some other.0)) (flat_map inside_when ws ++ statements_in other.0) (rolls-Pick subject ws (Some other.0)) (form_pick subject ws (Some other.0)) b in
        pick_keeps subject whens (meaning kind body other.0) (front_in (flat_map inside_when ws) (statements_in other.0) l) (other.1 (rest_in (flat_map inside_when ws) (statements_in other.0) l)))
    form_layer (Form-F.Do block) = from_rolled (Form-F.Do (map (λ e. e.0) block)) (λ a b.
        let ss = map (λ e. e.0) block in
        block_keeps block (inside_is (Form-F.Do ss) (Do ss) (flat_map statements_in ss) (rolls-Do ss) (form_do ss) b))
    form_layer (Form-F.Write parts) = from_rolled (Form-F.Write parts) (λ a b input values h. h)
    form_layer (Form-F.Exit code) = from_rolled (Form-F.Exit code) (λ a b input values h. h)

    stmt_layer : (y : Stmt-F ((f : Form) × FormKeeps f) ((s : Stmt) × StmtKeeps s) ((w : When) × WhenKeeps w)) → StmtKeeps (roll-Stmt (map-Stmt ((f : Form) × FormKeeps f) ((s : Stmt) × StmtKeeps s) ((w : When) × WhenKeeps w) Form Stmt When (λ e. e.0) (λ e. e.0) (λ e. e.0) y))
    stmt_layer y l =
        let parts = map-Stmt ((f : Form) × FormKeeps f) ((s : Stmt) × StmtKeeps s) ((w : When) × WhenKeeps w) Form Stmt When (λ e. e.0) (λ e. e.0) (λ e. e.0) y in
        let all : SilentIn (roll-Stmt parts ∷ inside_form y.form.0) = subst SilentIn (of_stmt (roll-Stmt parts)) l in
        subst (Keeps kind) (sym (fold-roll-Stmt Action Action Arm (form_step kind body) stmt_step (when_step body) parts))
        (y.form.1 (front_off Other (values_at (shape_of y.form.0)) (values_in (inside_form y.form.0)) all) (rest_off Other (values_at (shape_of y.form.0)) (values_in (inside_form y.form.0)) all))

    when_layer : (y : When-F ((f : Form) × FormKeeps f) ((s : Stmt) × StmtKeeps s) ((w : When) × WhenKeeps w)) → WhenKeeps (roll-When (map-When ((f : Form) × FormKeeps f) ((s : Stmt) × StmtKeeps s) ((w : When) × WhenKeeps w) Form Stmt When (λ e. e.0) (λ e. e.0) (λ e. e.0) y))
    when_layer y l =
        let parts = map-When ((f : Form) × FormKeeps f) ((s : Stmt) × StmtKeeps s) ((w : When) × WhenKeeps w) Form Stmt When (λ e. e.0) (λ e. e.0) (λ e. e.0) y in
        subst (λ (a : Arm). Keeps kind a.body) (sym (fold-roll-When Action Action Arm (form_step kind body) stmt_step (when_step body) parts))
        (y.body.1 (subst SilentIn (ap (λ (p : WhenParts). p.inside) (fold-roll-When FormParts StmtParts WhenParts statements.form_step statements.stmt_step statements.when_step parts)) l))

    pub stmt_keeps : (s : Stmt) → StmtKeeps s
    stmt_keeps = ind-Stmt FormKeeps StmtKeeps WhenKeeps
        (λ x y is. subst (λ z. FormKeeps (roll-Form z)) is (form_layer y))
        (λ x y is. subst (λ z. StmtKeeps (roll-Stmt z)) is (stmt_layer y))
        (λ x y is. subst (λ z. WhenKeeps (roll-When z)) is (when_layer y))

    pub body_keeps : (ss : List Stmt) → SilentIn (flat_map statements_in ss) → Keeps kind (in_turn (map (meaning kind body) ss))
    body_keeps [] l input values h = h
    body_keeps (s ∷ ss) l input values h =
        then_keeps kind (meaning kind body s input values) (in_turn (map (meaning kind body) ss) input) (stmt_keeps s (front_in (statements_in s) (flat_map statements_in ss) l) input values h)
        (body_keeps ss (rest_in (statements_in s) (flat_map statements_in ss) l) input)

pub routine_keeps : (name : List ℕ) → bytes_eq name [] ≡ false → (routine : Routine) (kind : Kind) → may_be_set name (values_of routine) ≡ false → (input : Input) (values : Values)
    → list_any (bytes_eq name) (held_of kind values) ≡ false → list_any (bytes_eq name) (held_of kind (meaning_of routine kind input values).values) ≡ false
routine_keeps name some routine kind l = body_keeps name some kind routine.body routine.body l
