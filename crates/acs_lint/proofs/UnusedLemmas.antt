-- A filter list that nothing names makes no difference.
use Rattle.std.proofs.Common.{◌≡◌, ◌&&◌, ◌||◌, ℕ, Bool, true, false, List, [], ◌∷◌, ◌++◌, map, bytes_eq, refl, sym, ap, ◌∙◌, subst}
use Rattle.std.specs.Prelude.{Option, Some, None, flat_map, if◌then◌else◌}
use Rattle.std.specs.List.{list_any}
use Rattle.std.proofs.lemmas.List.Concat.{flat_map-append}
use Rattle.acs_tree.specs.declared.ending.Ending.{Ending}
use Rattle.acs_tree.specs.declared.ending.Ending.TheVariants as ending
use Rattle.acs_tree.specs.declared.input.Input.{Input}
use Rattle.acs_tree.specs.declared.kind.Kind.{Kind}
use Rattle.acs_tree.specs.declared.routine.Compare.{Compare}
use Rattle.acs_tree.specs.declared.routine.Compare.TheVariants.{Eq}
use Rattle.acs_tree.specs.declared.routine.Cond.{Cond, roll-Cond, map-Cond}
use Rattle.acs_tree.specs.declared.routine.Cond.TheOpen.{Cond-F}
use Rattle.acs_tree.specs.declared.routine.Cond.TheFolds.{fold-roll-Cond, ind-Cond}
use Rattle.acs_tree.specs.declared.routine.Form.{Form, fold-Form, roll-Form, map-Form}
use Rattle.acs_tree.specs.declared.routine.Form.TheOpen.{Form-F, Stmt-F, When-F}
use Rattle.acs_tree.specs.declared.routine.Form.TheFolds.{ind-Stmt, fold-roll-Form, fold-roll-Stmt, fold-roll-When, fold_out-When}
use Rattle.acs_tree.specs.declared.routine.Form.TheVariants.{If, Pick, Do, rolls-If, rolls-Pick, rolls-Do}
use Rattle.acs_tree.specs.declared.routine.Operand.{Operand}
use Rattle.acs_tree.specs.declared.routine.OperandForm.{OperandForm}
use Rattle.acs_tree.specs.declared.routine.OperandForm.TheVariants.{Literal, Word, Var}
use Rattle.acs_tree.specs.declared.routine.Ref.{Ref}
use Rattle.acs_tree.specs.declared.routine.Stmt.{Stmt, roll-Stmt, map-Stmt}
use Rattle.acs_tree.specs.declared.routine.When.{When, out-When, roll-When, map-When}
use Rattle.acs_tree.specs.declared.routine.WhenTest.{WhenTest}
use Rattle.acs_tree.specs.declared.routine.WhenTest.TheVariants.{Any, Holds}
use Rattle.acs_tree.specs.declared.values.Values.{Values}
use Rattle.acs_tree.specs.Comparands as comparand
use Rattle.acs_tree.specs.Comparands.{Comparand, form_comparand, list_comparand}
use Rattle.acs_tree.specs.Compares.{compares}
use Rattle.acs_tree.specs.Conditions as conditions
use Rattle.acs_tree.specs.Conditions.{comparison, equals_any, holds, when_holds}
use Rattle.acs_tree.specs.FilterLists.{FilterList, list_named}
use Rattle.acs_tree.specs.Meaning.{Arm, choice, code_of, first_of, form_step, in_turn, meaning, perhaps, stmt_step, when_step}
use Rattle.acs_tree.specs.Outcome.{Action, Outcome, after, behind, nothing, then_do}
use Rattle.acs_tree.specs.References.{is_known, is_whole_name}
use Rattle.acs_tree.specs.Variables.{index_of, variable_value}
use Rattle.acs_lint.specs.Inner.Parts.{inside_form, inside_when, statements_in_other}
use Rattle.acs_lint.specs.Meant.{arm_of}
use Rattle.acs_lint.specs.Statements as statements
use Rattle.acs_lint.specs.Statements.{FormParts, StmtParts, WhenParts, shape_of, statements_in}
use Rattle.acs_lint.specs.Uses.{cond_step, name_by, names_in, operands_at, operands_in, operands_of_cond, operands_of_test}
use Rattle.acs_lint.proofs.BoolLemmas.{off_left}
use Rattle.acs_lint.proofs.ListLemmas.{front_off, rest_off}
use Rattle.acs_lint.proofs.StatementLemmas.{form_do, form_if, form_pick, of_stmt, shape_if, shape_pick}

after_same : (e : Ending) (before : Outcome) (one other : Values → Outcome) → ((values : Values) → one values ≡ other values) → after e before one ≡ after e before other
after_same ending.Falls before one other f = ap (behind before.lines) (f before.values)
after_same (ending.Exit code) before one other f = refl

module _ (name : List ℕ) (body other : List Stmt) (alike : (listed : List ℕ) → bytes_eq name listed ≡ false → list_named other listed ≡ list_named body listed) where
  abbrev Lacks : List (List ℕ) → Type 0
  Lacks names = list_any (bytes_eq name) names ≡ false

  -- none of these operands names the list
  abbrev Unnamed : List Operand → Type 0
  Unnamed operands = Lacks (names_in operands)

  front_unnamed : (xs ys : List Operand) → Unnamed (xs ++ ys) → Unnamed xs
  front_unnamed xs ys h = front_off (bytes_eq name) (names_in xs) (names_in ys) (ap (list_any (bytes_eq name)) (sym (flat_map-append (λ (o : Operand). name_by o.form) xs ys)) ∙ h)

  rest_unnamed : (xs ys : List Operand) → Unnamed (xs ++ ys) → Unnamed ys
  rest_unnamed xs ys h = rest_off (bytes_eq name) (names_in xs) (names_in ys) (ap (list_any (bytes_eq name)) (sym (flat_map-append (λ (o : Operand). name_by o.form) xs ys)) ∙ h)

  abbrev UnnamedIn : List Stmt → Type 0
  UnnamedIn ss = Unnamed (operands_in ss)

  front_in : (xs ys : List Stmt) → UnnamedIn (xs ++ ys) → UnnamedIn xs
  front_in xs ys h = front_unnamed (operands_in xs) (operands_in ys) (subst Unnamed (flat_map-append (λ (s : Stmt). operands_at (shape_of s.form)) xs ys) h)

  rest_in : (xs ys : List Stmt) → UnnamedIn (xs ++ ys) → UnnamedIn ys
  rest_in xs ys h = rest_unnamed (operands_in xs) (operands_in ys) (subst Unnamed (flat_map-append (λ (s : Stmt). operands_at (shape_of s.form)) xs ys) h)

  -- comparisons

  form_same : (left : Ref) (form : OperandForm) → Lacks (name_by form) → form_comparand other left form ≡ form_comparand body left form
  form_same left (Literal text) l = refl
  form_same left (Word word) l = refl
  form_same left (Var ref) l =
      ap (λ (list : Option FilterList). if is_known ref then comparand.Var ref.name (index_of ref.index) else list_comparand (is_whole_name left) list) (alike ref.name (off_left (bytes_eq name ref.name) false l))

  module _ (input : Input) (values : Values) where
    comparison_same : (left : Ref) (op : Compare) (right : Operand) → Unnamed (right ∷ []) → comparison other left op right input values ≡ comparison body left op right input values
    comparison_same left op right l = ap (compares input values op (variable_value left.name (index_of left.index) input values)) (form_same left right.form (front_off (bytes_eq name) (name_by right.form) [] l))

    abbrev CondSame : Cond → Type 0
    CondSame cond = Unnamed (operands_of_cond cond) → holds other cond input values ≡ holds body cond input values

    abbrev holds_layer : List Stmt → Cond-F Cond → Type 0
    holds_layer ss parts =
        holds ss (roll-Cond parts) input values
        ≡ conditions.cond_step ss (map-Cond Cond conditions.Test (holds ss) parts) input values

    opened : (ss : List Stmt) (parts : Cond-F Cond) → holds_layer ss parts
    opened ss parts = ap (λ (f : conditions.Test). f input values) (fold-roll-Cond conditions.Test (conditions.cond_step ss) parts)

    cond_layer : (y : Cond-F ((c : Cond) × CondSame c)) → CondSame (roll-Cond (map-Cond ((c : Cond) × CondSame c) Cond (λ e. e.0) y))
    cond_layer (Cond-F.And one two) l =
        let all : Unnamed (operands_of_cond one.0 ++ operands_of_cond two.0) = subst Unnamed (fold-roll-Cond (List Operand) cond_step (Cond-F.And one.0 two.0)) l in
        opened other (Cond-F.And one.0 two.0)
        ∙ ap (λ (t : Bool). t && holds other two.0 input values) (one.1 (front_unnamed (operands_of_cond one.0) (operands_of_cond two.0) all))
        ∙ ap (λ (t : Bool). holds body one.0 input values && t) (two.1 (rest_unnamed (operands_of_cond one.0) (operands_of_cond two.0) all))
        ∙ sym (opened body (Cond-F.And one.0 two.0))
    cond_layer (Cond-F.Or one two) l =
        let all : Unnamed (operands_of_cond one.0 ++ operands_of_cond two.0) = subst Unnamed (fold-roll-Cond (List Operand) cond_step (Cond-F.Or one.0 two.0)) l in
        opened other (Cond-F.Or one.0 two.0)
        ∙ ap (λ (t : Bool). t || holds other two.0 input values) (one.1 (front_unnamed (operands_of_cond one.0) (operands_of_cond two.0) all))
        ∙ ap (λ (t : Bool). holds body one.0 input values || t) (two.1 (rest_unnamed (operands_of_cond one.0) (operands_of_cond two.0) all))
        ∙ sym (opened body (Cond-F.Or one.0 two.0))
    cond_layer (Cond-F.Test left op op_at right) l =
        opened other (Cond-F.Test left op op_at right)
        ∙ comparison_same left op right (subst Unnamed (fold-roll-Cond (List Operand) cond_step (Cond-F.Test left op op_at right)) l)
        ∙ sym (opened body (Cond-F.Test left op op_at right))

    cond_same : (cond : Cond) → CondSame cond
    cond_same = ind-Cond CondSame (λ x y is. subst (λ z. CondSame (roll-Cond z)) is (cond_layer y))

    any_same : (subject : Ref) (items : List Operand) → Unnamed items → equals_any other subject items input values ≡ equals_any body subject items input values
    any_same subject [] l = refl
    any_same subject (item ∷ items) l =
        ap (λ (t : Bool). t || equals_any other subject items input values) (comparison_same subject Eq item (front_unnamed (item ∷ []) items l))
        ∙ ap (λ (t : Bool). comparison body subject Eq item input values || t) (any_same subject items (rest_unnamed (item ∷ []) items l))

    test_same : (subject : Option Ref) (test : WhenTest) → Unnamed (operands_of_test test) → when_holds other subject test input values ≡ when_holds body subject test input values
    test_same None (Holds cond) l = cond_same cond l
    test_same (Some subject) (Holds cond) l = cond_same cond l
    test_same (Some subject) (Any items) l = any_same subject items l
    test_same None (Any items) l = refl

  module _ (kind : Kind) where
    abbrev does : List Stmt → Form → Action
    does ss = fold-Form Action Action Arm (form_step kind ss) stmt_step (when_step ss)

    abbrev SameAction : Action → Action → Type 0
    SameAction one two = (input : Input) (values : Values) → one input values ≡ two input values

    abbrev FormSame : Form → Type 0
    FormSame form = Unnamed (operands_at (shape_of form)) → UnnamedIn (inside_form form) → SameAction (does other form) (does body form)

    abbrev StmtSame : Stmt → Type 0
    StmtSame s = UnnamedIn (statements_in s) → SameAction (meaning kind other s) (meaning kind body s)

    abbrev WhenSame : When → Type 0
    WhenSame arm = UnnamedIn (inside_when arm) → SameAction ((arm_of kind other arm).body) ((arm_of kind body arm).body)

    block_same : (ss : List ((s : Stmt) × StmtSame s)) → UnnamedIn (flat_map statements_in (map (λ e. e.0) ss)) → SameAction (in_turn (map (meaning kind other) (map (λ e. e.0) ss))) (in_turn (map (meaning kind body) (map (λ e. e.0) ss)))
    block_same [] l input values = refl
    block_same (s ∷ ss) l input values =
        ap (λ (o : Outcome). then_do o (in_turn (map (meaning kind other) (map (λ e. e.0) ss)) input)) (s.1 (front_in (statements_in s.0) (flat_map statements_in (map (λ e. e.0) ss)) l) input values)
        ∙ after_same (meaning kind body s.0 input values).ending (meaning kind body s.0 input values) (in_turn (map (meaning kind other) (map (λ e. e.0) ss)) input) (in_turn (map (meaning kind body) (map (λ e. e.0) ss)) input)
        (block_same ss (rest_in (statements_in s.0) (flat_map statements_in (map (λ e. e.0) ss)) l) input)

    arm_asks : (ss : List Stmt) (arm : When) (subject : Option Ref) (input : Input) (values : Values) → (arm_of kind ss arm).test subject input values ≡ when_holds ss subject (out-When arm).test input values
    arm_asks ss arm subject input values = ap (λ (a : Arm). a.test subject input values) (fold_out-When Action Action Arm (form_step kind ss) stmt_step (when_step ss) arm)

    arm_same : (arm : When) (subject : Option Ref) (input : Input) (values : Values) → Unnamed (operands_of_test (out-When arm).test) → (arm_of kind other arm).test subject input values ≡ (arm_of kind body arm).test subject input values
    arm_same arm subject input values l = arm_asks other arm subject input values ∙ test_same input values subject (out-When arm).test l ∙ sym (arm_asks body arm subject input values)

    abbrev asked : List When → List Operand
    asked whens = flat_map (λ (arm : When). operands_of_test (out-When arm).test) whens

    pick_same : (subject : Option Ref) (ws : List ((w : When) × WhenSame w)) (one two : Action) → Unnamed (asked (map (λ e. e.0) ws)) → UnnamedIn (flat_map inside_when (map (λ e. e.0) ws)) → SameAction one two
        → SameAction (first_of subject (map (arm_of kind other) (map (λ e. e.0) ws)) one) (first_of subject (map (arm_of kind body) (map (λ e. e.0) ws)) two)
    pick_same subject [] one two a l same input values = same input values
    pick_same subject (w ∷ ws) one two a l same input values =
        let rest = first_of subject (map (arm_of kind other) (map (λ e. e.0) ws)) one input values in
        ap (λ (b : Bool). if b then (arm_of kind other w.0).body input values else rest) (arm_same w.0 subject input values (front_unnamed (operands_of_test (out-When w.0).test) (asked (map (λ e. e.0) ws)) a))
        ∙ ap (λ (o : Outcome). if (arm_of kind body w.0).test subject input values then o else rest) (w.1 (front_in (inside_when w.0) (flat_map inside_when (map (λ e. e.0) ws)) l) input values)
        ∙ ap (λ (o : Outcome). if (arm_of kind body w.0).test subject input values then (arm_of kind body w.0).body input values else o)
        (pick_same subject ws one two (rest_unnamed (operands_of_test (out-When w.0).test) (asked (map (λ e. e.0) ws)) a) (rest_in (inside_when w.0) (flat_map inside_when (map (λ e. e.0) ws)) l) same input values)

    if_same : (cond : Cond) (one two : Action) (otherwise otherwise' : Action) → Unnamed (operands_of_cond cond) → SameAction one two → SameAction otherwise otherwise' → SameAction (choice (holds other cond) one otherwise) (choice (holds body cond) two otherwise')
    if_same cond one two otherwise otherwise' l first second input values =
        ap (λ (b : Bool). if b then one input values else otherwise input values) (cond_same input values cond l)
        ∙ ap (λ (o : Outcome). if holds body cond input values then o else otherwise input values) (first input values)
        ∙ ap (λ (o : Outcome). if holds body cond input values then two input values else o) (second input values)

    abbrev step_of : List Stmt → Form-F Form Stmt When → Action
    step_of ss parts = form_step kind ss (map-Form Form Stmt When Action Action Arm (does ss) (meaning kind ss) (arm_of kind ss) parts)

    from_rolled : (parts : Form-F Form Stmt When) → (Unnamed (operands_at (shape_of (roll-Form parts))) → UnnamedIn (inside_form (roll-Form parts)) → SameAction (step_of other parts) (step_of body parts)) → FormSame (roll-Form parts)
    from_rolled parts f a b input values =
        ap (λ (g : Action). g input values) (fold-roll-Form Action Action Arm (form_step kind other) stmt_step (when_step other) parts)
        ∙ f a b input values
        ∙ sym (ap (λ (g : Action). g input values) (fold-roll-Form Action Action Arm (form_step kind body) stmt_step (when_step body) parts))

    inside_is : (parts : Form-F Form Stmt When) (form : Form) (ss : List Stmt) → roll-Form parts ≡ form → inside_form form ≡ ss → UnnamedIn (inside_form (roll-Form parts)) → UnnamedIn ss
    inside_is parts form ss e f l = subst UnnamedIn (ap inside_form e ∙ f) l

    shape_is : (parts : Form-F Form Stmt When) (form : Form) → roll-Form parts ≡ form → shape_of form ≡ parts → Unnamed (operands_at (shape_of (roll-Form parts))) → Unnamed (operands_at parts)
    shape_is parts form e f l = subst (λ shape. Unnamed (operands_at shape)) (ap shape_of e ∙ f) l

    form_layer : (y : Form-F ((f : Form) × FormSame f) ((s : Stmt) × StmtSame s) ((w : When) × WhenSame w)) → FormSame (roll-Form (map-Form ((f : Form) × FormSame f) ((s : Stmt) × StmtSame s) ((w : When) × WhenSame w) Form Stmt When (λ e. e.0) (λ e. e.0) (λ e. e.0) y))
    form_layer (Form-F.Filt list list_at include exclude) = from_rolled (Form-F.Filt list list_at include exclude) (λ a b input values. refl)
    form_layer (Form-F.Put target operands) = from_rolled (Form-F.Put target operands) (λ a b input values. refl)
    form_layer (Form-F.If cond first None) = from_rolled (Form-F.If cond first.0 None) (λ a b.
        let l = inside_is (Form-F.If cond first.0 None) (If cond first.0 None) (statements_in first.0 ++ []) (rolls-If cond first.0 None) (form_if cond first.0 None) b in
        if_same cond (meaning kind other first.0) (meaning kind body first.0) nothing nothing (shape_is (Form-F.If cond first.0 None) (If cond first.0 None) (rolls-If cond first.0 None) (shape_if cond first.0 None) a)
        (first.1 (front_in (statements_in first.0) [] l)) (λ input values. refl))
    form_layer (Form-F.If cond first (Some second)) = from_rolled (Form-F.If cond first.0 (Some second.0)) (λ a b.
        let l = inside_is (Form-F.If cond first.0 (Some second.0)) (If cond first.0 (Some second.0)) (statements_in first.0 ++ statements_in second.0) (rolls-If cond first.0 (Some second.0)) (form_if cond first.0 (Some second.0)) b in
        if_same cond (meaning kind other first.0) (meaning kind body first.0) (meaning kind other second.0) (meaning kind body second.0)
        (shape_is (Form-F.If cond first.0 (Some second.0)) (If cond first.0 (Some second.0)) (rolls-If cond first.0 (Some second.0)) (shape_if cond first.0 (Some second.0)) a)
        (first.1 (front_in (statements_in first.0) (statements_in second.0) l)) (second.1 (rest_in (statements_in first.0) (statements_in second.0) l)))
    form_layer (Form-F.Pick subject whens None) = from_rolled (Form-F.Pick subject (map (λ e. e.0) whens) None) (λ a b.
        let ws = map (λ e. e.0) whens in
        let l = inside_is (Form-F.Pick subject ws None) (Pick subject ws None) (flat_map inside_when ws ++ []) (rolls-Pick subject ws None) (form_pick subject ws None) b in
        pick_same subject whens nothing nothing (shape_is (Form-F.Pick subject ws None) (Pick subject ws None) (rolls-Pick subject ws None) (shape_pick subject ws None) a)
        (front_in (flat_map inside_when ws) [] l) (λ input values. refl))
    form_layer (Form-F.Pick subject whens (Some second)) = from_rolled (Form-F.Pick subject (map (λ e. e.0) whens) (Some second.0)) (λ a b.
        let ws = map (λ e. e.0) whens in
        let l = inside_is (Form-F.Pick subject ws (Some second.0)) (Pick subject ws (Some second.0)) (flat_map inside_when ws ++ statements_in second.0) (rolls-Pick subject ws (Some second.0)) (form_pick subject ws (Some second.0)) b in
        pick_same subject whens (meaning kind other second.0) (meaning kind body second.0)
        (shape_is (Form-F.Pick subject ws (Some second.0)) (Pick subject ws (Some second.0)) (rolls-Pick subject ws (Some second.0)) (shape_pick subject ws (Some second.0)) a)
        (front_in (flat_map inside_when ws) (statements_in second.0) l) (second.1 (rest_in (flat_map inside_when ws) (statements_in second.0) l)))
    form_layer (Form-F.Do block) = from_rolled (Form-F.Do (map (λ e. e.0) block)) (λ a b.
        let ss = map (λ e. e.0) block in
        block_same block (inside_is (Form-F.Do ss) (Do ss) (flat_map statements_in ss) (rolls-Do ss) (form_do ss) b))
    form_layer (Form-F.Write parts) = from_rolled (Form-F.Write parts) (λ a b input values. refl)
    form_layer (Form-F.Exit code) = from_rolled (Form-F.Exit code) (λ a b input values. refl)

    stmt_layer : (y : Stmt-F ((f : Form) × FormSame f) ((s : Stmt) × StmtSame s) ((w : When) × WhenSame w)) → StmtSame (roll-Stmt (map-Stmt ((f : Form) × FormSame f) ((s : Stmt) × StmtSame s) ((w : When) × WhenSame w) Form Stmt When (λ e. e.0) (λ e. e.0) (λ e. e.0) y))
    stmt_layer y l input values =
        let parts = map-Stmt ((f : Form) × FormSame f) ((s : Stmt) × StmtSame s) ((w : When) × WhenSame w) Form Stmt When (λ e. e.0) (λ e. e.0) (λ e. e.0) y in
        let all : UnnamedIn (roll-Stmt parts ∷ inside_form y.form.0) = subst UnnamedIn (of_stmt (roll-Stmt parts)) l in
        ap (λ (g : Action). g input values) (fold-roll-Stmt Action Action Arm (form_step kind other) stmt_step (when_step other) parts)
        ∙ y.form.1 (front_unnamed (operands_at (shape_of y.form.0)) (operands_in (inside_form y.form.0)) all) (rest_unnamed (operands_at (shape_of y.form.0)) (operands_in (inside_form y.form.0)) all) input values
        ∙ sym (ap (λ (g : Action). g input values) (fold-roll-Stmt Action Action Arm (form_step kind body) stmt_step (when_step body) parts))

    when_layer : (y : When-F ((f : Form) × FormSame f) ((s : Stmt) × StmtSame s) ((w : When) × WhenSame w)) → WhenSame (roll-When (map-When ((f : Form) × FormSame f) ((s : Stmt) × StmtSame s) ((w : When) × WhenSame w) Form Stmt When (λ e. e.0) (λ e. e.0) (λ e. e.0) y))
    when_layer y l input values =
        let parts = map-When ((f : Form) × FormSame f) ((s : Stmt) × StmtSame s) ((w : When) × WhenSame w) Form Stmt When (λ e. e.0) (λ e. e.0) (λ e. e.0) y in
        ap (λ (a : Arm). a.body input values) (fold-roll-When Action Action Arm (form_step kind other) stmt_step (when_step other) parts)
        ∙ y.body.1 (subst UnnamedIn (ap (λ (p : WhenParts). p.inside) (fold-roll-When FormParts StmtParts WhenParts statements.form_step statements.stmt_step statements.when_step parts)) l) input values
        ∙ sym (ap (λ (a : Arm). a.body input values) (fold-roll-When Action Action Arm (form_step kind body) stmt_step (when_step body) parts))

    stmt_same : (s : Stmt) → StmtSame s
    stmt_same = ind-Stmt FormSame StmtSame WhenSame
        (λ x y is. subst (λ z. FormSame (roll-Form z)) is (form_layer y))
        (λ x y is. subst (λ z. StmtSame (roll-Stmt z)) is (stmt_layer y))
        (λ x y is. subst (λ z. WhenSame (roll-When z)) is (when_layer y))

    pub body_same : (ss : List Stmt) → UnnamedIn (flat_map statements_in ss) → SameAction (in_turn (map (meaning kind other) ss)) (in_turn (map (meaning kind body) ss))
    body_same [] l input values = refl
    body_same (s ∷ ss) l input values =
        ap (λ (o : Outcome). then_do o (in_turn (map (meaning kind other) ss) input)) (stmt_same s (front_in (statements_in s) (flat_map statements_in ss) l) input values)
        ∙ after_same (meaning kind body s input values).ending (meaning kind body s input values) (in_turn (map (meaning kind other) ss) input) (in_turn (map (meaning kind body) ss) input)
        (body_same ss (rest_in (statements_in s) (flat_map statements_in ss) l) input)
