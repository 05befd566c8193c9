-- What is told comes to what is meant.
use Rattle.std.specs.Prelude.{if◌then◌else◌}
use Rattle.std.proofs.Common.{◌≡◌, ◌&&◌, ◌||◌, ℕ, Bool, true, false, List, [], ◌∷◌, map, Option, None, Some, refl, sym, ap, ◌∙◌, subst}
use Rattle.acs_tree.specs.declared.input.Input.{Input}
use Rattle.acs_tree.specs.declared.kind.Kind.{Kind}
use Rattle.acs_tree.specs.declared.routine.Cond.{Cond, roll-Cond, map-Cond}
use Rattle.acs_tree.specs.declared.routine.Cond.TheOpen.{Cond-F}
use Rattle.acs_tree.specs.declared.routine.Cond.TheFolds.{fold-roll-Cond, ind-Cond}
use Rattle.acs_tree.specs.declared.ending.Ending.{Ending}
use Rattle.acs_tree.specs.declared.ending.Ending.TheVariants as ending
use Rattle.acs_tree.specs.declared.routine.Form.{Form, roll-Form, map-Form}
use Rattle.acs_tree.specs.declared.routine.Form.TheOpen.{Form-F, Stmt-F, When-F}
use Rattle.acs_tree.specs.declared.routine.Form.TheFolds.{ind-Stmt, fold-roll-Form, fold-roll-Stmt, fold-roll-When}
use Rattle.acs_tree.specs.declared.routine.Operand.{Operand}
use Rattle.acs_tree.specs.declared.routine.Ref.{Ref}
use Rattle.acs_tree.specs.declared.routine.Routine.{Routine}
use Rattle.acs_tree.specs.declared.routine.When.{When, out-When, roll-When, map-When}
use Rattle.acs_tree.specs.declared.routine.WhenTest.{WhenTest}
use Rattle.acs_tree.specs.declared.routine.WhenTest.TheVariants.{Any, Holds}
use Rattle.acs_tree.specs.declared.routine.Compare.TheVariants.{Eq}
use Rattle.acs_tree.specs.declared.routine.Stmt.{Stmt, roll-Stmt, map-Stmt}
use Rattle.acs_tree.specs.declared.values.Values.{Values}
use Rattle.acs_tree.specs.Conditions as conditions
use Rattle.acs_tree.specs.Conditions.{comparison, cond_step, equals_any, holds, when_holds}
use Rattle.acs_tree.specs.Meaning.{Arm, first_of, form_step, in_turn, meaning, meaning_of, perhaps, stmt_step, when_step}
use Rattle.acs_tree.specs.Outcome.{Action, Outcome, after, behind, then_do}
use Rattle.acs_trace.specs.Story.{Chapter, Story, Told, first_told, perhaps_told, story, story_of, tell_choice, tell_form, tell_in_turn, tell_stmt, tell_when, then_tell, told_after}
use Rattle.acs_trace.specs.Inner.Follows.{arm_of, chapter_of, form_meaning, story_of_form}
use Rattle.acs_trace.specs.Sights.{Look, Sight, both, either, look, look_any, look_step, look_test, look_when, seen_behind}

abbrev Means : List Stmt → Cond → Type 0
Means body cond = (input : Input) (values : Values) → (look body cond input values).holds ≡ holds body cond input values

both_holds : (one two : Sight) → (both one two).holds ≡ (one.holds && two.holds)
both_holds one two = cases one.holds refl
  where
    cases : (c : Bool) → one.holds ≡ c → (if c then seen_behind one.events two else one).holds ≡ (c && two.holds)
    cases true e = refl
    cases false e = e

either_holds : (one two : Sight) → (either one two).holds ≡ (one.holds || two.holds)
either_holds one two = cases one.holds refl
  where
    cases : (c : Bool) → one.holds ≡ c → (if c then one else seen_behind one.events two).holds ≡ (c || two.holds)
    cases true e = e
    cases false e = refl

layer : (body : List Stmt) (y : Cond-F ((c : Cond) × Means body c)) → Means body (roll-Cond (map-Cond ((c : Cond) × Means body c) Cond (λ e. e.0) y))
layer body (Cond-F.And one two) input values =
    ap (λ (f : Look). (f input values).holds) (fold-roll-Cond Look (look_step body) (Cond-F.And one.0 two.0))
    ∙ both_holds (look body one.0 input values) (look body two.0 input values)
    ∙ ap (λ t. t && (look body two.0 input values).holds) (one.1 input values) ∙ ap (λ t. holds body one.0 input values && t) (two.1 input values)
    ∙ sym (ap (λ (f : conditions.Test). f input values) (fold-roll-Cond conditions.Test (cond_step body) (Cond-F.And one.0 two.0)))
layer body (Cond-F.Or one two) input values =
    ap (λ (f : Look). (f input values).holds) (fold-roll-Cond Look (look_step body) (Cond-F.Or one.0 two.0))
    ∙ either_holds (look body one.0 input values) (look body two.0 input values)
    ∙ ap (λ t. t || (look body two.0 input values).holds) (one.1 input values) ∙ ap (λ t. holds body one.0 input values || t) (two.1 input values)
    ∙ sym (ap (λ (f : conditions.Test). f input values) (fold-roll-Cond conditions.Test (cond_step body) (Cond-F.Or one.0 two.0)))
layer body (Cond-F.Test left op op_at right) input values =
    ap (λ (f : Look). (f input values).holds) (fold-roll-Cond Look (look_step body) (Cond-F.Test left op op_at right))
    ∙ sym (ap (λ (f : conditions.Test). f input values) (fold-roll-Cond conditions.Test (cond_step body) (Cond-F.Test left op op_at right)))

pub look_means : (body : List Stmt) (cond : Cond) → Means body cond
look_means body = ind-Cond (Means body) (λ x y is. subst (λ z. Means body (roll-Cond z)) is (layer body y))

any_means : (body : List Stmt) (subject : Ref) (items : List Operand) (input : Input) (values : Values) → (look_any body subject items input values).holds ≡ equals_any body subject items input values
any_means body subject [] input values = refl
any_means body subject (item ∷ items) input values =
    either_holds (look_test body subject Eq item input values) (look_any body subject items input values) ∙ ap (λ t. comparison body subject Eq item input values || t) (any_means body subject items input values)

when_means : (body : List Stmt) (subject : Option Ref) (test : WhenTest) (input : Input) (values : Values) → (look_when body subject test input values).holds ≡ when_holds body subject test input values
when_means body subject (Holds cond) input values = look_means body cond input values
when_means body (Some subject) (Any items) input values = any_means body subject items input values
when_means body None (Any items) input values = refl

choice_means : (sight : Sight) (m : Bool) (first other : Told) (does others : Outcome) → sight.holds ≡ m → first.outcome ≡ does → other.outcome ≡ others → (tell_choice sight first other).outcome ≡ (if m then does else others)
choice_means sight m first other does others e f g = subst (λ c. (if sight.holds then first else other).outcome ≡ (if c then does else others)) e (cases sight.holds)
  where
    cases : (c : Bool) → (if c then first else other).outcome ≡ (if c then does else others)
    cases true = f
    cases false = g

then_means : (first : Told) (does : Outcome) (next : Values → Told) (then' : Values → Outcome) → first.outcome ≡ does → ((values : Values) → (next values).outcome ≡ then' values) → (then_tell first next).outcome ≡ then_do does then'
then_means first does next then' e f = subst (λ o. (then_tell first next).outcome ≡ then_do o then') e (cases first.outcome.ending)
  where
    cases : (o : Ending) → (told_after o first next).outcome ≡ after o first.outcome then'
    cases ending.Falls = ap (behind first.outcome.lines) (f first.outcome.values)
    cases (ending.Exit code) = refl

module _ (kind : Kind) (body : List Stmt) where
  abbrev FormMeans : Form → Type 0
  FormMeans form = (input : Input) (values : Values) → (story_of_form kind body form input values).outcome ≡ form_meaning kind body form input values

  abbrev StmtMeans : Stmt → Type 0
  StmtMeans s = (input : Input) (values : Values) → (story kind body s input values).outcome ≡ meaning kind body s input values

  -- of a WHEN both what it asks and what it does
  abbrev WhenMeans : When → Type 0
  WhenMeans arm = (input : Input) (values : Values) →
      ((subject : Option Ref) → ((chapter_of kind body arm).look subject input values).holds ≡ (arm_of kind body arm).test subject input values)
      × (((chapter_of kind body arm).body input values).outcome ≡ (arm_of kind body arm).body input values)

  turns : (ss : List ((s : Stmt) × StmtMeans s)) (input : Input) (values : Values) → (tell_in_turn (map (story kind body) (map (λ e. e.0) ss)) input values).outcome ≡ in_turn (map (meaning kind body) (map (λ e. e.0) ss)) input values
  turns [] input values = refl
  turns (s ∷ ss) input values =
      then_means (story kind body s.0 input values) (meaning kind body s.0 input values) (tell_in_turn (map (story kind body) (map (λ e. e.0) ss)) input) (in_turn (map (meaning kind body) (map (λ e. e.0) ss)) input) (s.1 input values) (turns ss input)

  picks : (subject : Option Ref) (ws : List ((w : When) × WhenMeans w)) (other : Story) (others : Action) (input : Input) (values : Values) → (other input values).outcome ≡ others input values
      → (first_told subject (map (chapter_of kind body) (map (λ e. e.0) ws)) other input values).outcome ≡ first_of subject (map (arm_of kind body) (map (λ e. e.0) ws)) others input values
  picks subject [] other others input values e = e
  picks subject (w ∷ ws) other others input values e =
      choice_means ((chapter_of kind body w.0).look subject input values) ((arm_of kind body w.0).test subject input values) ((chapter_of kind body w.0).body input values) (first_told subject (map (chapter_of kind body) (map (λ x. x.0) ws)) other input values)
      ((arm_of kind body w.0).body input values) (first_of subject (map (arm_of kind body) (map (λ x. x.0) ws)) others input values) ((w.1 input values).0 subject) (w.1 input values).1 (picks subject ws other others input values e)

  from_rolled : (parts : Form-F Form Stmt When) {tells : Story} {does : Action} (input : Input) (values : Values)
      → tell_form kind body (map-Form Form Stmt When Story Story Chapter (story_of_form kind body) (story kind body) (chapter_of kind body) parts) ≡ tells
      → form_step kind body (map-Form Form Stmt When Action Action Arm (form_meaning kind body) (meaning kind body) (arm_of kind body) parts) ≡ does
      → (tells input values).outcome ≡ does input values → (story_of_form kind body (roll-Form parts) input values).outcome ≡ form_meaning kind body (roll-Form parts) input values
  from_rolled parts input values t d e =
      ap (λ (f : Story). (f input values).outcome) (fold-roll-Form Story Story Chapter (tell_form kind body) tell_stmt (tell_when body) parts ∙ t) ∙ e
      ∙ sym (ap (λ (f : Action). f input values) (fold-roll-Form Action Action Arm (form_step kind body) stmt_step (when_step body) parts ∙ d))

  abbrev Open : Type 0
  Open = Form-F ((f : Form) × FormMeans f) ((s : Stmt) × StmtMeans s) ((w : When) × WhenMeans w)

  form_layer : (y : Open) → FormMeans (roll-Form (map-Form ((f : Form) × FormMeans f) ((s : Stmt) × StmtMeans s) ((w : When) × WhenMeans w) Form Stmt When (λ e. e.0) (λ e. e.0) (λ e. e.0) y))
  form_layer (Form-F.Filt name name_at include exclude) input values = from_rolled (Form-F.Filt name name_at include exclude) input values refl refl refl
  form_layer (Form-F.Put target operands) input values = from_rolled (Form-F.Put target operands) input values refl refl refl
  form_layer (Form-F.If cond first None) input values = from_rolled (Form-F.If cond first.0 None) input values refl refl
      (choice_means (look body cond input values) (holds body cond input values) _ _ _ _ (look_means body cond input values) (first.1 input values) refl)
  form_layer (Form-F.If cond first (Some other)) input values = from_rolled (Form-F.If cond first.0 (Some other.0)) input values refl refl
      (choice_means (look body cond input values) (holds body cond input values) _ _ _ _ (look_means body cond input values) (first.1 input values) (other.1 input values))
  form_layer (Form-F.Pick subject whens None) input values = from_rolled (Form-F.Pick subject (map (λ e. e.0) whens) None) input values refl refl (picks subject whens _ _ input values refl)
  form_layer (Form-F.Pick subject whens (Some other)) input values = from_rolled (Form-F.Pick subject (map (λ e. e.0) whens) (Some other.0)) input values refl refl (picks subject whens _ _ input values (other.1 input values))
  form_layer (Form-F.Do block) input values = from_rolled (Form-F.Do (map (λ e. e.0) block)) input values refl refl (turns block input values)
  form_layer (Form-F.Write parts) input values = from_rolled (Form-F.Write parts) input values refl refl refl
  form_layer (Form-F.Exit code) input values = from_rolled (Form-F.Exit code) input values refl refl refl

  stmt_layer : (y : Stmt-F ((f : Form) × FormMeans f) ((s : Stmt) × StmtMeans s) ((w : When) × WhenMeans w)) → StmtMeans (roll-Stmt (map-Stmt ((f : Form) × FormMeans f) ((s : Stmt) × StmtMeans s) ((w : When) × WhenMeans w) Form Stmt When (λ e. e.0) (λ e. e.0) (λ e. e.0) y))
  stmt_layer y input values =
      let parts = map-Stmt ((f : Form) × FormMeans f) ((s : Stmt) × StmtMeans s) ((w : When) × WhenMeans w) Form Stmt When (λ e. e.0) (λ e. e.0) (λ e. e.0) y in
      ap (λ (f : Story). (f input values).outcome) (fold-roll-Stmt Story Story Chapter (tell_form kind body) tell_stmt (tell_when body) parts) ∙ y.form.1 input values
      ∙ sym (ap (λ (f : Action). f input values) (fold-roll-Stmt Action Action Arm (form_step kind body) stmt_step (when_step body) parts))

  when_layer : (y : When-F ((f : Form) × FormMeans f) ((s : Stmt) × StmtMeans s) ((w : When) × WhenMeans w)) → WhenMeans (roll-When (map-When ((f : Form) × FormMeans f) ((s : Stmt) × StmtMeans s) ((w : When) × WhenMeans w) Form Stmt When (λ e. e.0) (λ e. e.0) (λ e. e.0) y))
  when_layer y input values =
      let parts = map-When ((f : Form) × FormMeans f) ((s : Stmt) × StmtMeans s) ((w : When) × WhenMeans w) Form Stmt When (λ e. e.0) (λ e. e.0) (λ e. e.0) y in
      let tells = fold-roll-When Story Story Chapter (tell_form kind body) tell_stmt (tell_when body) parts in
      let means = fold-roll-When Action Action Arm (form_step kind body) stmt_step (when_step body) parts in (
        λ subject. ap (λ (c : Chapter). (c.look subject input values).holds) tells ∙ when_means body subject y.test input values ∙ sym (ap (λ (a : Arm). a.test subject input values) means),
        ap (λ (c : Chapter). (c.body input values).outcome) tells ∙ y.body.1 input values ∙ sym (ap (λ (a : Arm). a.body input values) means),
      )

  stmt_means : (s : Stmt) → StmtMeans s
  stmt_means = ind-Stmt FormMeans StmtMeans WhenMeans
      (λ x y is. subst (λ z. FormMeans (roll-Form z)) is (form_layer y))
      (λ x y is. subst (λ z. StmtMeans (roll-Stmt z)) is (stmt_layer y))
      (λ x y is. subst (λ z. WhenMeans (roll-When z)) is (when_layer y))

  pub body_means : (ss : List Stmt) (input : Input) (values : Values) → (tell_in_turn (map (story kind body) ss) input values).outcome ≡ in_turn (map (meaning kind body) ss) input values
  body_means [] input values = refl
  body_means (s ∷ ss) input values =
      then_means (story kind body s input values) (meaning kind body s input values) (tell_in_turn (map (story kind body) ss) input) (in_turn (map (meaning kind body) ss) input) (stmt_means s input values) (body_means ss input)

pub story_means : (routine : Routine) (kind : Kind) (input : Input) (values : Values) → (story_of routine kind input values).outcome ≡ meaning_of routine kind input values
story_means routine kind input values = body_means kind routine.body routine.body input values
