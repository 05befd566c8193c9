-- Statements that end by an EXIT whatever the input is.
use Rattle.std.proofs.Common.{◌≡◌, ◌&&◌, ◌||◌, ℕ, Bool, true, false, List, [], ◌∷◌, map, Option, None, Some, refl, sym, ap, ◌∙◌, subst}
use Rattle.std.specs.Prelude.{if◌then◌else◌}
use Rattle.std.specs.List.{list_any, list_all}
use Rattle.acs_tree.specs.declared.ending.Ending.{Ending}
use Rattle.acs_tree.specs.declared.ending.Ending.TheVariants as ending
use Rattle.acs_tree.specs.declared.input.Input.{Input}
use Rattle.acs_tree.specs.declared.kind.Kind.{Kind}
use Rattle.acs_tree.specs.declared.routine.Form.{Form, fold-Form, roll-Form, map-Form}
use Rattle.acs_tree.specs.declared.routine.Form.TheOpen.{Form-F, Stmt-F, When-F}
use Rattle.acs_tree.specs.declared.routine.Form.TheFolds.{ind-Stmt, fold-roll-Form, fold-roll-Stmt, fold-roll-When}
use Rattle.acs_tree.specs.declared.routine.Ref.{Ref}
use Rattle.acs_tree.specs.declared.routine.Stmt.{Stmt, roll-Stmt, map-Stmt, fold-Stmt}
use Rattle.acs_tree.specs.declared.routine.When.{When, roll-When, map-When, fold-When}
use Rattle.acs_tree.specs.declared.values.Values.{Values}
use Rattle.acs_tree.specs.Conditions.{holds}
use Rattle.acs_tree.specs.Meaning.{Arm, choice, code_of, first_of, form_step, in_turn, meaning, perhaps, stmt_step, when_step, writes}
use Rattle.acs_tree.specs.Outcome.{Action, Outcome, after, behind, exits, falls, nothing, then_do}
use Rattle.acs_tree.specs.Setting.{sets}
use Rattle.acs_trace.specs.Inner.Follows.{arm_of, form_meaning}
use Rattle.acs_trace.specs.Lint.{Exits, always_exits, exits_form, exits_or_not, exits_stmt, exits_when}

abbrev exits_of_form : Form → Bool
exits_of_form = fold-Form Bool Bool Bool exits_form exits_stmt exits_when

abbrev exits_of_when : When → Bool
exits_of_when = fold-When Bool Bool Bool exits_form exits_stmt exits_when

and_left : (a b : Bool) → (a && b) ≡ true → a ≡ true
and_left true b h = refl
and_left false b h = h

and_right : (a b : Bool) → (a && b) ≡ true → b ≡ true
and_right true b h = h
and_right false b h = subst (λ (t : Bool). (if t then b else true) ≡ true) h refl

or_cases : (a b : Bool) {Q : Type 0} → (a || b) ≡ true → (a ≡ true → Q) → (b ≡ true → Q) → Q
or_cases true b h f g = f refl
or_cases false b h f g = g h

abbrev EndsBy : Outcome → Type 0
EndsBy outcome = (code : ℕ) × (outcome.ending ≡ ending.Exit code)

never : (outcome : Outcome) → false ≡ true → EndsBy outcome
never outcome h = subst (λ (t : Bool). EndsBy (if t then outcome else exits 0 outcome.values)) h (0, refl)

head_ends : (first : Outcome) (next : Values → Outcome) → EndsBy first → EndsBy (then_do first next)
head_ends first next e = (e.0, ap (λ (o : Ending). (after o first next).ending) e.1 ∙ e.1)

tail_ends : (first : Outcome) (next : Values → Outcome) → ((values : Values) → EndsBy (next values)) → EndsBy (then_do first next)
tail_ends first next f = cases first.ending refl
  where
    cases : (o : Ending) → first.ending ≡ o → EndsBy (after o first next)
    cases ending.Falls e = f first.values
    cases (ending.Exit code) e = (code, e)

choice_ends : (c : Bool) (one other : Outcome) → EndsBy one → EndsBy other → EndsBy (if c then one else other)
choice_ends true one other e f = e
choice_ends false one other e f = f

module _ (kind : Kind) (body : List Stmt) where
  abbrev FormExits : Form → Type 0
  FormExits form = exits_of_form form ≡ true → Exits (form_meaning kind body form)

  abbrev StmtExits : Stmt → Type 0
  StmtExits s = always_exits s ≡ true → Exits (meaning kind body s)

  abbrev WhenExits : When → Type 0
  WhenExits arm = exits_of_when arm ≡ true → Exits ((arm_of kind body arm).body)

  turn_exits : (ss : List ((s : Stmt) × StmtExits s)) → list_any (λ (ends : Bool). ends) (map always_exits (map (λ e. e.0) ss)) ≡ true → Exits (in_turn (map (meaning kind body) (map (λ e. e.0) ss)))
  turn_exits [] h input values = never (falls values) h
  turn_exits (s ∷ ss) h input values =
      or_cases (always_exits s.0) (list_any (λ (ends : Bool). ends) (map always_exits (map (λ e. e.0) ss))) h
      (λ e. head_ends (meaning kind body s.0 input values) (in_turn (map (meaning kind body) (map (λ e. e.0) ss)) input) (s.1 e input values))
      (λ e. tail_ends (meaning kind body s.0 input values) (in_turn (map (meaning kind body) (map (λ e. e.0) ss)) input) (turn_exits ss e input))

  pick_exits : (subject : Option Ref) (ws : List ((w : When) × WhenExits w)) (other : Action) → list_all (λ (ends : Bool). ends) (map exits_of_when (map (λ e. e.0) ws)) ≡ true → Exits other → Exits (first_of subject (map (arm_of kind body) (map (λ e. e.0) ws)) other)
  pick_exits subject [] other h e input values = e input values
  pick_exits subject (w ∷ ws) other h e input values =
      choice_ends ((arm_of kind body w.0).test subject input values) ((arm_of kind body w.0).body input values) (first_of subject (map (arm_of kind body) (map (λ x. x.0) ws)) other input values)
      (w.1 (and_left (exits_of_when w.0) (list_all (λ (ends : Bool). ends) (map exits_of_when (map (λ x. x.0) ws))) h) input values)
      (pick_exits subject ws other (and_right (exits_of_when w.0) (list_all (λ (ends : Bool). ends) (map exits_of_when (map (λ x. x.0) ws))) h) e input values)

  from_rolled : (parts : Form-F Form Stmt When) → (exits_form (map-Form Form Stmt When Bool Bool Bool exits_of_form always_exits exits_of_when parts) ≡ true → Exits (form_step kind body (map-Form Form Stmt When Action Action Arm (form_meaning kind body) (meaning kind body) (arm_of kind body) parts))) → FormExits (roll-Form parts)
  from_rolled parts f h =
      subst Exits (sym (fold-roll-Form Action Action Arm (form_step kind body) stmt_step (when_step body) parts)) (f (sym (fold-roll-Form Bool Bool Bool exits_form exits_stmt exits_when parts) ∙ h))

  form_layer : (y : Form-F ((f : Form) × FormExits f) ((s : Stmt) × StmtExits s) ((w : When) × WhenExits w)) → FormExits (roll-Form (map-Form ((f : Form) × FormExits f) ((s : Stmt) × StmtExits s) ((w : When) × WhenExits w) Form Stmt When (λ e. e.0) (λ e. e.0) (λ e. e.0) y))
  form_layer (Form-F.Filt name name_at include exclude) = from_rolled (Form-F.Filt name name_at include exclude) (λ h input values. never (falls values) h)
  form_layer (Form-F.Put target operands) = from_rolled (Form-F.Put target operands) (λ h input values. never (sets kind target operands input values) h)
  form_layer (Form-F.If cond first None) = from_rolled (Form-F.If cond first.0 None) (λ h input values. never (choice (holds body cond) (meaning kind body first.0) nothing input values) (and_right (always_exits first.0) false h))
  form_layer (Form-F.If cond first (Some other)) = from_rolled (Form-F.If cond first.0 (Some other.0)) (λ h input values.
      choice_ends (holds body cond input values) (meaning kind body first.0 input values) (meaning kind body other.0 input values)
      (first.1 (and_left (always_exits first.0) (always_exits other.0) h) input values) (other.1 (and_right (always_exits first.0) (always_exits other.0) h) input values))
  form_layer (Form-F.Pick subject whens None) = from_rolled (Form-F.Pick subject (map (λ e. e.0) whens) None) (λ h input values. never (first_of subject (map (arm_of kind body) (map (λ e. e.0) whens)) nothing input values) (and_right (list_all (λ (ends : Bool). ends) (map exits_of_when (map (λ e. e.0) whens))) false h))
  form_layer (Form-F.Pick subject whens (Some other)) = from_rolled (Form-F.Pick subject (map (λ e. e.0) whens) (Some other.0)) (λ h.
      pick_exits subject whens (meaning kind body other.0) (and_left (list_all (λ (ends : Bool). ends) (map exits_of_when (map (λ e. e.0) whens))) (always_exits other.0) h) (other.1 (and_right (list_all (λ (ends : Bool). ends) (map exits_of_when (map (λ e. e.0) whens))) (always_exits other.0) h)))
  form_layer (Form-F.Do block) = from_rolled (Form-F.Do (map (λ e. e.0) block)) (turn_exits block)
  form_layer (Form-F.Write parts) = from_rolled (Form-F.Write parts) (λ h input values. never (writes parts input values) h)
  form_layer (Form-F.Exit code) = from_rolled (Form-F.Exit code) (λ h input values. (code_of code, refl))

  stmt_layer : (y : Stmt-F ((f : Form) × FormExits f) ((s : Stmt) × StmtExits s) ((w : When) × WhenExits w)) → StmtExits (roll-Stmt (map-Stmt ((f : Form) × FormExits f) ((s : Stmt) × StmtExits s) ((w : When) × WhenExits w) Form Stmt When (λ e. e.0) (λ e. e.0) (λ e. e.0) y))
  stmt_layer y h =
      let parts = map-Stmt ((f : Form) × FormExits f) ((s : Stmt) × StmtExits s) ((w : When) × WhenExits w) Form Stmt When (λ e. e.0) (λ e. e.0) (λ e. e.0) y in
      subst Exits (sym (fold-roll-Stmt Action Action Arm (form_step kind body) stmt_step (when_step body) parts)) (y.form.1 (sym (fold-roll-Stmt Bool Bool Bool exits_form exits_stmt exits_when parts) ∙ h))

  when_layer : (y : When-F ((f : Form) × FormExits f) ((s : Stmt) × StmtExits s) ((w : When) × WhenExits w)) → WhenExits (roll-When (map-When ((f : Form) × FormExits f) ((s : Stmt) × StmtExits s) ((w : When) × WhenExits w) Form Stmt When (λ e. e.0) (λ e. e.0) (λ e. e.0) y))
  when_layer y h =
      let parts = map-When ((f : Form) × FormExits f) ((s : Stmt) × StmtExits s) ((w : When) × WhenExits w) Form Stmt When (λ e. e.0) (λ e. e.0) (λ e. e.0) y in
      subst (λ (a : Arm). Exits a.body) (sym (fold-roll-When Action Action Arm (form_step kind body) stmt_step (when_step body) parts)) (y.body.1 (sym (fold-roll-When Bool Bool Bool exits_form exits_stmt exits_when parts) ∙ h))

  pub stmt_exits : (s : Stmt) → StmtExits s
  stmt_exits = ind-Stmt FormExits StmtExits WhenExits
      (λ x y is. subst (λ z. FormExits (roll-Form z)) is (form_layer y))
      (λ x y is. subst (λ z. StmtExits (roll-Stmt z)) is (stmt_layer y))
      (λ x y is. subst (λ z. WhenExits (roll-When z)) is (when_layer y))
