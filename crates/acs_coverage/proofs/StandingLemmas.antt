-- What is told of a routine stands at its points.
use Rattle.std.specs.Prelude.{Option, None, Some, flat_map, if◌then◌else◌}
use Rattle.std.proofs.Common.{◌≡◌, ◌⊎◌, ◌++◌, ℕ, Bool, true, false, List, [], ◌∷◌, map, refl, sym, ap, ◌∙◌, subst, inl, inr, append_assoc}
use Rattle.acs_tree.specs.declared.ending.Ending.{Ending}
use Rattle.acs_tree.specs.declared.ending.Ending.TheVariants as ending
use Rattle.acs_tree.specs.declared.input.Input.{Input}
use Rattle.acs_tree.specs.declared.kind.Kind.{Kind}
use Rattle.acs_tree.specs.declared.routine.Compare.TheVariants.{Eq}
use Rattle.acs_tree.specs.declared.routine.Cond.{Cond, roll-Cond, map-Cond}
use Rattle.acs_tree.specs.declared.routine.Cond.TheOpen.{Cond-F}
use Rattle.acs_tree.specs.declared.routine.Cond.TheFolds.{fold-roll-Cond, ind-Cond}
use Rattle.acs_tree.specs.declared.routine.Form.{Form, roll-Form, map-Form}
use Rattle.acs_tree.specs.declared.routine.Form.TheOpen.{Form-F, Stmt-F, When-F}
use Rattle.acs_tree.specs.declared.routine.Form.TheFolds.{ind-Stmt, fold-roll-Form, fold-roll-Stmt, fold-roll-When}
use Rattle.acs_tree.specs.declared.routine.Operand.{Operand}
use Rattle.acs_tree.specs.declared.routine.Ref.{Ref}
use Rattle.acs_tree.specs.declared.routine.Routine.{Routine}
use Rattle.acs_tree.specs.declared.routine.Stmt.{Stmt, roll-Stmt, map-Stmt}
use Rattle.acs_tree.specs.declared.routine.When.{When, roll-When, map-When}
use Rattle.acs_tree.specs.declared.routine.WhenTest.{WhenTest}
use Rattle.acs_tree.specs.declared.routine.WhenTest.TheVariants.{Any, Holds}
use Rattle.acs_tree.specs.declared.values.Values.{Values}
use Rattle.acs_trace.specs.declared.event.Event.{Event}
use Rattle.acs_trace.specs.declared.event.Event.TheVariants as events
use Rattle.acs_trace.specs.Inner.Follows.{chapter_of, story_of_form}
use Rattle.acs_trace.specs.Sights.{Look, Sight, both, either, look, look_any, look_step, look_test, look_when, seen_behind}
use Rattle.acs_trace.specs.Story.{Chapter, Story, Told, first_told, perhaps_told, story, story_of, tell_choice, tell_form, tell_in_turn, tell_stmt, tell_when, then_tell, told_after}
use Rattle.acs_coverage.specs.Inner.Parts.{points_of_form, points_of_when}
use Rattle.acs_coverage.specs.Points.{comparisons_of, comparisons_with, compared_with, cond_step, form_step, or_none, points_in, points_of, points_of_test, stmt_step, when_step}
use Rattle.acs_coverage.specs.Standing.{AllStand, IsAmong, StandsAt}
use Rattle.acs_coverage.specs.declared.point.Point.{Point}
use Rattle.acs_coverage.specs.declared.point.Point.TheVariants as points

-- one of some points is one of more

among_left : (point : Point) (one two : List Point) → IsAmong point one → IsAmong point (one ++ two)
among_left point [] two is = absurd is
among_left point (other ∷ others) two is = elim is [
  | inl same ↦ inl same
  | inr later ↦ inr (among_left point others two later)
]

among_right : (point : Point) (one two : List Point) → IsAmong point two → IsAmong point (one ++ two)
among_right point [] two is = is
among_right point (other ∷ others) two is = inr (among_right point others two is)

stands_left : (one two : List Point) (event : Event) → StandsAt one event → StandsAt (one ++ two) event
stands_left one two (events.Ran at) is = among_left (points.Statement at) one two is
stands_left one two (events.Compared left op right value holds) is = among_left (points.Comparison left op right) one two is
stands_left one two (events.Taken at) is = among_left (points.When at) one two is
stands_left one two (events.Set target value) is = tt
stands_left one two (events.Wrote line) is = tt
stands_left one two (events.Exited code) is = tt

stands_right : (one two : List Point) (event : Event) → StandsAt two event → StandsAt (one ++ two) event
stands_right one two (events.Ran at) is = among_right (points.Statement at) one two is
stands_right one two (events.Compared left op right value holds) is = among_right (points.Comparison left op right) one two is
stands_right one two (events.Taken at) is = among_right (points.When at) one two is
stands_right one two (events.Set target value) is = tt
stands_right one two (events.Wrote line) is = tt
stands_right one two (events.Exited code) is = tt

all_left : (one two : List Point) (told : List Event) → AllStand one told → AllStand (one ++ two) told
all_left one two [] is = tt
all_left one two (event ∷ told) is = (stands_left one two event is.0, all_left one two told is.1)

all_right : (one two : List Point) (told : List Event) → AllStand two told → AllStand (one ++ two) told
all_right one two [] is = tt
all_right one two (event ∷ told) is = (stands_right one two event is.0, all_right one two told is.1)

all_behind : (ps : List Point) (first next : List Event) → AllStand ps first → AllStand ps next → AllStand ps (first ++ next)
all_behind ps [] next is more = more
all_behind ps (event ∷ first) next is more = (is.0, all_behind ps first next is.1 more)

-- conditions

both_stand : (ps : List Point) (one two : Sight) → AllStand ps one.events → AllStand ps two.events → AllStand ps (both one two).events
both_stand ps one two is more = cases one.holds
  where
    cases : (holds : Bool) → AllStand ps (if holds then seen_behind one.events two else one).events
    cases true = all_behind ps one.events two.events is more
    cases false = is

either_stand : (ps : List Point) (one two : Sight) → AllStand ps one.events → AllStand ps two.events → AllStand ps (either one two).events
either_stand ps one two is more = cases one.holds
  where
    cases : (holds : Bool) → AllStand ps (if holds then one else seen_behind one.events two).events
    cases true = is
    cases false = all_behind ps one.events two.events is more

abbrev CondStands : List Stmt → Cond → Type 0
CondStands body cond = (input : Input) (values : Values) → AllStand (comparisons_of cond) (look body cond input values).events

rolled_stands : (body : List Stmt) (parts : Cond-F Cond) (input : Input) (values : Values)
    → AllStand (cond_step (map-Cond Cond (List Point) comparisons_of parts)) (look_step body (map-Cond Cond Look (look body) parts) input values).events
    → AllStand (comparisons_of (roll-Cond parts)) (look body (roll-Cond parts) input values).events
rolled_stands body parts input values is =
    subst (λ (ps : List Point). AllStand ps (look body (roll-Cond parts) input values).events) (sym (fold-roll-Cond (List Point) cond_step parts))
    (subst (λ (l : Look). AllStand (cond_step (map-Cond Cond (List Point) comparisons_of parts)) (l input values).events) (sym (fold-roll-Cond Look (look_step body) parts)) is)

cond_layer : (body : List Stmt) (y : Cond-F ((c : Cond) × CondStands body c)) → CondStands body (roll-Cond (map-Cond ((c : Cond) × CondStands body c) Cond (λ e. e.0) y))
cond_layer body (Cond-F.And one two) input values =
    rolled_stands body (Cond-F.And one.0 two.0) input values
    (both_stand (comparisons_of one.0 ++ comparisons_of two.0) (look body one.0 input values) (look body two.0 input values)
    (all_left (comparisons_of one.0) (comparisons_of two.0) (look body one.0 input values).events (one.1 input values))
    (all_right (comparisons_of one.0) (comparisons_of two.0) (look body two.0 input values).events (two.1 input values)))
cond_layer body (Cond-F.Or one two) input values =
    rolled_stands body (Cond-F.Or one.0 two.0) input values
    (either_stand (comparisons_of one.0 ++ comparisons_of two.0) (look body one.0 input values) (look body two.0 input values)
    (all_left (comparisons_of one.0) (comparisons_of two.0) (look body one.0 input values).events (one.1 input values))
    (all_right (comparisons_of one.0) (comparisons_of two.0) (look body two.0 input values).events (two.1 input values)))
cond_layer body (Cond-F.Test left op op_at right) input values = rolled_stands body (Cond-F.Test left op op_at right) input values (inl refl, tt)

look_stands : (body : List Stmt) (cond : Cond) → CondStands body cond
look_stands body = ind-Cond (CondStands body) (λ x y is. subst (λ z. CondStands body (roll-Cond z)) is (cond_layer body y))

any_stand : (body : List Stmt) (subject : Ref) (items : List Operand) (input : Input) (values : Values) → AllStand (map (compared_with subject) items) (look_any body subject items input values).events
any_stand body subject [] input values = tt
any_stand body subject (item ∷ items) input values =
    either_stand (compared_with subject item ∷ map (compared_with subject) items) (look_test body subject Eq item input values) (look_any body subject items input values) (inl refl, tt)
    (all_right (compared_with subject item ∷ []) (map (compared_with subject) items) (look_any body subject items input values).events (any_stand body subject items input values))

when_stands : (body : List Stmt) (subject : Option Ref) (test : WhenTest) (input : Input) (values : Values) → AllStand (points_of_test subject test) (look_when body subject test input values).events
when_stands body subject (Holds cond) input values = look_stands body cond input values
when_stands body (Some subject) (Any items) input values = any_stand body subject items input values
when_stands body None (Any items) input values = tt

-- choices, and one after the other

choice_stands : (ps : List Point) (sight : Sight) (first other : Told) → AllStand ps sight.events → AllStand ps first.events → AllStand ps other.events → AllStand ps (tell_choice sight first other).events
choice_stands ps sight first other seen is more = all_behind ps sight.events (if sight.holds then first else other).events seen (cases sight.holds)
  where
    cases : (holds : Bool) → AllStand ps (if holds then first else other).events
    cases true = is
    cases false = more

then_stands : (ps : List Point) (first : Told) (next : Values → Told) → AllStand ps first.events → ((values : Values) → AllStand ps (next values).events) → AllStand ps (then_tell first next).events
then_stands ps first next is more = cases first.outcome.ending
  where
    cases : (o : Ending) → AllStand ps (told_after o first next).events
    cases ending.Falls = all_behind ps first.events (next first.outcome.values).events is (more first.outcome.values)
    cases (ending.Exit code) = is

module _ (kind : Kind) (body : List Stmt) where
  abbrev FormStands : Form → Type 0
  FormStands form = (input : Input) (values : Values) → AllStand (points_of_form form) (story_of_form kind body form input values).events

  abbrev StmtStands : Stmt → Type 0
  StmtStands s = (input : Input) (values : Values) → AllStand (points_in s) (story kind body s input values).events

  -- of a WHEN both what it asks and what it does
  abbrev WhenStands : When → Type 0
  WhenStands arm = (subject : Option Ref) (input : Input) (values : Values) →
      AllStand (points_of_when arm subject) ((chapter_of kind body arm).look subject input values).events
      × AllStand (points_of_when arm subject) ((chapter_of kind body arm).body input values).events

  turns : (ss : List ((s : Stmt) × StmtStands s)) (input : Input) (values : Values)
      → AllStand (flat_map (λ (ps : List Point). ps) (map points_in (map (λ e. e.0) ss))) (tell_in_turn (map (story kind body) (map (λ e. e.0) ss)) input values).events
  turns [] input values = tt
  turns (s ∷ ss) input values =
      let rest = flat_map (λ (ps : List Point). ps) (map points_in (map (λ e. e.0) ss)) in
      let next = tell_in_turn (map (story kind body) (map (λ e. e.0) ss)) input in
      then_stands (points_in s.0 ++ rest) (story kind body s.0 input values) next
      (all_left (points_in s.0) rest (story kind body s.0 input values).events (s.1 input values))
      (λ values. all_right (points_in s.0) rest (next values).events (turns ss input values))

  picks : (subject : Option Ref) (ws : List ((w : When) × WhenStands w)) (ps : List Point) (other : Story) (input : Input) (values : Values) → AllStand ps (other input values).events
      → AllStand (flat_map (λ (arm : Option Ref → List Point). arm subject) (map points_of_when (map (λ e. e.0) ws)) ++ ps) (first_told subject (map (chapter_of kind body) (map (λ e. e.0) ws)) other input values).events
  picks subject [] ps other input values is = is
  picks subject (w ∷ ws) ps other input values is =
      let arm = points_of_when w.0 subject in
      let rest = flat_map (λ (arm : Option Ref → List Point). arm subject) (map points_of_when (map (λ e. e.0) ws)) in
      let chapter = chapter_of kind body w.0 in
      let later = first_told subject (map (chapter_of kind body) (map (λ e. e.0) ws)) other input values in
      subst (λ (all : List Point). AllStand all (tell_choice (chapter.look subject input values) (chapter.body input values) later).events) (sym (append_assoc arm rest ps))
      (choice_stands (arm ++ (rest ++ ps)) (chapter.look subject input values) (chapter.body input values) later
      (all_left arm (rest ++ ps) (chapter.look subject input values).events (w.1 subject input values).0)
      (all_left arm (rest ++ ps) (chapter.body input values).events (w.1 subject input values).1)
      (all_right arm (rest ++ ps) later.events (picks subject ws ps other input values is)))

  form_rolled : (parts : Form-F Form Stmt When) {ps : List Point} {tells : Story} (input : Input) (values : Values)
      → form_step (map-Form Form Stmt When (List Point) (List Point) (Option Ref → List Point) points_of_form points_in points_of_when parts) ≡ ps
      → tell_form kind body (map-Form Form Stmt When Story Story Chapter (story_of_form kind body) (story kind body) (chapter_of kind body) parts) ≡ tells
      → AllStand ps (tells input values).events → AllStand (points_of_form (roll-Form parts)) (story_of_form kind body (roll-Form parts) input values).events
  form_rolled parts {ps} {tells} input values p t is =
      subst (λ (all : List Point). AllStand all (story_of_form kind body (roll-Form parts) input values).events)
      (sym (fold-roll-Form (List Point) (List Point) (Option Ref → List Point) form_step stmt_step when_step parts ∙ p))
      (subst (λ (s : Story). AllStand ps (s input values).events) (sym (fold-roll-Form Story Story Chapter (tell_form kind body) tell_stmt (tell_when body) parts ∙ t)) is)

  abbrev Open : Type 0
  Open = Form-F ((f : Form) × FormStands f) ((s : Stmt) × StmtStands s) ((w : When) × WhenStands w)

  form_layer : (y : Open) → FormStands (roll-Form (map-Form ((f : Form) × FormStands f) ((s : Stmt) × StmtStands s) ((w : When) × WhenStands w) Form Stmt When (λ e. e.0) (λ e. e.0) (λ e. e.0) y))
  form_layer (Form-F.Filt name name_at include exclude) input values = form_rolled (Form-F.Filt name name_at include exclude) input values refl refl tt
  form_layer (Form-F.Put target operands) input values = form_rolled (Form-F.Put target operands) input values refl refl (tt, tt)
  form_layer (Form-F.If cond first None) input values =
      let one = comparisons_of cond in
      let two = points_in first.0 ++ [] in
      form_rolled (Form-F.If cond first.0 None) input values refl refl
      (choice_stands (one ++ two) (look body cond input values) (story kind body first.0 input values) _
      (all_left one two (look body cond input values).events (look_stands body cond input values))
      (all_right one two (story kind body first.0 input values).events (all_left (points_in first.0) [] (story kind body first.0 input values).events (first.1 input values))) tt)
  form_layer (Form-F.If cond first (Some other)) input values =
      let one = comparisons_of cond in
      let two = points_in first.0 ++ points_in other.0 in
      form_rolled (Form-F.If cond first.0 (Some other.0)) input values refl refl
      (choice_stands (one ++ two) (look body cond input values) (story kind body first.0 input values) (story kind body other.0 input values)
      (all_left one two (look body cond input values).events (look_stands body cond input values))
      (all_right one two (story kind body first.0 input values).events (all_left (points_in first.0) (points_in other.0) (story kind body first.0 input values).events (first.1 input values)))
      (all_right one two (story kind body other.0 input values).events (all_right (points_in first.0) (points_in other.0) (story kind body other.0 input values).events (other.1 input values))))
  form_layer (Form-F.Pick subject whens None) input values = form_rolled (Form-F.Pick subject (map (λ e. e.0) whens) None) input values refl refl (picks subject whens [] _ input values tt)
  form_layer (Form-F.Pick subject whens (Some other)) input values =
      form_rolled (Form-F.Pick subject (map (λ e. e.0) whens) (Some other.0)) input values refl refl (picks subject whens (points_in other.0) _ input values (other.1 input values))
  form_layer (Form-F.Do block) input values = form_rolled (Form-F.Do (map (λ e. e.0) block)) input values refl refl (turns block input values)
  form_layer (Form-F.Write parts) input values = form_rolled (Form-F.Write parts) input values refl refl (tt, tt)
  form_layer (Form-F.Exit code) input values = form_rolled (Form-F.Exit code) input values refl refl (tt, tt)

  stmt_layer : (y : Stmt-F ((f : Form) × FormStands f) ((s : Stmt) × StmtStands s) ((w : When) × WhenStands w)) → StmtStands (roll-Stmt (map-Stmt ((f : Form) × FormStands f) ((s : Stmt) × StmtStands s) ((w : When) × WhenStands w) Form Stmt When (λ e. e.0) (λ e. e.0) (λ e. e.0) y))
  stmt_layer y input values =
      let parts = map-Stmt ((f : Form) × FormStands f) ((s : Stmt) × StmtStands s) ((w : When) × WhenStands w) Form Stmt When (λ e. e.0) (λ e. e.0) (λ e. e.0) y in
      let form = y.form.0 in
      let told = story_of_form kind body form input values in
      subst (λ (all : List Point). AllStand all (story kind body (roll-Stmt parts) input values).events)
      (sym (fold-roll-Stmt (List Point) (List Point) (Option Ref → List Point) form_step stmt_step when_step parts))
      (subst (λ (s : Story). AllStand (points.Statement y.at ∷ points_of_form form) (s input values).events) (sym (fold-roll-Stmt Story Story Chapter (tell_form kind body) tell_stmt (tell_when body) parts))
      (inl refl, all_right (points.Statement y.at ∷ []) (points_of_form form) told.events (y.form.1 input values)))

  when_layer : (y : When-F ((f : Form) × FormStands f) ((s : Stmt) × StmtStands s) ((w : When) × WhenStands w)) → WhenStands (roll-When (map-When ((f : Form) × FormStands f) ((s : Stmt) × StmtStands s) ((w : When) × WhenStands w) Form Stmt When (λ e. e.0) (λ e. e.0) (λ e. e.0) y))
  when_layer y subject input values =
      let parts = map-When ((f : Form) × FormStands f) ((s : Stmt) × StmtStands s) ((w : When) × WhenStands w) Form Stmt When (λ e. e.0) (λ e. e.0) (λ e. e.0) y in
      let statement = y.body.0 in
      let test = points_of_test subject y.test in
      let ps = points.When y.at ∷ (test ++ points_in statement) in
      let at = fold-roll-When (List Point) (List Point) (Option Ref → List Point) form_step stmt_step when_step parts in
      let tells = fold-roll-When Story Story Chapter (tell_form kind body) tell_stmt (tell_when body) parts in
      let seen = (look_when body subject y.test input values).events in
      let told = (story kind body statement input values).events in (
        subst (λ (p : Option Ref → List Point). AllStand (p subject) ((chapter_of kind body (roll-When parts)).look subject input values).events) (sym at)
            (subst (λ (c : Chapter). AllStand ps (c.look subject input values).events) (sym tells)
            (all_right (points.When y.at ∷ []) (test ++ points_in statement) seen (all_left test (points_in statement) seen (when_stands body subject y.test input values)))),
        subst (λ (p : Option Ref → List Point). AllStand (p subject) ((chapter_of kind body (roll-When parts)).body input values).events) (sym at)
            (subst (λ (c : Chapter). AllStand ps (c.body input values).events) (sym tells)
            (inl refl, all_right (points.When y.at ∷ []) (test ++ points_in statement) told (all_right test (points_in statement) told (y.body.1 input values)))),
      )

  stmt_stands : (s : Stmt) → StmtStands s
  stmt_stands = ind-Stmt FormStands StmtStands WhenStands
      (λ x y is. subst (λ z. FormStands (roll-Form z)) is (form_layer y))
      (λ x y is. subst (λ z. StmtStands (roll-Stmt z)) is (stmt_layer y))
      (λ x y is. subst (λ z. WhenStands (roll-When z)) is (when_layer y))

  pub body_stands : (ss : List Stmt) (input : Input) (values : Values) → AllStand (flat_map points_in ss) (tell_in_turn (map (story kind body) ss) input values).events
  body_stands [] input values = tt
  body_stands (s ∷ ss) input values =
      let rest = flat_map points_in ss in
      let next = tell_in_turn (map (story kind body) ss) input in
      then_stands (points_in s ++ rest) (story kind body s input values) next
      (all_left (points_in s) rest (story kind body s input values).events (stmt_stands s input values))
      (λ values. all_right (points_in s) rest (next values).events (body_stands ss input values))

pub story_stands : (routine : Routine) (kind : Kind) (input : Input) (values : Values) → AllStand (points_of routine) (story_of routine kind input values).events
story_stands routine kind input values = body_stands kind routine.body routine.body input values
