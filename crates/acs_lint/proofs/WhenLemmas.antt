-- WHENs that are never taken.
use Rattle.std.proofs.Common.{◌≡◌, ◌+◌, ◌&&◌, ◌||◌, ℕ, Bool, true, false, List, [], ◌∷◌, ◌++◌, map, nat_le, refl, sym, ap, ◌∙◌, append_assoc}
use Rattle.std.specs.Prelude.{Option, Some, None, unwrap_or, if◌then◌else◌}
use Rattle.std.specs.List.{AllByRecursion, list_any}
use Rattle.acs_trace.proofs.LintLemmas.{arm_never}
use Rattle.acs_trace.proofs.MeansLemmas.{look_means}
use Rattle.acs_trace.specs.Sights.{Sight, either, look_any, look_test, look_when, seen_behind}
use Rattle.acs_trace.specs.Story.{Chapter, Story, Told, first_told, tell_choice, tell_form, tell_stmt, tell_when, told_behind}
use Rattle.acs_tree.specs.declared.input.Input.{Input}
use Rattle.acs_tree.specs.declared.kind.Kind.{Kind}
use Rattle.acs_tree.specs.declared.routine.Compare.TheVariants.{Eq}
use Rattle.acs_tree.specs.declared.routine.Form.TheFolds.{fold_out-When}
use Rattle.acs_tree.specs.declared.routine.Form.TheVariants.{Pick}
use Rattle.acs_tree.specs.declared.routine.Operand.{Operand}
use Rattle.acs_tree.specs.declared.routine.Ref.{Ref}
use Rattle.acs_tree.specs.declared.routine.Routine.{Routine}
use Rattle.acs_tree.specs.declared.routine.Stmt.{Stmt}
use Rattle.acs_tree.specs.declared.routine.When.{When, out-When}
use Rattle.acs_tree.specs.declared.routine.WhenTest.{WhenTest}
use Rattle.acs_tree.specs.declared.routine.WhenTest.TheVariants.{Any, Holds}
use Rattle.acs_tree.specs.declared.values.Values.{Values}
use Rattle.acs_tree.specs.Conditions.{comparison, equals_any, when_holds}
use Rattle.acs_tree.specs.Meaning.{Arm, form_step, stmt_step, when_step}
use Rattle.acs_tree.specs.Outcome.{Action}
use Rattle.acs_tree.specs.Sound.{Among}
use Rattle.acs_lint.specs.Meant.{IsCovered, IsFinding, IsNeverTaken, MeansTheSame, arm_of, chapter_of, chapter_with}
use Rattle.acs_lint.specs.Statements.{statements_of}
use Rattle.acs_lint.specs.Whens.{covered_behind, covered_if, coverer, covers_when, most_tokens_back, test_implied}
use Rattle.acs_lint.proofs.BoolLemmas.{never, right_of}
use Rattle.acs_lint.proofs.CoverLemmas.{when_through}
use Rattle.acs_lint.proofs.ListLemmas.{all_append, any_at}

-- what is looked at holds as it is meant to

either_holds : (one two : Sight) → (either one two).holds ≡ (one.holds || two.holds)
either_holds one two = cases one.holds refl
  where
    cases : (c : Bool) → one.holds ≡ c → (if c then one else seen_behind one.events two).holds ≡ (c || two.holds)
    cases true e = e
    cases false e = refl

any_means : (body : List Stmt) (subject : Ref) (items : List Operand) (input : Input) (values : Values) → (look_any body subject items input values).holds ≡ equals_any body subject items input values
any_means body subject [] input values = refl
any_means body subject (item ∷ items) input values =
    either_holds (look_test body subject Eq item input values) (look_any body subject items input values) ∙ ap (λ (t : Bool). comparison body subject Eq item input values || t) (any_means body subject items input values)

when_means : (body : List Stmt) (subject : Option Ref) (test : WhenTest) (input : Input) (values : Values) → (look_when body subject test input values).holds ≡ when_holds body subject test input values
when_means body None (Holds cond) input values = look_means body cond input values
when_means body (Some subject) (Holds cond) input values = look_means body cond input values
when_means body (Some subject) (Any items) input values = any_means body subject items input values
when_means body None (Any items) input values = refl

arm_tests : (kind : Kind) (body : List Stmt) (arm : When) (subject : Option Ref) (input : Input) (values : Values) → (arm_of kind body arm).test subject input values ≡ when_holds body subject (out-When arm).test input values
arm_tests kind body arm subject input values = ap (λ (a : Arm). a.test subject input values) (fold_out-When Action Action Arm (form_step kind body) stmt_step (when_step body) arm)

chapter_looks : (kind : Kind) (body : List Stmt) (arm : When) (subject : Option Ref) (input : Input) (values : Values) → ((chapter_of kind body arm).look subject input values).holds ≡ when_holds body subject (out-When arm).test input values
chapter_looks kind body arm subject input values =
    ap (λ (c : Chapter). (c.look subject input values).holds) (fold_out-When Story Story Chapter (tell_form kind body) tell_stmt (tell_when body) arm) ∙ when_means body subject (out-When arm).test input values

-- a WHEN that holds only where an earlier one does is not taken
told_never : (subject : Option Ref) (before behind : List Chapter) (chapter : Chapter) (told otherwise : Story) (input : Input) (values : Values)
    → ((chapter.look subject input values).holds ≡ true → list_any (λ (c : Chapter). (c.look subject input values).holds) before ≡ true)
    → first_told subject (before ++ chapter ∷ behind) otherwise input values ≡ first_told subject (before ++ chapter_with chapter told ∷ behind) otherwise input values
told_never subject [] behind chapter told otherwise input values h = none (chapter.look subject input values).holds h
  where
    none : (c : Bool) → (c ≡ true → false ≡ true)
        → told_behind (chapter.look subject input values).events (if c then chapter.body input values else first_told subject behind otherwise input values)
        ≡ told_behind (chapter.look subject input values).events (if c then told input values else first_told subject behind otherwise input values)
    none true g = never (g refl)
    none false g = refl
told_never subject (first ∷ before) behind chapter told otherwise input values h = one (λ g. told_never subject before behind chapter told otherwise input values g) (first.look subject input values).holds h
  where
    one : (((chapter.look subject input values).holds ≡ true → list_any (λ (c : Chapter). (c.look subject input values).holds) before ≡ true)
        → first_told subject (before ++ chapter ∷ behind) otherwise input values ≡ first_told subject (before ++ chapter_with chapter told ∷ behind) otherwise input values)
        → (c : Bool) → ((chapter.look subject input values).holds ≡ true → (c || list_any (λ (c' : Chapter). (c'.look subject input values).holds) before) ≡ true)
        → told_behind (first.look subject input values).events (if c then first.body input values else first_told subject (before ++ chapter ∷ behind) otherwise input values)
        ≡ told_behind (first.look subject input values).events (if c then first.body input values else first_told subject (before ++ chapter_with chapter told ∷ behind) otherwise input values)
    one go true g = refl
    one go false g = ap (λ (t : Told). told_behind (first.look subject input values).events t) (go g)

-- the first WHEN that covers a later one
record FoundWhen (subject : Option Ref) (later : When) (before : List When) (since : ℕ) : Type 0 where
  pub front : List When
  pub earlier : When
  pub rest : List When
  pub before_is : before ≡ front ++ earlier ∷ rest
  pub covers : covers_when subject later earlier ≡ true
  pub at : (out-When earlier).at ≡ since

none_some : {A Q : Type 0} {x : A} → None ≡ Some x → Q
none_some e = absurd cc

found_when : (subject : Option Ref) (later : When) (before : List When) (since : ℕ) → coverer subject later before ≡ Some since → FoundWhen subject later before since
found_when subject later [] since e = none_some e
found_when subject later (arm ∷ arms) since e = step (λ f. found_when subject later arms since f) (covers_when subject later arm) refl e
  where
    step : (coverer subject later arms ≡ Some since → FoundWhen subject later arms since) → (b : Bool) → covers_when subject later arm ≡ b → (if b then Some (out-When arm).at else coverer subject later arms) ≡ Some since → FoundWhen subject later (arm ∷ arms) since
    step go true c f = record { front = []; earlier = arm; rest = arms; before_is = refl; covers = c; at = ap (λ (o : Option ℕ). unwrap_or o 0) f }
    step go false c f =
        let more = go f in
        record { front = arm ∷ more.front; earlier = more.earlier; rest = more.rest; before_is = ap (λ (xs : List When). arm ∷ xs) more.before_is; covers = more.covers; at = more.at }

module _ (routine : Routine) (statement : Stmt) (among : Among statement (statements_of routine)) (subject : Option Ref) (whens : List When) (otherwise : Option Stmt) (is_select : statement.form ≡ Pick subject whens otherwise) where
  abbrev Holds' : When → When → Type 0
  Holds' earlier later = (input : Input) (values : Values) → when_holds routine.body subject (out-When later).test input values ≡ true → when_holds routine.body subject (out-When earlier).test input values ≡ true

  takes_none : (kind : Kind) (front : List When) (earlier : When) (rest : List When) (later : When) (arms : List When) → Holds' earlier later → IsNeverTaken kind routine.body subject (front ++ earlier ∷ rest) later arms
  takes_none kind front earlier rest later arms h told other input values =
      told_never subject (map (chapter_of kind routine.body) (front ++ earlier ∷ rest)) (map (chapter_of kind routine.body) arms) (chapter_of kind routine.body later) told other input values
      (λ e. any_at (λ (c : Chapter). (c.look subject input values).holds) (chapter_of kind routine.body) front earlier rest
      (chapter_looks kind routine.body earlier subject input values ∙ h input values (sym (chapter_looks kind routine.body later subject input values) ∙ e)))

  means_same : (kind : Kind) (front : List When) (earlier : When) (rest : List When) (later : When) (arms : List When) → Holds' earlier later → MeansTheSame kind routine.body subject (front ++ earlier ∷ rest) later arms
  means_same kind front earlier rest later arms h other input values =
      arm_never subject (map (arm_of kind routine.body) (front ++ earlier ∷ rest)) (map (arm_of kind routine.body) arms) (arm_of kind routine.body later) other input values
      (λ e. any_at (λ (a : Arm). a.test subject input values) (arm_of kind routine.body) front earlier rest
      (arm_tests kind routine.body earlier subject input values ∙ h input values (sym (arm_tests kind routine.body later subject input values) ∙ e)))

  covered_one : (before : List When) (later : When) (arms : List When) (since : ℕ) → whens ≡ before ++ later ∷ arms → FoundWhen subject later before since → IsCovered routine (out-When later).at since
  covered_one before later arms since e found =
      let holds : Holds' found.earlier later =
      λ input values. when_through routine.body input values subject (out-When found.earlier).test (out-When later).test (right_of (nat_le (out-When later).at ((out-When found.earlier).at + most_tokens_back)) (test_implied subject (out-When found.earlier).test (out-When later).test) found.covers) in
      record {
        statement = statement;
        among = among;
        subject = subject;
        whens = whens;
        otherwise = otherwise;
        is_select = is_select;
        earlier = found.earlier;
        later = later;
        stand = record {
          before = found.front;
          between = found.rest;
          behind = arms;
          items_are = e ∙ ap (λ (xs : List When). xs ++ later ∷ arms) found.before_is ∙ append_assoc found.front (found.earlier ∷ found.rest) (later ∷ arms);
        };
        arm_is = refl;
        since_is = found.at;
        holds = holds;
        never_taken = λ kind. takes_none kind found.front found.earlier found.rest later arms holds;
        means_the_same = λ kind. means_same kind found.front found.earlier found.rest later arms holds;
      }

  covered_here : (before : List When) (later : When) (arms : List When) → whens ≡ before ++ later ∷ arms → (o : Option ℕ) → coverer subject later before ≡ o → AllByRecursion (IsFinding routine) (covered_if (out-When later).at o)
  covered_here before later arms e None f = tt
  covered_here before later arms e (Some since) f = (covered_one before later arms since e (found_when subject later before since f), tt)

  pub covered_all : (before arms : List When) → whens ≡ before ++ arms → AllByRecursion (IsFinding routine) (covered_behind subject before arms)
  covered_all before [] e = tt
  covered_all before (arm ∷ arms) e =
      all_append (IsFinding routine) (covered_if (out-When arm).at (coverer subject arm before)) (covered_behind subject (before ++ arm ∷ []) arms)
      (covered_here before arm arms e (coverer subject arm before) refl) (covered_all (before ++ arm ∷ []) arms (e ∙ sym (append_assoc before (arm ∷ []) arms)))
