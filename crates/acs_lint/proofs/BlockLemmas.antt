-- Statements that are never begun.
use Rattle.std.proofs.Common.{◌≡◌, ℕ, Bool, true, false, List, [], ◌∷◌, ◌++◌, map, refl, sym, ap, ◌∙◌, append_assoc}
use Rattle.std.specs.Prelude.{if◌then◌else◌}
use Rattle.std.specs.List.{AllByRecursion}
use Rattle.std.proofs.lemmas.List.{map-append}
use Rattle.acs_trace.proofs.ExitLemmas.{stmt_exits}
use Rattle.acs_trace.proofs.LintLemmas.{nothing_behind}
use Rattle.acs_trace.proofs.MeansLemmas.{body_means}
use Rattle.acs_trace.specs.Lint.{Exits, always_exits}
use Rattle.acs_trace.specs.Story.{Story, Told, no_story, story, tell_in_turn, then_tell, told_after}
use Rattle.acs_tree.specs.declared.ending.Ending.{Ending}
use Rattle.acs_tree.specs.declared.ending.Ending.TheVariants as ending
use Rattle.acs_tree.specs.declared.input.Input.{Input}
use Rattle.acs_tree.specs.declared.kind.Kind.{Kind}
use Rattle.acs_tree.specs.declared.routine.Routine.{Routine}
use Rattle.acs_tree.specs.declared.routine.Stmt.{Stmt}
use Rattle.acs_tree.specs.declared.values.Values.{Values}
use Rattle.acs_tree.specs.Meaning.{in_turn, meaning}
use Rattle.acs_tree.specs.Outcome.{Action, Outcome, after, behind, nothing, then_do}
use Rattle.acs_lint.specs.Blocks.{behind_exit, behind_in}
use Rattle.acs_lint.specs.Meant.{IsBehind, IsBlock, IsFinding}

-- nothing is told behind an EXIT

told_after_same : (e : Ending) (first : Told) (one other : Values → Told) → ((values : Values) → one values ≡ other values) → told_after e first one ≡ told_after e first other
told_after_same ending.Falls first one other f = ap (λ (t : Told). record { outcome = behind first.outcome.lines t.outcome; events = first.events ++ t.events }) (f first.outcome.values)
told_after_same (ending.Exit code) first one other f = refl

nothing_told : (before behind : List Story) (one : Story) (input : Input) (values : Values) → ((values : Values) → (code : ℕ) × ((one input values).outcome.ending ≡ ending.Exit code))
    → tell_in_turn (before ++ one ∷ behind) input values ≡ tell_in_turn (before ++ one ∷ []) input values
nothing_told [] behind one input values e =
    let cut : (next : Values → Told) → then_tell (one input values) next ≡ one input values = λ next. ap (λ (o : Ending). told_after o (one input values) next) (e values).1 in
    cut (tell_in_turn behind input) ∙ sym (cut (tell_in_turn [] input))
nothing_told (first ∷ before) behind one input values e =
    told_after_same (first input values).outcome.ending (first input values) (tell_in_turn (before ++ one ∷ behind) input) (tell_in_turn (before ++ one ∷ []) input) (λ v. nothing_told before behind one input v e)

-- a story ends as its statement does
tells_end : (told : Told) (input : Input) → (then_tell told (no_story input)).outcome.ending ≡ told.outcome.ending
tells_end told input = cases told.outcome.ending refl
  where
    cases : (e : Ending) → told.outcome.ending ≡ e → (told_after e told (no_story input)).outcome.ending ≡ told.outcome.ending
    cases ending.Falls e = sym e
    cases (ending.Exit code) e = refl

does_end : (outcome : Outcome) (input : Input) → (then_do outcome (nothing input)).ending ≡ outcome.ending
does_end outcome input = cases outcome.ending refl
  where
    cases : (e : Ending) → outcome.ending ≡ e → (after e outcome (nothing input)).ending ≡ outcome.ending
    cases ending.Falls e = sym e
    cases (ending.Exit code) e = refl

story_ends : (kind : Kind) (body : List Stmt) (s : Stmt) (input : Input) (values : Values) → (story kind body s input values).outcome.ending ≡ (meaning kind body s input values).ending
story_ends kind body s input values =
    sym (tells_end (story kind body s input values) input) ∙ ap (λ (o : Outcome). o.ending) (body_means kind body (s ∷ []) input values) ∙ does_end (meaning kind body s input values) input

module _ (routine : Routine) (block : List Stmt) (is_block : IsBlock routine block) where
  same_meaning : (kind : Kind) (before behind : List Stmt) (exiting : Stmt) → always_exits exiting ≡ true → block ≡ before ++ exiting ∷ behind → (input : Input) (values : Values)
      → in_turn (map (meaning kind routine.body) block) input values ≡ in_turn (map (meaning kind routine.body) (before ++ exiting ∷ [])) input values
  same_meaning kind before behind exiting x e input values =
      ap (λ (b : List Stmt). in_turn (map (meaning kind routine.body) b) input values) e
      ∙ ap (λ (actions : List Action). in_turn actions input values) (map-append (meaning kind routine.body) before (exiting ∷ behind))
      ∙ nothing_behind (map (meaning kind routine.body) before) (map (meaning kind routine.body) behind) (meaning kind routine.body exiting) input values (stmt_exits kind routine.body exiting x)
      ∙ sym (ap (λ (actions : List Action). in_turn actions input values) (map-append (meaning kind routine.body) before (exiting ∷ [])))

  same_story : (kind : Kind) (before behind : List Stmt) (exiting : Stmt) → always_exits exiting ≡ true → block ≡ before ++ exiting ∷ behind → (input : Input) (values : Values)
      → tell_in_turn (map (story kind routine.body) block) input values ≡ tell_in_turn (map (story kind routine.body) (before ++ exiting ∷ [])) input values
  same_story kind before behind exiting x e input values =
      ap (λ (b : List Stmt). tell_in_turn (map (story kind routine.body) b) input values) e
      ∙ ap (λ (ss : List Story). tell_in_turn ss input values) (map-append (story kind routine.body) before (exiting ∷ behind))
      ∙ nothing_told (map (story kind routine.body) before) (map (story kind routine.body) behind) (story kind routine.body exiting) input values
      (λ v. let out = stmt_exits kind routine.body exiting x input v in (out.0, story_ends kind routine.body exiting input v ∙ out.1))
      ∙ sym (ap (λ (ss : List Story). tell_in_turn ss input values) (map-append (story kind routine.body) before (exiting ∷ [])))

  behind_one : (before : List Stmt) (exiting : Stmt) (others : List Stmt) → block ≡ before ++ exiting ∷ others → always_exits exiting ≡ true → AllByRecursion (IsFinding routine) (behind_exit exiting.at others)
  behind_one before exiting [] e x = tt
  behind_one before exiting (next ∷ others) e x = (
    record {
      block = block;
      is_block = is_block;
      before = before;
      exiting = exiting;
      next = next;
      behind = others;
      block_is = e;
      statement_is = refl;
      since_is = refl;
      exits = λ kind. stmt_exits kind routine.body exiting x;
      never_begun = λ kind. same_story kind before (next ∷ others) exiting x e;
      means_the_same = λ kind. same_meaning kind before (next ∷ others) exiting x e;
    },
    tt,
  )

  pub behind_all : (before others : List Stmt) → block ≡ before ++ others → AllByRecursion (IsFinding routine) (behind_in others)
  behind_all before [] e = tt
  behind_all before (s ∷ others) e = step (λ f. behind_all (before ++ s ∷ []) others f) (always_exits s) refl
    where
      step : (block ≡ (before ++ s ∷ []) ++ others → AllByRecursion (IsFinding routine) (behind_in others)) → (b : Bool) → always_exits s ≡ b → AllByRecursion (IsFinding routine) (if b then behind_exit s.at others else behind_in others)
      step more true x = behind_one before s others e x
      step more false x = more (e ∙ sym (append_assoc before (s ∷ []) others))
