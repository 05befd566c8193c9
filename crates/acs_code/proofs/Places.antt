-- From places told from the end to places told from the front.
use Rattle.std.proofs.Common.{◌≡◌, ◌≤◌, ◌+◌, ◌-◌, ℕ, zero, suc, Bool, true, false, List, [], ◌∷◌, length, Some, refl}
use Rattle.std.proofs.Common.{sym, ap, ◌∙◌, subst, ⊎_elim, arith}
use Rattle.std.specs.Prelude.{if◌then◌else◌, map, slice_get}
use Rattle.std.proofs.lemmas.Bool.{lt-ltb, le-ltb, cases_lt}
use Rattle.std.proofs.lemmas.List.{length-map, append-nil}
use Rattle.dsn_mask.specs.Filter.{FilterLists}
use Rattle.acs_tree.specs.declared.ending.Ending.{Ending}
use Rattle.acs_tree.specs.declared.ending.Ending.TheVariants.{Falls, Exit as ExitWith}
use Rattle.acs_tree.specs.declared.input.Input.{Input}
use Rattle.acs_tree.specs.declared.kind.Kind.{Kind}
use Rattle.acs_tree.specs.declared.routine.Stmt.{Stmt}
use Rattle.acs_tree.specs.declared.values.Values.{Values}
use Rattle.acs_tree.specs.CheckedRoutine.{CheckedRoutine}
use Rattle.acs_tree.specs.Meaning.{in_turn, meaning, meaning_of}
use Rattle.acs_tree.specs.Setting.{with_class}
use Rattle.acs_tree.specs.Outcome.{Outcome, falls, then_do}
use Rattle.acs_code.specs.declared.instr.Instr.{Instr}
use Rattle.acs_code.specs.declared.instr.Instr.TheVariants.{Test, Jump, SetClass, SetGroups, Write, Exit}
use Rattle.acs_code.specs.Machine.{CodeParts, ComesTo, RunsTo, exit, jump, part_class, past_end, probe_holds, set_class}
use Rattle.acs_code.specs.Machine.{set_groups, test, write}
use Rattle.acs_code.specs.Stands.{Goes, GoesForward, StandsFor}
use Rattle.acs_code.specs.Compiled.{filters_of}
use Rattle.acs_code.specs.Inner.Steps.{act}
use Rattle.acs_code.specs.Inner.Upward.{leap, placed, AreBelow, Below, Does}
use Rattle.acs_code.proofs.RunLemmas.{comes_to_one}

module _ (kind : Kind) (filters : List FilterLists) (input : Input) (all : List Instr) where
  -- running in the whole code
  abbrev Runs : ℕ → Values → Outcome → Type 0
  Runs = RunsTo (record { kind = kind; instrs = all; filters = filters }) input

  -- what is to be shown of the rest
  abbrev RunsRest : ℕ → List Instr → Type 0
  RunsRest n is = (left : ℕ) (values : Values) → left ≤ length is → Runs (n - left) values (leap kind filters input left is values)

  -- running on at the next place
  runs_next : (n at : ℕ) (is : List Instr) (values : Values) → at + suc (length is) ≡ n → RunsRest n is → Runs (suc at) values (leap kind filters input (length is) is values)
  runs_next n at is values e rest =
      let here : n - length is ≡ suc at = omega (arith, e) in
      subst (λ k. Runs k values (leap kind filters input (length is) is values)) here (rest (length is) values (omega arith))

  runs_act : (f n at : ℕ) (i : Instr) (is : List Instr) (values : Values) → slice_get all at ≡ Some (placed n i) → Below f (length is) i → at + suc (length is) ≡ n → RunsRest n is
      → Runs at values (act kind filters input i (λ to. leap kind filters input to is) (length is) values)
  runs_act f n at (Test p a b) is values there below e rest = test there (split (probe_holds filters p input values))
    where
      split : (c : Bool) → Runs (if c then n - a else n - b) values (leap kind filters input (if c then a else b) is values)
      split true = rest a values below.0
      split false = rest b values below.1
  runs_act f n at (Jump to) is values there below e rest = jump there (rest to values below)
  runs_act f n at (SetClass p) is values there below e rest = set_class there (runs_next n at is (with_class kind (part_class p input values) values) e rest)
  runs_act f n at (SetGroups groups) is values there below e rest = set_groups there (runs_next n at is (record values { groups = groups }) e rest)
  runs_act f n at (Write parts) is values there below e rest = write there (runs_next n at is values e rest)
  runs_act f n at (Exit code) is values there below e rest = exit there

  -- the instructions from a place on are these
  abbrev StandAt : ℕ → ℕ → List Instr → Type 0
  StandAt n at is = (k : ℕ) → slice_get all (at + k) ≡ slice_get (map (placed n) is) k

  pub runs_rest : (f n at : ℕ) (is : List Instr) → AreBelow f is → at + length is ≡ n → StandAt n at is → RunsRest n is
  runs_rest f n at [] h e stand left values g =
      let here : n - left ≡ at + 0 = omega (arith, e, g) in
      past_end (ap (slice_get all) here ∙ stand 0)
  runs_rest f n at (i ∷ is) h e stand left values g =
      let later : StandAt n (suc at) is = λ k. let next : suc at + k ≡ at + suc k = omega arith in ap (slice_get all) next ∙ stand (suc k) in
      let rest : RunsRest n is = runs_rest f n (suc at) is h.1 (omega (arith, e)) later in
      let none : at ≡ at + 0 = omega arith in
      let there : slice_get all at ≡ Some (placed n i) = ap (slice_get all) none ∙ stand 0 in
      let acts = act kind filters input i (λ to. leap kind filters input to is) (length is) values in
      let leaps = leap kind filters input left is values in
      ⊎_elim (λ here.
      let place : at ≡ n - left = omega (arith, e, here, g) in
      let same : acts ≡ leap kind filters input left (i ∷ is) values = sym (ap (λ b. if b then acts else leaps) (lt-ltb (length is) left here)) in
      subst (λ o. Runs (n - left) values o) same (subst (λ k. Runs k values acts) place (runs_act f n at i is values there h.0 e rest)))
      (λ past.
      let same : leaps ≡ leap kind filters input left (i ∷ is) values = sym (ap (λ b. if b then acts else leaps) (le-ltb (length is) left past)) in
      subst (λ o. Runs (n - left) values o) same (rest left values past))
      (cases_lt (length is) left)

-- running from the front
pub comes_to_leap : (kind : Kind) (filters : List FilterLists) (input : Input) (f : ℕ) (is : List Instr) (values : Values) → AreBelow f is
    → ComesTo (record { kind = kind; instrs = map (placed (length is)) is; filters = filters }) input values (leap kind filters input (length is) is values)
comes_to_leap kind filters input f is values h =
    let all = map (placed (length is)) is in
    let first : length is - length is ≡ 0 = omega arith in
    let stand : StandAt kind filters input all (length is) 0 is = λ k. let here : 0 + k ≡ k = omega arith in ap (slice_get all) here in
    subst (λ k. Runs kind filters input all k values (leap kind filters input (length is) is values)) first
    (runs_rest kind filters input all f (length is) 0 is h (omega arith) stand (length is) values (omega arith))

-- each instruction goes forward
goes_placed : (f n place : ℕ) (i : Instr) (is : List Instr) → Below f (length is) i → place + suc (length is) ≡ n → Goes f n place (placed n i)
goes_placed f n place (Test p a b) is h e = (omega (arith, e, h.0), omega (arith, e), omega (arith, e, h.1), omega (arith, e), h.2)
goes_placed f n place (Jump to) is h e = (omega (arith, e, h), omega (arith, e))
goes_placed f n place (SetClass p) is h e = tt
goes_placed f n place (SetGroups groups) is h e = tt
goes_placed f n place (Write parts) is h e = tt
goes_placed f n place (Exit code) is h e = tt

goes_all : (f n at : ℕ) (is : List Instr) → AreBelow f is → at + length is ≡ n → (k : ℕ) (i : Instr) → slice_get (map (placed n) is) k ≡ Some i → Goes f n (at + k) i
goes_all f n at [] h e k i g = cc
goes_all f n at (j ∷ is) h e zero i g =
    let same : placed n j ≡ i = cc in
    let here : at ≡ at + 0 = omega arith in
    subst (λ p. Goes f n p i) here (subst (λ x. Goes f n at x) same (goes_placed f n at j is h.0 (omega (arith, e))))
goes_all f n at (j ∷ is) h e (suc k) i g =
    let there : suc at + k ≡ at + suc k = omega arith in
    subst (λ p. Goes f n p i) there (goes_all f n (suc at) is h.1 (omega (arith, e)) k i g)

then_falls : (v : Values) (lines : List (List ℕ)) (e : Ending) → let o : Outcome = record { values = v; lines = lines; ending = e } in then_do o falls ≡ o
then_falls v lines Falls = ap (λ l. record { values = v; lines = l; ending = Falls }) (append-nil lines)
then_falls v lines (ExitWith n) = refl

module _ (routine : CheckedRoutine) (code : List Instr) (kind : Kind) (lists : List Stmt) (body : List Stmt) where
  -- nothing stands behind the whole code
  whole : (rest : List Instr) → rest ≡ [] → Does kind (filters_of lists) (in_turn (map (meaning kind lists) body)) rest code → Does kind (filters_of lists) (in_turn (map (meaning kind lists) body)) [] code
  whole rest er d = subst (λ r. Does kind (filters_of lists) (in_turn (map (meaning kind lists) body)) r code) er d

  means_all : (made : CodeParts) (rest : List Instr) → kind ≡ routine.kind → body ≡ routine.tree.body → lists ≡ body → made ≡ record { kind = kind; instrs = map (placed (length code)) code; filters = filters_of lists } → rest ≡ []
      → Does kind (filters_of lists) (in_turn (map (meaning kind lists) body)) rest code → (input : Input) (values : Values) → ComesTo made input values (meaning_of routine.tree routine.kind input values)
  means_all made rest ek eb el em er d input values =
      let d0 = whole rest er d in
      let o = in_turn (map (meaning kind lists) body) input values in
      let same = d0.does input values ∙ then_falls o.values o.lines o.ending
      ∙ ap (λ ls. in_turn (map (meaning kind ls) body) input values) el ∙ ap (λ k. in_turn (map (meaning k body) body) input values) ek
      ∙ ap (λ b. in_turn (map (meaning routine.kind b) b) input values) eb in
      subst (ComesTo made input values) same (subst (λ m. ComesTo m input values (leap kind (filters_of lists) input (length code) code values)) (sym em)
      (comes_to_leap kind (filters_of lists) input (length (filters_of lists)) code values (d0.over.below tt)))

  pub forward_all : (made : CodeParts) (rest : List Instr) → made ≡ record { kind = kind; instrs = map (placed (length code)) code; filters = filters_of lists } → rest ≡ []
      → Does kind (filters_of lists) (in_turn (map (meaning kind lists) body)) rest code → GoesForward made
  forward_all made rest em er d = subst GoesForward (sym em) (λ place i g.
      let all = goes_all (length (filters_of lists)) (length code) 0 code ((whole rest er d).over.below tt) (omega arith) place i g in
      let here : 0 + place ≡ place = omega arith in
      let long : length code ≡ length (map (placed (length code)) code) = sym (length-map code (placed (length code))) in
      subst (λ n. Goes (length (filters_of lists)) n place i) long (subst (λ p. Goes (length (filters_of lists)) (length code) p i) here all))

  -- the whole code
  pub stands_all : (made : CodeParts) (rest : List Instr) → kind ≡ routine.kind → body ≡ routine.tree.body → lists ≡ body → made ≡ record { kind = kind; instrs = map (placed (length code)) code; filters = filters_of lists } → rest ≡ []
      → Does kind (filters_of lists) (in_turn (map (meaning kind lists) body)) rest code → StandsFor made routine
  stands_all made rest ek eb el em er d = record {
    kind = ap (λ (m : CodeParts). m.kind) em ∙ ek;
    means = means_all made rest ek eb el em er d;
    only = λ input values outcome runs. comes_to_one made input (forward_all made rest em er d) runs (means_all made rest ek eb el em er d input values);
  }

pub same_parts : (kind : Kind) {instrs instrs' : List Instr} {filters filters' : List FilterLists} → instrs ≡ instrs' → filters ≡ filters' → let parts : CodeParts = record { kind = kind; instrs = instrs; filters = filters } in parts ≡ record { kind = kind; instrs = instrs'; filters = filters' }
same_parts kind p q = cc
