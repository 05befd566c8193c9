-- A code that goes forward comes to one outcome.
use Rattle.std.proofs.Common.{◌≡◌, ◌<◌, ◌≤◌, ◌+◌, ◌-◌, ℕ, zero, suc, Bool, true, false, List, [], ◌∷◌, length, Option}
use Rattle.std.proofs.Common.{None, Some, refl, sym, ap, ◌∙◌, arith}
use Rattle.std.specs.Prelude.{slice_get, if◌then◌else◌}
use Rattle.std.proofs.lemmas.Option.{slice_get_past, slice_get_within}
use Rattle.dsn_mask.specs.Filter.{FilterLists}
use Rattle.acs_tree.specs.declared.input.Input.{Input}
use Rattle.acs_tree.specs.declared.kind.Kind.{Kind}
use Rattle.acs_tree.specs.declared.values.Values.{Values}
use Rattle.acs_tree.specs.Setting.{with_class}
use Rattle.acs_tree.specs.Outcome.{Outcome, behind, falls}
use Rattle.acs_code.specs.declared.instr.Instr.{Instr}
use Rattle.acs_code.specs.declared.instr.Instr.TheVariants.{Test, Jump, SetClass, SetGroups, Write, Exit}
use Rattle.acs_code.specs.declared.probe.Probe.{Probe}
use Rattle.acs_code.specs.Machine.{CodeParts, ComesTo, RunsTo, exit, jump, part_class, parts_line, past_end}
use Rattle.acs_code.specs.Machine.{probe_holds, set_class, set_groups, test, write}
use Rattle.acs_code.specs.Stands.{Goes, GoesForward}
use Rattle.acs_code.specs.Inner.Steps.{act, act_if_any, rest_of, run_for}

-- where no instruction stands nothing runs
none_there : (code : CodeParts) (input : Input) (steps place : ℕ) (values : Values) → slice_get code.instrs place ≡ None → run_for code input steps place values ≡ falls values
none_there code input zero place values e = refl
none_there code input (suc steps) place values e = ap (λ o. act_if_any code.kind code.filters input o (run_for code input steps) (suc place) values) e

pub past_all : (code : CodeParts) (input : Input) (steps place : ℕ) (values : Values) → length code.instrs ≤ place → run_for code input steps place values ≡ falls values
past_all code input steps place values h = none_there code input steps place values (slice_get_past code.instrs place h)

-- an instruction does the same where running on is the same from each later place
act_same : (kind : Kind) (filters : List FilterLists) (input : Input) (end place : ℕ) (i : Instr) (next other : ℕ → Values → Outcome) (values : Values) → Goes (length filters) end place i
    → ((to : ℕ) (v : Values) → place < to → next to v ≡ other to v) → act kind filters input i next (suc place) values ≡ act kind filters input i other (suc place) values
act_same kind filters input end place (Test p a b) next other values g same = split (probe_holds filters p input values)
  where
    split : (c : Bool) → next (if c then a else b) values ≡ other (if c then a else b) values
    split true = same a values g.0
    split false = same b values g.2
act_same kind filters input end place (Jump to) next other values g same = same to values g.0
act_same kind filters input end place (SetClass p) next other values g same = same (suc place) (with_class kind (part_class p input values) values) (omega arith)
act_same kind filters input end place (SetGroups groups) next other values g same = same (suc place) (record values { groups = groups }) (omega arith)
act_same kind filters input end place (Write parts) next other values g same = ap (behind (parts_line parts input values ∷ [])) (same (suc place) values (omega arith))
act_same kind filters input end place (Exit n) next other values g same = refl

module _ (code : CodeParts) (input : Input) (forward : GoesForward code) where
  -- the same of what stands at a place
  same_at : (place : ℕ) (found : Option Instr) (next other : ℕ → Values → Outcome) (values : Values) → slice_get code.instrs place ≡ found → ((to : ℕ) (v : Values) → place < to → next to v ≡ other to v)
      → act_if_any code.kind code.filters input found next (suc place) values ≡ act_if_any code.kind code.filters input found other (suc place) values
  same_at place None next other values e same = refl
  same_at place (Some i) next other values e same = act_same code.kind code.filters input (length code.instrs) place i next other values (forward place i e) same

  -- a step more than there are instructions left changes nothing
  one_more : (steps place : ℕ) (values : Values) → length code.instrs ≤ steps + place → run_for code input (suc steps) place values ≡ run_for code input steps place values
  one_more zero place values h = past_all code input 1 place values (omega (arith, h))
  one_more (suc steps) place values h =
      same_at place (slice_get code.instrs place) (run_for code input (suc steps)) (run_for code input steps) values refl (λ to v later. one_more steps to v (omega (arith, h, later)))

  -- the instruction at a place, and then a step less
  acts_there : (steps place : ℕ) (i : Instr) (values : Values) → slice_get code.instrs place ≡ Some i → length code.instrs ≤ steps + place
      → run_for code input steps place values ≡ act code.kind code.filters input i (run_for code input (steps - 1)) (suc place) values
  acts_there steps place i values e h =
      let one : steps ≡ suc (steps - 1) = omega (arith, h, slice_get_within code.instrs place i e) in
      ap (λ n. run_for code input n place values) one ∙ ap (λ o. act_if_any code.kind code.filters input o (run_for code input (steps - 1)) (suc place) values) e

  -- each instruction, at its place
  pub one_step : (place : ℕ) (i : Instr) (values : Values) → slice_get code.instrs place ≡ Some i → rest_of code input place values ≡ act code.kind code.filters input i (rest_of code input) (suc place) values
  one_step place i values e =
      let count = length code.instrs in
      let all : count ≡ suc (count - 1) = omega (arith, slice_get_within code.instrs place i e) in
      acts_there count place i values e (omega arith)
      ∙ same_at place (Some i) (run_for code input (count - 1)) (rest_of code input) values e
      (λ to v later. sym (one_more (count - 1) to v (omega (arith, later))) ∙ ap (λ n. run_for code input n to v) (sym all))

  -- where a test goes on is later
  later_place : (c : Bool) (place end a b : ℕ) (probe : Probe) → Goes (length code.filters) end place (Test probe a b) → place < (if c then a else b)
  later_place true place end a b probe g = g.0
  later_place false place end a b probe g = g.2

  -- what the code runs to is what so many steps come to, if they are as many as there are instructions left
  is_rest : {place : ℕ} {values : Values} {came : Outcome} → RunsTo code input place values came → (steps : ℕ) → length code.instrs ≤ steps + place → came ≡ run_for code input steps place values
  is_rest (test {place} {yes'} {no'} {probe} {values} e r) steps h =
      let later = later_place (probe_holds code.filters probe input values) place (length code.instrs) yes' no' probe (forward place (Test probe yes' no') e) in
      is_rest r (steps - 1) (omega (arith, h, later)) ∙ sym (acts_there steps place (Test probe yes' no') values e h)
  is_rest (jump {place} {to} {values} e r) steps h = let g = forward place (Jump to) e in is_rest r (steps - 1) (omega (arith, h, g.0)) ∙ sym (acts_there steps place (Jump to) values e h)
  is_rest (set_class {place} {part} {values} e r) steps h = is_rest r (steps - 1) (omega (arith, h)) ∙ sym (acts_there steps place (SetClass part) values e h)
  is_rest (set_groups {place} {groups} {values} e r) steps h = is_rest r (steps - 1) (omega (arith, h)) ∙ sym (acts_there steps place (SetGroups groups) values e h)
  is_rest (write {place} {parts} {values} e r) steps h = ap (behind (parts_line parts input values ∷ [])) (is_rest r (steps - 1) (omega (arith, h))) ∙ sym (acts_there steps place (Write parts) values e h)
  is_rest (exit {place} {number} {values} e) steps h = sym (acts_there steps place (Exit number) values e h)
  is_rest (past_end {place} {values} e) steps h = sym (none_there code input steps place values e)

  -- the code runs to what an instruction does, if it runs on from each later place
  runs_there : (place : ℕ) (i : Instr) (next : ℕ → Values → Outcome) (values : Values) → slice_get code.instrs place ≡ Some i → Goes (length code.filters) (length code.instrs) place i
      → ((to : ℕ) (v : Values) → place < to → RunsTo code input to v (next to v)) → RunsTo code input place values (act code.kind code.filters input i next (suc place) values)
  runs_there place (Test p a b) next values e g runs = test e (runs _ values (later_place (probe_holds code.filters p input values) place (length code.instrs) a b p g))
  runs_there place (Jump to) next values e g runs = jump e (runs to values g.0)
  runs_there place (SetClass p) next values e g runs = set_class e (runs (suc place) (with_class code.kind (part_class p input values) values) (omega arith))
  runs_there place (SetGroups groups) next values e g runs = set_groups e (runs (suc place) (record values { groups = groups }) (omega arith))
  runs_there place (Write parts) next values e g runs = write e (runs (suc place) values (omega arith))
  runs_there place (Exit number) next values e g runs = exit e

  runs_if_any : (place : ℕ) (found : Option Instr) (next : ℕ → Values → Outcome) (values : Values) → slice_get code.instrs place ≡ found
      → ((to : ℕ) (v : Values) → place < to → RunsTo code input to v (next to v)) → RunsTo code input place values (act_if_any code.kind code.filters input found next (suc place) values)
  runs_if_any place None next values e runs = past_end e
  runs_if_any place (Some i) next values e runs = runs_there place i next values e (forward place i e) runs

  -- running comes to an outcome
  runs_for : (steps place : ℕ) (values : Values) → length code.instrs ≤ steps + place → RunsTo code input place values (run_for code input steps place values)
  runs_for zero place values h = past_end (slice_get_past code.instrs place (omega (arith, h)))
  runs_for (suc steps) place values h = runs_if_any place (slice_get code.instrs place) (run_for code input steps) values refl (λ to v later. runs_for steps to v (omega (arith, h, later)))

  pub rest_is : {values : Values} {came : Outcome} → ComesTo code input values came → rest_of code input 0 values ≡ came
  rest_is runs = sym (is_rest runs (length code.instrs) (omega arith))

  pub comes_to_rest : (values : Values) → ComesTo code input values (rest_of code input 0 values)
  comes_to_rest values = runs_for (length code.instrs) 0 values (omega arith)

  -- and to no other
  pub comes_to_one : {values : Values} {one other : Outcome} → ComesTo code input values one → ComesTo code input values other → one ≡ other
  comes_to_one first second = sym (rest_is first) ∙ rest_is second
