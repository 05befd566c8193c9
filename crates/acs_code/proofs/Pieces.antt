-- How pieces of code fit together.
use Rattle.std.proofs.Common.{◌≡◌, ◌≤◌, ◌&&◌, ◌||◌, ℕ, suc, Bool, true, false, List, ◌∷◌, ◌++◌, length, refl, sym, ap}
use Rattle.std.proofs.Common.{◌∙◌, append_assoc, arith}
use Rattle.std.specs.Prelude.{if◌then◌else◌}
use Rattle.std.proofs.lemmas.Bool.{lt-ltb, le-ltb}
use Rattle.dsn_mask.specs.Filter.{FilterLists}
use Rattle.acs_tree.specs.declared.ending.Ending.{Ending}
use Rattle.acs_tree.specs.declared.ending.Ending.TheVariants.{Falls, Exit as ExitWith}
use Rattle.acs_tree.specs.declared.input.Input.{Input}
use Rattle.acs_tree.specs.declared.kind.Kind.{Kind}
use Rattle.acs_tree.specs.declared.values.Values.{Values}
use Rattle.acs_tree.specs.Conditions as conditions
use Rattle.acs_tree.specs.Meaning.{choice}
use Rattle.acs_tree.specs.Outcome.{nothing, Outcome, Action, then_do, after, behind}
use Rattle.acs_code.specs.declared.instr.Instr.{Instr}
use Rattle.acs_code.specs.declared.instr.Instr.TheVariants.{Test, Jump}
use Rattle.acs_code.specs.declared.probe.Probe.{Probe}
use Rattle.acs_code.specs.Machine.{probe_holds}
use Rattle.acs_code.specs.Stands.{IsThere}
use Rattle.acs_code.specs.Inner.Steps.{act}
use Rattle.acs_code.specs.Inner.Upward.{leap, Below, Over, Branches, Does}

module _ (kind : Kind) (filters : List FilterLists) where
  -- at the front of the code
  at_front : (input : Input) (i : Instr) (is : List Instr) (values : Values) → leap kind filters input (length (i ∷ is)) (i ∷ is) values ≡ act kind filters input i (λ to. leap kind filters input to is) (length is) values
  at_front input i is values =
      ap (λ b. if b then act kind filters input i (λ to. leap kind filters input to is) (length is) values else leap kind filters input (suc (length is)) is values) (lt-ltb (length is) (suc (length is)) (omega arith))

  past : (input : Input) (i : Instr) (is : List Instr) (left : ℕ) (values : Values) → left ≤ length is → leap kind filters input left (i ∷ is) values ≡ leap kind filters input left is values
  past input i is left values h =
      ap (λ b. if b then act kind filters input i (λ to. leap kind filters input to is) (length is) values else leap kind filters input left is values) (le-ltb (length is) left h)

  pub over_self : (rest : List Instr) → Over kind filters rest rest
  over_self rest = record { longer = omega arith; below = λ h. h; keeps = λ input left values h. refl }

  pub over_one : (i : Instr) (rest : List Instr) → Below (length filters) (length rest) i → Over kind filters rest (i ∷ rest)
  over_one i rest b = record { longer = omega arith; below = λ h. (b, h); keeps = λ input left values h. past input i rest left values h }

  pub over_on : {rest mid code : List Instr} → Over kind filters rest mid → Over kind filters mid code → Over kind filters rest code
  over_on p q = record {
    longer = omega (arith, p.longer, q.longer);
    below = λ h. q.below (p.below h);
    keeps = λ input left values h. q.keeps input left values (omega (arith, p.longer, h)) ∙ p.keeps input left values h;
  }

  -- conditions

  pub branch_test : (p : Probe) (a b : ℕ) (rest : List Instr) → a ≤ length rest → b ≤ length rest → IsThere (length filters) p.right → Branches kind filters (probe_holds filters p) a b rest (Test p a b ∷ rest)
  branch_test p a b rest ha hb there = record { over = over_one _ rest (ha, hb, there); goes = λ input values. at_front input (Test p a b) rest values }

  pub branch_jump : (test : conditions.Test) (a b to : ℕ) (rest : List Instr) → to ≤ length rest → ((input : Input) (values : Values) → to ≡ (if test input values then a else b)) → Branches kind filters test a b rest (Jump to ∷ rest)
  branch_jump test a b to rest h same = record {
    over = over_one _ rest h;
    goes = λ input values. at_front input (Jump to) rest values ∙ ap (λ n. leap kind filters input n rest values) (same input values);
  }

  pub branch_both : {f g : conditions.Test} {a b : ℕ} {rest mid code : List Instr} → b ≤ length rest → Branches kind filters g a b rest mid → Branches kind filters f (length mid) b mid code → Branches kind filters (λ input values. f input values && g input values) a b rest code
  branch_both {f} {g} {a} {b} {rest} {mid} {code} h second first = record {
    over = over_on second.over first.over;
    goes = λ input values. first.goes input values ∙ split input values (f input values);
  }
    where
      split : (input : Input) (values : Values) (c : Bool) → leap kind filters input (if c then length mid else b) mid values ≡ leap kind filters input (if c && g input values then a else b) rest values
      split input values true = second.goes input values
      split input values false = second.over.keeps input b values h

  pub branch_either : {f g : conditions.Test} {a b : ℕ} {rest mid code : List Instr} → a ≤ length rest → Branches kind filters g a b rest mid → Branches kind filters f a (length mid) mid code → Branches kind filters (λ input values. f input values || g input values) a b rest code
  branch_either {f} {g} {a} {b} {rest} {mid} {code} h second first = record {
    over = over_on second.over first.over;
    goes = λ input values. first.goes input values ∙ split input values (f input values);
  }
    where
      split : (input : Input) (values : Values) (c : Bool) → leap kind filters input (if c then a else length mid) mid values ≡ leap kind filters input (if c || g input values then a else b) rest values
      split input values true = second.over.keeps input a values h
      split input values false = second.goes input values

  -- statements

  -- lines before lines
  behind_twice : (xs ys : List (List ℕ)) (o : Outcome) → behind xs (behind ys o) ≡ behind (xs ++ ys) o
  behind_twice xs ys o = ap (λ l. record { values = o.values; lines = l; ending = o.ending }) (sym (append_assoc xs ys o.lines))

  then_parts : (v : Values) (lines : List (List ℕ)) (e : Ending) (f g : Values → Outcome) → let o : Outcome = record { values = v; lines = lines; ending = e } in then_do o (λ w. then_do (f w) g) ≡ then_do (then_do o f) g
  then_parts v lines Falls f g = inner (f v).ending (f v)
    where
      inner : (e : Ending) (m : Outcome) → behind lines (after e m g) ≡ after e (behind lines m) g
      inner Falls m = behind_twice lines m.lines (g m.values)
      inner (ExitWith n) m = refl
  then_parts v lines (ExitWith n) f g = refl

  then_twice : (o : Outcome) (f g : Values → Outcome) → then_do o (λ v. then_do (f v) g) ≡ then_do (then_do o f) g
  then_twice o f g = then_parts o.values o.lines o.ending f g

  pub does_then : {m n : Action} {rest mid code : List Instr} → Does kind filters n rest mid → Does kind filters m mid code → Does kind filters (λ input values. then_do (m input values) (n input)) rest code
  does_then {m} {n} {rest} {mid} {code} second first = record {
    over = over_on second.over first.over;
    does = λ input values. first.does input values ∙ ap (then_do (m input values)) (λ i v. second.does input v i) ∙ then_twice (m input values) (n input) (λ v. leap kind filters input (length rest) rest v);
  }

  -- behind the body a jump to what follows, and in front of all a condition
  pub does_choice : {test : conditions.Test} {m other : Action} {rest old jumped body code : List Instr} → Does kind filters other rest old → Over kind filters old jumped → Does kind filters nothing rest jumped
      → Does kind filters m jumped body → Branches kind filters test (length body) (length old) body code → Does kind filters (choice test m other) rest code
  does_choice {test} {m} {other} {rest} {old} {jumped} {body} {code} behind_all over there first cond = record {
    over = over_on behind_all.over (over_on over (over_on first.over cond.over));
    does = λ input values. cond.goes input values ∙ split input values (test input values);
  }
    where
      whole : (input : Input) (values : Values) → leap kind filters input (length body) body values ≡ then_do (m input values) (λ v. leap kind filters input (length rest) rest v)
      whole input values = first.does input values ∙ ap (then_do (m input values)) (λ i v. there.does input v i)

      else_part : (input : Input) (values : Values) → leap kind filters input (length old) body values ≡ then_do (other input values) (λ v. leap kind filters input (length rest) rest v)
      else_part input values = (over_on over first.over).keeps input (length old) values (omega arith) ∙ behind_all.does input values

      split : (input : Input) (values : Values) (c : Bool) → leap kind filters input (if c then length body else length old) body values ≡ then_do (if c then m input values else other input values) (λ v. leap kind filters input (length rest) rest v)
      split input values true = whole input values
      split input values false = else_part input values
