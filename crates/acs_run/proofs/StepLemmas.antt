-- One instruction after another.
use Rattle.std.proofs.Common.{◌≡◌, ◌<◌, ◌+◌, ℕ, zero, suc, map, Bool, true, false, List, [], ◌∷◌, length, get_or, Some, sym, ap}
use Rattle.std.proofs.Common.{◌∙◌, subst, arith}
use Rattle.std.specs.Prelude.{slice_get, if◌then◌else◌}
use Rattle.std.proofs.lemmas.Option.{slice_get-get_or}
use Rattle.acs_tree.specs.declared.input.Input.{Input}
use Rattle.acs_tree.specs.declared.kind.Kind.{Kind}
use Rattle.acs_tree.specs.declared.values.Values.{Values}
use Rattle.acs_tree.specs.Setting.{with_class}
use Rattle.acs_tree.specs.Outcome.{Outcome, behind}
use Rattle.acs_tree.specs.Slates.{SlateLines, with_line}
use Rattle.acs_code.specs.declared.field.Field.{Field}
use Rattle.acs_code.specs.declared.instr.Instr.{Instr}
use Rattle.acs_code.specs.declared.instr.Instr.TheVariants.{Test, Jump, SetClass, SetGroups, Write, Exit}
use Rattle.acs_code.specs.declared.part.Part.{Part}
use Rattle.acs_code.specs.declared.probe.Probe.{Probe}
use Rattle.acs_code.specs.Fields.{left_of}
use Rattle.acs_code.specs.Machine.{CodeParts, part_class, parts_line, probe_holds}
use Rattle.acs_code.specs.Stands.{Goes, GoesForward}
use Rattle.acs_run.specs.declared.machine.Next.TheVariants.{On, Exited}
use Rattle.acs_code.specs.Inner.Steps.{act, rest_of}
use Rattle.acs_code.proofs.RunLemmas.{one_step}
use Rattle.acs_run.specs.Inner.Steps.{Leads, Same, with_lines}

-- what each instruction leads to
same_on : (kind : Kind) {o p : Outcome} {t : SlateLines} → o ≡ p → Same kind o p t t
same_on kind {o} {p} {t} e = record { values = ap (λ x. x.values) e; ending = ap (λ x. x.ending) e; written = ap (λ x. with_lines kind t x.lines) e }

same_written : (kind : Kind) {o p : Outcome} {t u : SlateLines} {line : List ℕ} → o ≡ behind (line ∷ []) p → u ≡ with_line kind line t → Same kind o p t u
same_written kind {o} {p} {t} {u} e k = record { values = ap (λ x. x.values) e; ending = ap (λ x. x.ending) e; written = ap (λ x. with_lines kind t x.lines) e ∙ ap (λ x. with_lines kind x p.lines) (sym k) }

module _ (code : CodeParts) (input : Input) (place : ℕ) (i : Instr) (values : Values) (slate : SlateLines) (within : place < length code.instrs) (at : i ≡ get_or code.instrs place i) (forward : GoesForward code) where
  there : slice_get code.instrs place ≡ Some i
  there = slice_get-get_or code.instrs place i within ∙ ap Some (sym at)

  goes_here : (j : Instr) → i ≡ j → Goes (length code.filters) (length code.instrs) place j
  goes_here j k = subst (Goes (length code.filters) (length code.instrs) place) k (forward place i there)

  here : (j : Instr) → i ≡ j → rest_of code input place values ≡ act code.kind code.filters input j (rest_of code input) (suc place) values
  here j k = one_step code input forward place i values there ∙ ap (λ x. act code.kind code.filters input x (rest_of code input) (suc place) values) k

  pub leads_test : (p : Probe) (a b : ℕ) (c : Bool) → i ≡ Test p a b → c ≡ probe_holds code.filters p input values → Leads code input place values slate values slate (On (if c then a else b))
  leads_test p a b c k q =
      let g = goes_here (Test p a b) k in
      let w = here (Test p a b) k ∙ ap (λ x. rest_of code input (if x then a else b) values) (sym q) in
      elim c as (λ x. rest_of code input place values ≡ rest_of code input (if x then a else b) values → Leads code input place values slate values slate (On (if x then a else b))) [ true ↦ λ w. (g.0, g.1, same_on code.kind w) | false ↦ λ w. (g.2, g.3, same_on code.kind w) ] w

  pub leads_jump : (to : ℕ) → i ≡ Jump to → Leads code input place values slate values slate (On to)
  leads_jump to k = let g = goes_here (Jump to) k in (g.0, g.1, same_on code.kind (here (Jump to) k))

  pub leads_set : (p : Part) (new : Values) → i ≡ SetClass p → new ≡ with_class code.kind (part_class p input values) values → Leads code input place values slate new slate (On (place + 1))
  leads_set p new k q =
      let one : suc place ≡ place + 1 = omega arith in
      let r = here (SetClass p) k ∙ ap (λ n. rest_of code input n (with_class code.kind (part_class p input values) values)) one ∙ ap (rest_of code input (place + 1)) (sym q) in
      (omega arith, omega (arith, within), same_on code.kind r)

  pub leads_groups : (groups : List (List ℕ)) → i ≡ SetGroups groups → Leads code input place values slate (record values { groups = groups }) slate (On (place + 1))
  leads_groups groups k =
      let one : suc place ≡ place + 1 = omega arith in
      (omega arith, omega (arith, within), same_on code.kind (here (SetGroups groups) k ∙ ap (λ n. rest_of code input n (record values { groups = groups })) one))

  pub leads_write : (parts : List Part) (new : SlateLines) → i ≡ Write parts → new ≡ with_line code.kind (parts_line parts input values) slate → Leads code input place values slate values new (On (place + 1))
  leads_write parts new k e =
      let one : suc place ≡ place + 1 = omega arith in
      let r = here (Write parts) k ∙ ap (λ n. behind (parts_line parts input values ∷ []) (rest_of code input n values)) one in
      (omega arith, omega (arith, within), same_written code.kind r e)

  pub leads_exit : (n : ℕ) → i ≡ Exit n → Leads code input place values slate values slate (Exited n)
  leads_exit n k =
      let r = here (Exit n) k in
      (ap (λ o. o.values) (sym r), ap (λ o. o.ending) (sym r), ap (λ o. with_lines code.kind slate o.lines) (sym r))

mapped_at : (instrs : List Instr) (place : ℕ) (i : Instr) (other : Field) → place < length instrs → i ≡ get_or instrs place i → get_or (map left_of instrs) place other ≡ left_of i
mapped_at [] place i other within at = absurd (omega (arith, within))
mapped_at (first ∷ instrs) zero i other within at = ap left_of (sym at)
mapped_at (first ∷ instrs) (suc place) i other within at = mapped_at instrs place i other (omega (arith, within)) at

-- what the left side of an instruction reads stands at its place
pub left_at : (instrs : List Instr) (lefts : List Field) (place : ℕ) (i : Instr) (other : Field) → place < length instrs → i ≡ get_or instrs place i → lefts ≡ map left_of instrs → get_or lefts place other ≡ left_of i
left_at instrs lefts place i other within at e = ap (λ (l : List Field). get_or l place other) e ∙ mapped_at instrs place i other within at
