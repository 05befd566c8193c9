-- What the readers of SELECT and its WHENs give, and where they fail.
use Rattle.std.proofs.Common.{◌≡◌, ◌<◌, ℕ, suc, Bool, true, false, cond, List, [], ◌∷◌, ◌++◌, length, refl, ap, sym}
use Rattle.std.proofs.Common.{◌∙◌, subst, arith, append_assoc}
use Rattle.std.specs.Prelude.{Option, Some, None}
use Rattle.acs_tree.specs.declared.routine.Ref.{Ref}
use Rattle.acs_tree.specs.declared.routine.Operand.{Operand}
use Rattle.acs_tree.specs.declared.routine.Cond.{Cond}
use Rattle.acs_tree.specs.declared.routine.WhenTest.{WhenTest}
use Rattle.acs_tree.specs.declared.routine.WhenTest.TheVariants.{Any, Holds}
use Rattle.acs_tree.specs.declared.routine.When.{When, roll-When}
use Rattle.acs_tree.specs.declared.routine.Form.TheVariants as form
use Rattle.acs_tree.specs.declared.routine.Stmt.{Stmt}
use Rattle.acs_parse.specs.declared.list_kind.ListKind.TheVariants as list
use Rattle.acs_symbol.specs.declared.symbol.WordKind.TheVariants as word
use Rattle.acs_symbol.specs.declared.symbol.Symbol.{Symbol}
use Rattle.acs_symbol.specs.declared.symbol.Symbol.TheVariants.{Word, Open}
use Rattle.acs_parse.specs.declared.want.Want.TheVariants as want
use Rattle.acs_parse.specs.declared.fault.Fault.{Fault}
use Rattle.acs_parse.specs.Wants.{fits}
use Rattle.acs_parse.specs.Grammar.{starts, place_in, when_at, limited, IsRef, IsOperands, IsCond, IsStmt, pick}
use Rattle.acs_parse.specs.Grammar.{IsAlternative, IsChoice, by_value, by_condition, IsWhen, when_any, when_holds}
use Rattle.acs_parse.specs.Grammar.{IsWhens, no_when, more_whens}
use Rattle.acs_parse.specs.Inner.Table.{Effect, Keep, Lower, To, Part, One, AStatement, OrAlternative, AChoice, AWhen}
use Rattle.acs_parse.specs.Inner.Table.{MoreWhens, ACondition, AnOperand, MoreOperands, ARef, Read, Refuse, when_parts}
use Rattle.acs_parse.specs.Inner.Table.{Step, after, next, step, Verdict, verdict}
use Rattle.acs_parse.specs.Inner.Language.{Takes}
use Rattle.acs_parse.specs.Inner.Reads.{FailsAt, IsInside, AreWhens, IsCondBefore, IsOneMore, IsTest, any_of, holding}
use Rattle.acs_parse.specs.Inner.Reads.{test_parts}
use Rattle.acs_parse.proofs.RunLemmas.{runs_ref, runs_operands, runs_cond, runs_alternative, runs_choice, runs_when}
use Rattle.acs_parse.proofs.RunLemmas.{whens_as_when}
use Rattle.acs_parse.proofs.SoundLemmas.{is_when}
use Rattle.acs_parse.proofs.ShorterLemmas.{when_shorter, operands_shorter, cond_shorter}
use Rattle.acs_parse.proofs.OperandLemmas.{Goes, along, goes_one, takes_open, takes_close, empty_right}
use Rattle.acs_parse.proofs.StatementLemmas.{takes_end}

pub select_at : {total i : ℕ} {ts a b rest : List Symbol} {r : Option Ref} {ws : List When} {o : Option Stmt} → IsChoice total limited i ts r ws a → IsAlternative total limited want.Otherwise i a o b
    → Takes want.End b rest → IsInside total word.Select i ts (form.Pick r ws o) rest
select_at {total} {i} {ts} {a} {b} {rest} {r} {ws} {o} x y q n may e w =
    let v = takes_end q in
    let x : IsChoice total limited (suc n) ts r ws a = subst (λ j. IsChoice total limited j ts r ws a) e x in
    let y : IsAlternative total limited want.Otherwise (suc n) a o (Word word.End v.0 ∷ rest) = subst (λ j. IsAlternative total limited want.Otherwise j a o (Word word.End v.0 ∷ rest)) e (subst (λ l. IsAlternative total limited want.Otherwise i a o l) v.1 y) in
    pick may x y

pub select_choice_fails : (e : Fault) (i : ℕ) (ts : List Symbol) → FailsAt e (AChoice ∷ []) i ts → FailsAt e (AChoice ∷ OrAlternative want.Otherwise ∷ One want.End Lower ∷ []) i ts
select_choice_fails e i ts h k = h (OrAlternative want.Otherwise ∷ One want.End Lower ∷ k)

pub select_other_fails : (e : Fault) {total i : ℕ} {ts a : List Symbol} {r : Option Ref} {ws : List When} → IsChoice total limited i ts r ws a → FailsAt e (OrAlternative want.Otherwise ∷ []) i a
    → FailsAt e (AChoice ∷ OrAlternative want.Otherwise ∷ One want.End Lower ∷ []) i ts
select_other_fails e x h k = along e (runs_choice limited x (OrAlternative want.Otherwise ∷ One want.End Lower ∷ k)) (h (One want.End Lower ∷ k))

pub select_end_fails : (e : Fault) {total i : ℕ} {ts a b : List Symbol} {r : Option Ref} {ws : List When} {o : Option Stmt} → IsChoice total limited i ts r ws a → IsAlternative total limited want.Otherwise i a o b
    → ((f : Effect) (v : ℕ) → FailsAt e (One want.End f ∷ []) v b) → FailsAt e (AChoice ∷ OrAlternative want.Otherwise ∷ One want.End Lower ∷ []) i ts
select_end_fails e {i = i} x y h k = along e (runs_choice limited x (OrAlternative want.Otherwise ∷ One want.End Lower ∷ k) ∙ runs_alternative limited y (One want.End Lower ∷ k)) (h Lower i k)

pub choice_by_value : {total n : ℕ} {ts a b l rest : List Symbol} {r : Ref} {ws : List When} → ts ≡ Open ∷ a → IsRef total a r b → Takes want.Close b l → AreWhens total true n l ws rest
    → IsChoice total limited n ts (Some r) ws rest
choice_by_value {total} {n} {ts} {a} {b} {l} {rest} {r} {ws} e d q (w, others, ms, x, y, g) =
    let c : IsChoice total limited n (Open ∷ a) (Some r) (w ∷ others) rest = by_value (subst (λ z. IsRef total a r z) (takes_close q) d) x y in
    subst (λ zs. IsChoice total limited n ts (Some r) zs rest) (sym g) (subst (λ z. IsChoice total limited n z (Some r) (w ∷ others) rest) (sym e) c)

pub choice_by_condition : {total n : ℕ} {v : List ℕ} {ts a rest : List Symbol} {ws : List When} → ts ≡ Word word.When v ∷ a → AreWhens total false n ts ws rest → IsChoice total limited n ts None ws rest
choice_by_condition {total} {n} {v} {ts} {a} {rest} {ws} e (w, others, ms, x, y, g) =
    let c : IsChoice total limited n (Word word.When v ∷ a) None (w ∷ others) rest = by_condition (subst (λ z. IsWhen total limited false n z w ms) e x) y in
    subst (λ zs. IsChoice total limited n ts None zs rest) (sym g) (subst (λ z. IsChoice total limited n z None (w ∷ others) rest) (sym e) c)

pub choice_ref_fails : (e : Fault) (n : ℕ) {ts a : List Symbol} → ts ≡ Open ∷ a → ((m : ℕ) → FailsAt e (ARef ∷ []) m a) → FailsAt e (AChoice ∷ []) n ts
choice_ref_fails e n q h k = along e (ap (λ x. verdict limited (AChoice ∷ k) n x) q) (h n (One want.Close Keep ∷ AWhen true ∷ MoreWhens true ∷ k))

goes_subject : {total : ℕ} (n : ℕ) {ts a b : List Symbol} {r : Ref} → ts ≡ Open ∷ a → IsRef total a r b → Goes (AChoice ∷ []) n ts (One want.Close Keep ∷ AWhen true ∷ MoreWhens true ∷ []) n b
goes_subject n q d k = ap (λ x. verdict limited (AChoice ∷ k) n x) q ∙ runs_ref limited n d (One want.Close Keep ∷ AWhen true ∷ MoreWhens true ∷ k)

pub choice_close_fails : (e : Fault) {total : ℕ} (n : ℕ) {ts a b : List Symbol} {r : Ref} → ts ≡ Open ∷ a → IsRef total a r b → ((f : Effect) (m : ℕ) → FailsAt e (One want.Close f ∷ []) m b) → FailsAt e (AChoice ∷ []) n ts
choice_close_fails e n q d h k = along e (goes_subject n q d k) (h Keep n (AWhen true ∷ MoreWhens true ∷ k))

pub choice_values_fail : (e : Fault) {total : ℕ} (n : ℕ) {ts a b l : List Symbol} {r : Ref} → ts ≡ Open ∷ a → IsRef total a r b → Takes want.Close b l → FailsAt e (AWhen true ∷ MoreWhens true ∷ []) n l
    → FailsAt e (AChoice ∷ []) n ts
choice_values_fail e n q d p h k = along e (goes_subject n q d k ∙ goes_one want.Close Keep n (AWhen true ∷ MoreWhens true ∷ []) p k) (h k)

pub choice_conditions_fail : (e : Fault) (n : ℕ) {v : List ℕ} {ts a : List Symbol} → ts ≡ Word word.When v ∷ a → FailsAt e (AWhen false ∷ MoreWhens false ∷ []) n ts → FailsAt e (AChoice ∷ []) n ts
choice_conditions_fail e n q h k = along e (ap (λ x. verdict limited (AChoice ∷ k) n x) q ∙ ap (λ x. verdict limited (AWhen false ∷ MoreWhens false ∷ k) n x) (sym q)) (h k)

-- the WHENs so far
pub record WhenTurn (total n : ℕ) (b : Bool) (ts rest : List Symbol) (list : List When) : Type 0 where
  pub done : (ws : List When) (r : List Symbol) → IsWhens total limited b n rest ws r → AreWhens total b n ts (list ++ ws) r
  pub same : (k : List Part) → verdict limited (AWhen b ∷ MoreWhens b ∷ k) n ts ≡ verdict limited (MoreWhens b ∷ k) n rest
  pub shorter : length rest < length ts

pub when_clauses_first : {total n : ℕ} {b : Bool} {ts rest : List Symbol} {none list : List When} → IsOneMore total b n ts none list rest → none ≡ [] → WhenTurn total n b ts rest list
when_clauses_first {total} {n} {b} {ts} {rest} {none} {list} (w, d, g) f =
    let turn : WhenTurn total n b ts rest (w ∷ []) = record {
      done = λ ws r ds. (w, ws, rest, d, ds, refl);
      same = λ k. runs_when limited d (MoreWhens b ∷ k);
      shorter = when_shorter d;
    } in
    subst (λ xs. WhenTurn total n b ts rest xs) (sym (g ∙ ap (λ xs. xs ++ w ∷ []) f)) turn

whens_more : {total n : ℕ} {b : Bool} {ts ms r : List Symbol} {w : When} {ws : List When} → starts want.When ts ≡ true → IsWhen total limited b n ts w ms → IsWhens total limited b n ms ws r
    → IsWhens total limited b n ts (w ∷ ws) r
whens_more {ts = []} e d ds = let no : ⊥ = cc in absurd no
whens_more {total = total} {n = n} {b = b} {ts = t ∷ ts} {ms = ms} {r = r} {w = w} {ws = ws} e d ds =
    let v = is_when t e in
    let c : IsWhens total limited b n (Word word.When v.0 ∷ ts) (w ∷ ws) r = more_whens (subst (λ x. IsWhen total limited b n (x ∷ ts) w ms) v.1 d) ds in
    subst (λ x. IsWhens total limited b n (x ∷ ts) (w ∷ ws) r) (sym v.1) c

whens_go : (b : Bool) (n : ℕ) (ts : List Symbol) (k : List Part) → starts want.When ts ≡ true → verdict limited (MoreWhens b ∷ k) n ts ≡ verdict limited (AWhen b ∷ MoreWhens b ∷ k) n ts
whens_go b n [] k e = let no : ⊥ = cc in absurd no
whens_go b n (t ∷ ts) k e = whens_as_when limited b n t ts k e

pub when_clauses_turn : {total n : ℕ} {b : Bool} {ts rest left : List Symbol} {list longer : List When} → WhenTurn total n b ts rest list → starts want.When rest ≡ true
    → IsOneMore total b n rest list longer left → WhenTurn total n b ts left longer
when_clauses_turn {total} {n} {b} {ts} {rest} {left} {list} {longer} t e (w, d, g) =
    let turn : WhenTurn total n b ts left (list ++ w ∷ []) = record {
      done = λ ws r ds. subst (λ xs. AreWhens total b n ts xs r) (sym (append_assoc list (w ∷ []) ws)) (t.done (w ∷ ws) r (whens_more e d ds));
      same = λ k. t.same k ∙ whens_go b n rest k e ∙ runs_when limited d (MoreWhens b ∷ k);
      shorter = omega (arith, t.shorter, when_shorter d);
    } in
    subst (λ xs. WhenTurn total n b ts left xs) (sym g) turn

pub when_clauses_over : {total n : ℕ} {b : Bool} {ts rest : List Symbol} {list : List When} → WhenTurn total n b ts rest list → starts want.When rest ≡ false → AreWhens total b n ts list rest
when_clauses_over {total} {n} {b} {ts} {rest} {list} t e = subst (λ xs. AreWhens total b n ts xs rest) (empty_right list) (t.done [] rest (no_when e))

pub when_clauses_fail_first : (e : Fault) (n : ℕ) (b : Bool) (ts : List Symbol) → FailsAt e (AWhen b ∷ []) n ts → FailsAt e (AWhen b ∷ MoreWhens b ∷ []) n ts
when_clauses_fail_first e n b ts h k = h (MoreWhens b ∷ k)

pub when_clauses_fail : (e : Fault) {total n : ℕ} {b : Bool} {ts rest : List Symbol} {list : List When} → WhenTurn total n b ts rest list → starts want.When rest ≡ true
    → FailsAt e (AWhen b ∷ []) n rest → FailsAt e (AWhen b ∷ MoreWhens b ∷ []) n ts
when_clauses_fail e {n = n} {b = b} {rest = rest} t s h k = along e (t.same k ∙ whens_go b n rest k s) (h (MoreWhens b ∷ k))

when_at_place : {total at n : ℕ} {b : Bool} {ts a l rest : List Symbol} {test : WhenTest} {s : Stmt} → at ≡ place_in total ts → Takes want.When ts a → IsTest total b n a test l
    → IsStmt total limited n l s rest → IsWhen total limited b n ts (roll-When (record { at = at; test = test; body = s })) rest
when_at_place {total = total} {at = at} {n = n} {ts = ts} {rest = rest} {s = s} f q (any_of {ts = ms} {os = os} d) y =
    let v = is_when q.0 q.1 in
    let p : ts ≡ Word word.When v.0 ∷ Open ∷ ms = q.2 ∙ ap (λ x. x ∷ Open ∷ ms) v.1 in
    let c : IsWhen total limited true n ts (when_at total ts (Any os) s) rest = subst (λ x. IsWhen total limited true n x (when_at total x (Any os) s) rest) (sym p) (when_any d y) in
    subst (λ x. IsWhen total limited true n ts x rest) (sym (ap (λ x. roll-When (record { at = x; test = Any os; body = s })) f)) c
when_at_place {total = total} {at = at} {n = n} {ts = ts} {rest = rest} {s = s} f q (holding {ts = ms} {c = o} d) y =
    let v = is_when q.0 q.1 in
    let p : ts ≡ Word word.When v.0 ∷ Open ∷ ms = q.2 ∙ ap (λ x. x ∷ Open ∷ ms) v.1 in
    let c : IsWhen total limited false n ts (when_at total ts (Holds o) s) rest = subst (λ x. IsWhen total limited false n x (when_at total x (Holds o) s) rest) (sym p) (when_holds d y) in
    subst (λ x. IsWhen total limited false n ts x rest) (sym (ap (λ x. roll-When (record { at = x; test = Holds o; body = s })) f)) c

-- the WHENs and one more, whose parts are these
pub when_of : {total at n : ℕ} {b : Bool} {ts a l rest : List Symbol} {test : WhenTest} {s : Stmt} (list : List When) {longer : List When} → at ≡ place_in total ts → Takes want.When ts a → IsTest total b n a test l
    → IsStmt total limited n l s rest → longer ≡ list ++ roll-When (record { at = at; test = test; body = s }) ∷ [] → IsOneMore total b n ts list longer rest
when_of {at = at} {test = test} {s = s} list f q d y g = (roll-When (record { at = at; test = test; body = s }), when_at_place f q d y, g)

word_first : (b : Bool) (n l : ℕ) (new k : List Part) (p q : ℕ → Step) (go : List Part → ℕ → Verdict) → next (after (cond b (Read n new) Refuse) k p) l go ≡ next (after (cond b (Read n []) Refuse) (new ++ k) q) l go
word_first true n l new k p q go = refl
word_first false n l new k p q go = refl

-- a WHEN is its word and what stands behind it
when_one : (b : Bool) (n : ℕ) (ts : List Symbol) (k : List Part) → verdict limited (AWhen b ∷ k) n ts ≡ verdict limited (One want.When Keep ∷ (when_parts b n ++ k)) n ts
when_one b n [] k = refl
when_one b n (t ∷ ts) k = word_first (fits want.When t) n (suc (length ts)) (when_parts b n) k (λ m. step limited k m t) (λ m. step limited (when_parts b n ++ k) m t) (λ j m. verdict limited j m ts)

test_first : (b : Bool) (n : ℕ) (k : List Part) → when_parts b n ++ k ≡ test_parts b n ++ AStatement ∷ k
test_first true n k = refl
test_first false n k = refl

goes_when : (b : Bool) (n : ℕ) {ts a : List Symbol} → Takes want.When ts a → (k : List Part) → verdict limited (AWhen b ∷ k) n ts ≡ verdict limited (test_parts b n ++ AStatement ∷ k) n a
goes_when b n {ts} {a} q k = when_one b n ts k ∙ goes_one want.When Keep n [] q (when_parts b n ++ k) ∙ ap (λ x. verdict limited x n a) (test_first b n k)

runs_test : {total n : ℕ} {b : Bool} {ts rest : List Symbol} {test : WhenTest} → IsTest total b n ts test rest → (k : List Part) → verdict limited (test_parts b n ++ k) n ts ≡ verdict limited k n rest
runs_test {n = n} (any_of d) k = runs_operands limited n d (One want.Close Keep ∷ k)
runs_test {n = n} (holding d) k = runs_cond limited d (One want.Close (To n) ∷ k)

pub when_word_fails : (e : Fault) (n : ℕ) (b : Bool) (ts : List Symbol) → ((f : Effect) (v : ℕ) → FailsAt e (One want.When f ∷ []) v ts) → FailsAt e (AWhen b ∷ []) n ts
when_word_fails e n b ts h k = along e (when_one b n ts k) (h Keep n (when_parts b n ++ k))

pub when_test_fails : (e : Fault) (n : ℕ) (b : Bool) {ts a : List Symbol} → Takes want.When ts a → FailsAt e (test_parts b n) n a → FailsAt e (AWhen b ∷ []) n ts
when_test_fails e n b q h k = along e (goes_when b n q k) (h (AStatement ∷ k))

pub when_body_fails : (e : Fault) {total n : ℕ} {b : Bool} {ts a l : List Symbol} {test : WhenTest} → Takes want.When ts a → IsTest total b n a test l → FailsAt e (AStatement ∷ []) n l → FailsAt e (AWhen b ∷ []) n ts
when_body_fails e {n = n} {b = b} q x h k = along e (goes_when b n q k ∙ runs_test x (AStatement ∷ k)) (h k)

pub when_items_fail : (e : Fault) (n : ℕ) {ts a : List Symbol} → Takes want.When ts a → ((m : ℕ) → FailsAt e (test_parts true m) m a) → FailsAt e (AWhen true ∷ []) n ts
when_items_fail e n q h = when_test_fails e n true q (h n)

pub one_more_of : {total n : ℕ} (b c : Bool) {ts rest : List Symbol} (list longer : List When) → b ≡ c → IsOneMore total c n ts list longer rest → IsOneMore total b n ts list longer rest
one_more_of {total} {n} b c {ts} {rest} list longer e d = subst (λ x. IsOneMore total x n ts list longer rest) (sym e) d

pub one_more_fails : (e : Fault) (n : ℕ) (b c : Bool) (ts : List Symbol) → b ≡ c → FailsAt e (AWhen c ∷ []) n ts → FailsAt e (AWhen b ∷ []) n ts
one_more_fails e n b c ts q h = subst (λ x. FailsAt e (AWhen x ∷ []) n ts) (sym q) h

pub items_at : {total : ℕ} {ts a b rest : List Symbol} {os : List Operand} → Takes want.Open ts a → IsOperands total list.Items a os b → Takes want.Close b rest → (n : ℕ) → IsTest total true n ts (Any os) rest
items_at {total} {ts} {a} {b} {rest} {os} p d q n = subst (λ x. IsTest total true n x (Any os) rest) (sym (takes_open p)) (any_of (subst (λ r. IsOperands total list.Items a os r) (takes_close q) d))

pub items_open_fails : (e : Fault) (ts : List Symbol) → ((f : Effect) (m : ℕ) → FailsAt e (One want.Open f ∷ []) m ts) → (n : ℕ) → FailsAt e (test_parts true n) n ts
items_open_fails e ts h n k = h Keep n (AnOperand list.Items ∷ MoreOperands list.Items ∷ One want.Close Keep ∷ k)

goes_items : (n : ℕ) {ts a : List Symbol} → Takes want.Open ts a → Goes (test_parts true n) n ts (AnOperand list.Items ∷ MoreOperands list.Items ∷ One want.Close Keep ∷ []) n a
goes_items n p k = ap (λ x. verdict limited (test_parts true n ++ k) n x) (takes_open p)

pub items_fail : (e : Fault) {ts a : List Symbol} → Takes want.Open ts a → ((m : ℕ) → FailsAt e (AnOperand list.Items ∷ MoreOperands list.Items ∷ []) m a) → (n : ℕ) → FailsAt e (test_parts true n) n ts
items_fail e p h n k = along e (goes_items n p k) (h n (One want.Close Keep ∷ k))

pub items_close_fails : (e : Fault) {total : ℕ} {ts a b : List Symbol} {os : List Operand} → Takes want.Open ts a → IsOperands total list.Items a os b
    → ((f : Effect) (m : ℕ) → FailsAt e (One want.Close f ∷ []) m b) → (n : ℕ) → FailsAt e (test_parts true n) n ts
items_close_fails e p d h n k = along e (goes_items n p k ∙ runs_operands limited n d (One want.Close Keep ∷ k)) (h Keep n k)

pub holds_at : {total n : ℕ} {ts a rest : List Symbol} {c : Cond} → Takes want.Open ts a → IsCondBefore total want.Close n a c rest → IsTest total false n ts (Holds c) rest
holds_at {total} {n} {ts} {a} {rest} {c} p (m, b, d, q) = subst (λ x. IsTest total false n x (Holds c) rest) (sym (takes_open p)) (holding (subst (λ r. IsCond total limited n a c m r) (takes_close q) d))

pub holds_open_fails : (e : Fault) (n : ℕ) (ts : List Symbol) → ((f : Effect) (m : ℕ) → FailsAt e (One want.Open f ∷ []) m ts) → FailsAt e (test_parts false n) n ts
holds_open_fails e n ts h k = h Keep n (ACondition ∷ One want.Close (To n) ∷ k)

goes_holds : (n : ℕ) {ts a : List Symbol} → Takes want.Open ts a → Goes (test_parts false n) n ts (ACondition ∷ One want.Close (To n) ∷ []) n a
goes_holds n p k = ap (λ x. verdict limited (test_parts false n ++ k) n x) (takes_open p)

pub holds_cond_fails : (e : Fault) (n : ℕ) {ts a : List Symbol} → Takes want.Open ts a → FailsAt e (ACondition ∷ One want.Close (To n) ∷ []) n a → FailsAt e (test_parts false n) n ts
holds_cond_fails e n p h k = along e (goes_holds n p k) (h k)

pub test_shorter : {total n : ℕ} {b : Bool} {ts rest : List Symbol} {test : WhenTest} → IsTest total b n ts test rest → length rest < length ts
test_shorter (any_of d) = omega (arith, operands_shorter d)
test_shorter (holding d) = omega (arith, cond_shorter d)

-- what each reader needs of these

pub ruleset selection_steps = (select_at, select_choice_fails, select_other_fails, select_end_fails)

pub ruleset choice_steps = (choice_by_value, choice_by_condition, choice_ref_fails, choice_close_fails, choice_values_fail, choice_conditions_fail)

pub ruleset when_clauses_steps = (when_clauses_first, when_clauses_turn, when_clauses_over, when_clauses_fail_first, when_clauses_fail)

pub ruleset when_value_steps = (when_of, when_word_fails, when_items_fail, when_body_fails)

pub ruleset when_condition_steps = (when_of, when_word_fails, when_test_fails, when_body_fails)

pub ruleset items_test_steps = (items_at, items_open_fails, items_fail, items_close_fails)
