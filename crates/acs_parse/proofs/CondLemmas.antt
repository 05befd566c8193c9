-- What the readers of conditions give, and where they fail.
use Rattle.std.proofs.Common.{◌≡◌, ◌<◌, ℕ, suc, true, false, cond, List, [], ◌∷◌, length, refl, ap, sym, ◌∙◌, subst}
use Rattle.std.proofs.Common.{arith}
use Rattle.acs_tree.specs.declared.routine.Compare.{Compare}
use Rattle.acs_tree.specs.declared.routine.Ref.{Ref}
use Rattle.acs_tree.specs.declared.routine.Operand.{Operand}
use Rattle.acs_tree.specs.declared.routine.Cond.{Cond}
use Rattle.acs_tree.specs.declared.routine.Cond.TheVariants as condition
use Rattle.acs_parse.specs.declared.list_kind.ListKind.TheVariants as list
use Rattle.acs_symbol.specs.declared.symbol.Symbol.{Symbol}
use Rattle.acs_symbol.specs.declared.symbol.Symbol.TheVariants.{Variable, Open, Close}
use Rattle.acs_parse.specs.declared.want.Want.{Want}
use Rattle.acs_parse.specs.declared.want.Want.TheVariants as want
use Rattle.acs_parse.specs.declared.fault.Fault.{Fault}
use Rattle.acs_parse.specs.declared.fault.Fault.TheVariants.{Deep}
use Rattle.acs_parse.specs.Wants.{fits}
use Rattle.acs_parse.specs.Grammar.{starts, place_in, back, limited, IsOperator, IsIndex, IsRef, ref, IsOperand, IsCond}
use Rattle.acs_parse.specs.Grammar.{cond_of, IsOrs, no_or, or_more, IsConj, conj_of, IsAnds, no_and, and_more, IsPrim}
use Rattle.acs_parse.specs.Grammar.{test, group}
use Rattle.acs_parse.specs.Inner.Table.{Effect, Keep, Lower, To, Part, One, ACondition, MoreOrs, AConjunct, MoreAnds}
use Rattle.acs_parse.specs.Inner.Table.{ATest, AnOperand, ARef, Read, Full, Pass, gate, rule, TooMany, Verdict, verdict}
use Rattle.acs_parse.specs.Inner.Language.{Takes}
use Rattle.acs_parse.specs.Inner.Reads.{Fails, FailsAt, IsCondBefore}
use Rattle.acs_parse.proofs.RunLemmas.{moved, opened, runs_one, runs_ref, runs_cond, runs_conj, runs_prim, conj_as_test}
use Rattle.acs_parse.proofs.RunLemmas.{cond_as_conj, fits_operator}
use Rattle.acs_parse.proofs.SoundLemmas.{is_variable}
use Rattle.acs_parse.proofs.ShorterLemmas.{conj_shorter, prim_shorter, cond_shorter, takes_shorter}
use Rattle.acs_parse.proofs.OperandLemmas.{along, takes_close}

-- the part of a condition that AND joins, so far
pub record AndTurn (total n : ℕ) (ts : List Symbol) (x : Cond) (m : ℕ) (rest : List Symbol) : Type 0 where
  pub done : (c : Cond) (p : ℕ) (r : List Symbol) → IsAnds total limited m x rest c p r → IsConj total limited n ts c p r
  pub same : (k : List Part) → verdict limited (AConjunct ∷ k) n ts ≡ verdict limited (MoreAnds ∷ k) m rest
  pub shorter : length rest < length ts

pub and_first : {total n m : ℕ} {ts rest : List Symbol} {x : Cond} → IsPrim total limited n ts x m rest → AndTurn total n ts x m rest
and_first {n = n} {ts = ts} d = record {
  done = λ c p r ds. conj_of d ds;
  same = λ k. conj_as_test limited ts k n ∙ runs_prim limited d (MoreAnds ∷ k);
  shorter = prim_shorter d;
}

goes_and : (m i : ℕ) {rest a : List Symbol} → Takes want.And rest a → limited m ≡ true → i ≡ suc m → (k : List Part) → verdict limited (MoreAnds ∷ k) m rest ≡ verdict limited (ATest ∷ MoreAnds ∷ k) i a
goes_and m i {rest} {a} q e f k =
    ap (λ x. verdict limited (MoreAnds ∷ k) m x) q.2 ∙ opened limited MoreAnds q.0 m (ATest ∷ MoreAnds ∷ []) k a (ap (λ x. cond x (gate limited m (ATest ∷ MoreAnds ∷ [])) (Pass m)) q.1) e ∙ ap (λ x. verdict limited (ATest ∷ MoreAnds ∷ k) x a) (sym f)

pub and_turn : {total n m i p : ℕ} {ts rest a left : List Symbol} {x y z : Cond} → AndTurn total n ts x m rest → (limited m ≡ true) × (i ≡ suc m) → Takes want.And rest a
    → IsPrim total limited i a y p left → z ≡ condition.And x y → AndTurn total n ts z p left
and_turn {total} {n} {m} {i} {p} {ts} {rest} {a} {left} {x} {y} {z} t o q d f =
    let b : IsPrim total limited (suc m) a y p left = subst (λ v. IsPrim total limited v a y p left) o.1 d in
    let turn : AndTurn total n ts (condition.And x y) p left = record {
      done = λ c v r ds. t.done c v r (subst (λ w. IsAnds total limited m x w c v r) (sym q.2) (and_more q.1 o.0 b ds));
      same = λ k. t.same k ∙ goes_and m i q o.0 o.1 k ∙ runs_prim limited d (MoreAnds ∷ k);
      shorter = omega (arith, t.shorter, prim_shorter d, takes_shorter want.And q);
    } in
    subst (λ w. AndTurn total n ts w p left) (sym f) turn

pub and_over : {total n m : ℕ} {ts rest : List Symbol} {x : Cond} → AndTurn total n ts x m rest → starts want.And rest ≡ false → IsConj total limited n ts x m rest
and_over {total} {n} {m} {ts} {rest} {x} t e = t.done x m rest (no_and e)

pub and_fails_first : (e : Fault) (n : ℕ) (ts : List Symbol) → FailsAt e (ATest ∷ []) n ts → FailsAt e (AConjunct ∷ []) n ts
and_fails_first e n ts h k = along e (conj_as_test limited ts k n) (h (MoreAnds ∷ k))

deep_at : (s : Part) (w : Want) (new k : List Part) (m : ℕ) (ts : List Symbol) → ((t : Symbol) → rule limited s m t ≡ cond (fits w t) (gate limited m new) (Pass m)) → starts w ts ≡ true → limited m ≡ false
    → verdict limited (s ∷ k) m ts ≡ TooMany (length ts)
deep_at s w new k m [] r e f = cc
deep_at s w new k m (t ∷ ts) r e f =
    moved limited s k m t ts Full (r t ∙ ap (λ b. cond b (gate limited m new) (Pass m)) e ∙ ap (λ b. cond b (Read (suc m) new) Full) f)

pub fails_deep : (e : Fault) {l : ℕ} {v : Verdict} → e ≡ Deep l → v ≡ TooMany l → Fails e v
fails_deep e {l} {v} f g = subst (λ x. Fails x v) (sym f) g

pub and_deep : (e : Fault) {total n m : ℕ} {ts rest : List Symbol} {x : Cond} → AndTurn total n ts x m rest → starts want.And rest ≡ true → (limited m ≡ false) × (e ≡ Deep (length rest)) → FailsAt e (AConjunct ∷ []) n ts
and_deep e {m = m} {rest = rest} t s o k = fails_deep e o.1 (t.same k ∙ deep_at MoreAnds want.And (ATest ∷ MoreAnds ∷ []) k m rest (λ t. refl) s o.0)

-- where AND stands it is read
and_one : (m : ℕ) (ts : List Symbol) (k : List Part) → starts want.And ts ≡ true → limited m ≡ true → verdict limited (MoreAnds ∷ k) m ts ≡ verdict limited (One want.And (To (suc m)) ∷ ATest ∷ MoreAnds ∷ k) m ts
and_one m [] k e f = cc
and_one m (t ∷ ts) k e f = goes_and m (suc m) {rest = t ∷ ts} {a = ts} (t, e, refl) f refl k ∙ sym (runs_one limited want.And (To (suc m)) (ATest ∷ MoreAnds ∷ k) m t ts e)

pub and_word_fails : (e : Fault) {total n m i : ℕ} {ts rest : List Symbol} {x : Cond} → AndTurn total n ts x m rest → starts want.And rest ≡ true → (limited m ≡ true) × (i ≡ suc m)
    → ((f : Effect) (v : ℕ) → FailsAt e (One want.And f ∷ []) v rest) → FailsAt e (AConjunct ∷ []) n ts
and_word_fails e {m = m} {rest = rest} t s o h k = along e (t.same k ∙ and_one m rest k s o.0) (h (To (suc m)) m (ATest ∷ MoreAnds ∷ k))

pub and_fails : (e : Fault) {total n m i : ℕ} {ts rest a : List Symbol} {x : Cond} → AndTurn total n ts x m rest → (limited m ≡ true) × (i ≡ suc m) → Takes want.And rest a
    → FailsAt e (ATest ∷ []) i a → FailsAt e (AConjunct ∷ []) n ts
and_fails e {m = m} {i = i} t o q h k = along e (t.same k ∙ goes_and m i q o.0 o.1 k) (h (MoreAnds ∷ k))

-- the condition so far
pub record OrTurn (total n : ℕ) (ts : List Symbol) (x : Cond) (m : ℕ) (rest : List Symbol) : Type 0 where
  pub done : (c : Cond) (p : ℕ) (r : List Symbol) → IsOrs total limited m x rest c p r → IsCond total limited n ts c p r
  pub same : (k : List Part) → verdict limited (ACondition ∷ k) n ts ≡ verdict limited (MoreOrs ∷ k) m rest
  pub shorter : length rest < length ts

pub or_first : {total n m : ℕ} {ts rest : List Symbol} {x : Cond} → IsConj total limited n ts x m rest → OrTurn total n ts x m rest
or_first {n = n} {ts = ts} d = record {
  done = λ c p r ds. cond_of d ds;
  same = λ k. cond_as_conj limited ts k n ∙ runs_conj limited d (MoreOrs ∷ k);
  shorter = conj_shorter d;
}

goes_or : (m i : ℕ) {rest a : List Symbol} → Takes want.Or rest a → limited m ≡ true → i ≡ suc m → (k : List Part) → verdict limited (MoreOrs ∷ k) m rest ≡ verdict limited (AConjunct ∷ MoreOrs ∷ k) i a
goes_or m i {rest} {a} q e f k =
    ap (λ x. verdict limited (MoreOrs ∷ k) m x) q.2 ∙ opened limited MoreOrs q.0 m (AConjunct ∷ MoreOrs ∷ []) k a (ap (λ x. cond x (gate limited m (AConjunct ∷ MoreOrs ∷ [])) (Pass m)) q.1) e ∙ ap (λ x. verdict limited (AConjunct ∷ MoreOrs ∷ k) x a) (sym f)

pub or_turn : {total n m i p : ℕ} {ts rest a left : List Symbol} {x y z : Cond} → OrTurn total n ts x m rest → (limited m ≡ true) × (i ≡ suc m) → Takes want.Or rest a
    → IsConj total limited i a y p left → z ≡ condition.Or x y → OrTurn total n ts z p left
or_turn {total} {n} {m} {i} {p} {ts} {rest} {a} {left} {x} {y} {z} t o q d f =
    let b : IsConj total limited (suc m) a y p left = subst (λ v. IsConj total limited v a y p left) o.1 d in
    let turn : OrTurn total n ts (condition.Or x y) p left = record {
      done = λ c v r ds. t.done c v r (subst (λ w. IsOrs total limited m x w c v r) (sym q.2) (or_more q.1 o.0 b ds));
      same = λ k. t.same k ∙ goes_or m i q o.0 o.1 k ∙ runs_conj limited d (MoreOrs ∷ k);
      shorter = omega (arith, t.shorter, conj_shorter d, takes_shorter want.Or q);
    } in
    subst (λ w. OrTurn total n ts w p left) (sym f) turn

pub or_over : {total n m : ℕ} {ts rest : List Symbol} {x : Cond} → OrTurn total n ts x m rest → starts want.Or rest ≡ false → IsCond total limited n ts x m rest
or_over {total} {n} {m} {ts} {rest} {x} t e = t.done x m rest (no_or e)

pub or_fails_first : (e : Fault) (n : ℕ) (ts : List Symbol) → FailsAt e (AConjunct ∷ []) n ts → FailsAt e (ACondition ∷ []) n ts
or_fails_first e n ts h k = along e (cond_as_conj limited ts k n) (h (MoreOrs ∷ k))

pub or_deep : (e : Fault) {total n m : ℕ} {ts rest : List Symbol} {x : Cond} → OrTurn total n ts x m rest → starts want.Or rest ≡ true → (limited m ≡ false) × (e ≡ Deep (length rest)) → FailsAt e (ACondition ∷ []) n ts
or_deep e {m = m} {rest = rest} t s o k = fails_deep e o.1 (t.same k ∙ deep_at MoreOrs want.Or (AConjunct ∷ MoreOrs ∷ []) k m rest (λ t. refl) s o.0)

-- where OR stands it is read
or_one : (m : ℕ) (ts : List Symbol) (k : List Part) → starts want.Or ts ≡ true → limited m ≡ true → verdict limited (MoreOrs ∷ k) m ts ≡ verdict limited (One want.Or (To (suc m)) ∷ AConjunct ∷ MoreOrs ∷ k) m ts
or_one m [] k e f = cc
or_one m (t ∷ ts) k e f = goes_or m (suc m) {rest = t ∷ ts} {a = ts} (t, e, refl) f refl k ∙ sym (runs_one limited want.Or (To (suc m)) (AConjunct ∷ MoreOrs ∷ k) m t ts e)

pub or_word_fails : (e : Fault) {total n m i : ℕ} {ts rest : List Symbol} {x : Cond} → OrTurn total n ts x m rest → starts want.Or rest ≡ true → (limited m ≡ true) × (i ≡ suc m)
    → ((f : Effect) (v : ℕ) → FailsAt e (One want.Or f ∷ []) v rest) → FailsAt e (ACondition ∷ []) n ts
or_word_fails e {m = m} {rest = rest} t s o h k = along e (t.same k ∙ or_one m rest k s o.0) (h (To (suc m)) m (AConjunct ∷ MoreOrs ∷ k))

pub or_fails : (e : Fault) {total n m i : ℕ} {ts rest a : List Symbol} {x : Cond} → OrTurn total n ts x m rest → (limited m ≡ true) × (i ≡ suc m) → Takes want.Or rest a
    → FailsAt e (AConjunct ∷ []) i a → FailsAt e (ACondition ∷ []) n ts
or_fails e {m = m} {i = i} t o q h k = along e (t.same k ∙ goes_or m i q o.0 o.1 k) (h (MoreOrs ∷ k))

goes_group : (n i : ℕ) {ts a : List Symbol} → ts ≡ Open ∷ a → (limited n ≡ true) × (i ≡ suc n) → (k : List Part) → verdict limited (ATest ∷ k) n ts ≡ verdict limited (ACondition ∷ One want.Close Lower ∷ k) i a
goes_group n i {ts} {a} e o k =
    ap (λ x. verdict limited (ATest ∷ k) n x) e ∙ opened limited ATest Open n (ACondition ∷ One want.Close Lower ∷ []) k a refl o.0 ∙ ap (λ x. verdict limited (ACondition ∷ One want.Close Lower ∷ k) x a) (sym o.1)

pub prim_group : {total n i m p : ℕ} {ts a b rest : List Symbol} {c : Cond} → ts ≡ Open ∷ a → (limited n ≡ true) × (i ≡ suc n) → IsCond total limited i a c m b → Takes want.Close b rest → p ≡ back m
    → IsPrim total limited n ts c p rest
prim_group {total} {n} {i} {m} {p} {ts} {a} {b} {rest} {c} e o d q f =
    let g : IsCond total limited (suc n) a c m (Close ∷ rest) = subst (λ r. IsCond total limited (suc n) a c m r) (takes_close q) (subst (λ v. IsCond total limited v a c m b) o.1 d) in
    subst (λ v. IsPrim total limited n ts c v rest) (sym f) (subst (λ x. IsPrim total limited n x c (back m) rest) (sym e) (group o.0 g))

pub prim_deep : (e : Fault) (n : ℕ) {ts a : List Symbol} → ts ≡ Open ∷ a → (limited n ≡ false) × (e ≡ Deep (length ts)) → FailsAt e (ATest ∷ []) n ts
prim_deep e n {ts} {a} q o k =
    let g : verdict limited (ATest ∷ k) n (Open ∷ a) ≡ TooMany (length (Open ∷ a)) = moved limited ATest k n Open a Full (ap (λ b. cond b (Read (suc n) (ACondition ∷ One want.Close Lower ∷ [])) Full) o.0) in
    fails_deep e o.1 (subst (λ x. verdict limited (ATest ∷ k) n x ≡ TooMany (length x)) (sym q) g)

pub prim_cond_fails : (e : Fault) {n i : ℕ} {ts a : List Symbol} → ts ≡ Open ∷ a → (limited n ≡ true) × (i ≡ suc n) → FailsAt e (ACondition ∷ []) i a → FailsAt e (ATest ∷ []) n ts
prim_cond_fails e {n} {i} q o h k = along e (goes_group n i q o k) (h (One want.Close Lower ∷ k))

pub prim_close_fails : (e : Fault) {total n i m : ℕ} {ts a b : List Symbol} {c : Cond} → ts ≡ Open ∷ a → (limited n ≡ true) × (i ≡ suc n) → IsCond total limited i a c m b
    → ((f : Effect) (v : ℕ) → FailsAt e (One want.Close f ∷ []) v b) → FailsAt e (ATest ∷ []) n ts
prim_close_fails e {n = n} {i = i} {m = m} q o d h k = along e (goes_group n i q o k ∙ runs_cond limited d (One want.Close Lower ∷ k)) (h Lower m k)

pub prim_starts : {name : List ℕ} {ts a : List Symbol} → ts ≡ Variable name ∷ a → starts want.Variable ts ≡ true
prim_starts e = ap (λ x. starts want.Variable x) e

-- where a variable stands it is read
test_ref : (n : ℕ) (ts : List Symbol) (k : List Part) → starts want.Variable ts ≡ true → verdict limited (ATest ∷ k) n ts ≡ verdict limited (ARef ∷ One want.Operator Keep ∷ AnOperand list.Items ∷ k) n ts
test_ref n [] k e = cc
test_ref n (t ∷ ts) k e =
    let v = is_variable t e in
    ap (λ x. verdict limited (ATest ∷ k) n (x ∷ ts)) v.1 ∙ ap (λ x. verdict limited (ARef ∷ One want.Operator Keep ∷ AnOperand list.Items ∷ k) n (x ∷ ts)) (sym v.1)

pub test_ref_fails : (e : Fault) (ts : List Symbol) → starts want.Variable ts ≡ true → ((m : ℕ) → FailsAt e (ARef ∷ []) m ts) → (n : ℕ) → FailsAt e (ATest ∷ []) n ts
test_ref_fails e ts s h n k = along e (test_ref n ts k s) (h n (One want.Operator Keep ∷ AnOperand list.Items ∷ k))

pub test_operator_fails : (e : Fault) {total : ℕ} {ts a : List Symbol} {r : Ref} → starts want.Variable ts ≡ true → IsRef total ts r a → ((f : Effect) (m : ℕ) → FailsAt e (One want.Operator f ∷ []) m a)
    → (n : ℕ) → FailsAt e (ATest ∷ []) n ts
test_operator_fails e {ts = ts} s d h n k = along e (test_ref n ts k s ∙ runs_ref limited n d (One want.Operator Keep ∷ AnOperand list.Items ∷ k)) (h Keep n (AnOperand list.Items ∷ k))

pub test_operand_fails : (e : Fault) {total : ℕ} {ts a b : List Symbol} {r : Ref} {op : Compare} → starts want.Variable ts ≡ true → IsRef total ts r a → ((t : Symbol) × IsOperator t op × (a ≡ t ∷ b))
    → ((m : ℕ) → FailsAt e (AnOperand list.Items ∷ []) m b) → (n : ℕ) → FailsAt e (ATest ∷ []) n ts
test_operand_fails e {ts = ts} {b = b} s d q h n k =
    along e (test_ref n ts k s ∙ runs_ref limited n d (One want.Operator Keep ∷ AnOperand list.Items ∷ k) ∙ ap (λ x. verdict limited (One want.Operator Keep ∷ AnOperand list.Items ∷ k) n x) q.2 ∙ runs_one limited want.Operator Keep (AnOperand list.Items ∷ k) n q.0 b (fits_operator q.1)) (h n k)

test_of : {total n at : ℕ} {ts a b rest : List Symbol} {r : Ref} {op : Compare} {o : Operand} → IsRef total ts r a → ((t : Symbol) × IsOperator t op × (a ≡ t ∷ b)) → at ≡ place_in total a
    → IsOperand total list.Items b o rest → IsPrim total limited n ts (condition.Test r op at o) n rest
test_of {total} {n} {at} {b = b} {rest = rest} {op = op} {o = o} (ref {name = name} {ts = ts} {i = i} {at = to} d) q f c =
    let g : IsIndex total ts i to (q.0 ∷ b) = subst (λ x. IsIndex total ts i to x) q.2 d in
    let h : at ≡ place_in total (q.0 ∷ b) = f ∙ ap (λ x. place_in total x) q.2 in
    subst (λ x. IsPrim total limited n (Variable name ∷ ts) (condition.Test (record { at = place_in total (Variable name ∷ ts); name = name; index = i; index_at = to }) op x o) n rest) (sym h) (test (ref g) q.1 c)

pub test_at : {total at : ℕ} {ts a b rest : List Symbol} {r : Ref} {op : Compare} {o : Operand} {x : Cond} → IsRef total ts r a → ((t : Symbol) × IsOperator t op × (a ≡ t ∷ b)) → at ≡ place_in total a
    → IsOperand total list.Items b o rest → x ≡ condition.Test r op at o → (n : ℕ) → IsPrim total limited n ts x n rest
test_at {total} {at} {ts} {a} {b} {rest} {r} {op} {o} {x} d q f c g n = subst (λ y. IsPrim total limited n ts y n rest) (sym g) (test_of d q f c)

pub cond_then : {total n m : ℕ} (w : Want) {ts a rest : List Symbol} {c : Cond} → IsCond total limited n ts c m a → Takes w a rest → IsCondBefore total w n ts c rest
cond_then {m = m} w {a = a} d q = (m, a, d, q)

pub before_cond_fails : (e : Fault) (n : ℕ) (w : Want) (ts : List Symbol) → FailsAt e (ACondition ∷ []) n ts → FailsAt e (ACondition ∷ One w (To n) ∷ []) n ts
before_cond_fails e n w ts h k = h (One w (To n) ∷ k)

pub before_word_fails : (e : Fault) {total n m : ℕ} (w : Want) {ts a : List Symbol} {c : Cond} → IsCond total limited n ts c m a → ((f : Effect) (v : ℕ) → FailsAt e (One w f ∷ []) v a)
    → FailsAt e (ACondition ∷ One w (To n) ∷ []) n ts
before_word_fails e {n = n} {m = m} w d h k = along e (runs_cond limited d (One w (To n) ∷ k)) (h (To n) m k)

pub before_shorter : {total n : ℕ} (w : Want) {ts rest : List Symbol} {c : Cond} → IsCondBefore total w n ts c rest → length rest < length ts
before_shorter w (m, a, d, q) = omega (arith, cond_shorter d, takes_shorter w q)

-- what each reader needs of these

pub ruleset cond_steps = (or_first, or_over, or_fails_first, or_deep, or_word_fails, or_fails)

pub ruleset conj_steps = (and_first, and_over, and_fails_first, and_deep, and_word_fails, and_fails)

pub ruleset prim_steps = (prim_group, prim_deep, prim_cond_fails, prim_close_fails, prim_starts)

pub ruleset comparison_steps = (test_at, test_ref_fails, test_operator_fails, test_operand_fails)
