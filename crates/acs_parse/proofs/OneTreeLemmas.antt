-- Tokens have at most one tree, and it ends at one place.
use Rattle.std.proofs.Common.{◌≡◌, ℕ, Bool, true, false, List, ◌∷◌, length, refl, ap, sym, ◌∙◌, subst}
use Rattle.std.specs.Prelude.{◌||◌, Option, Some}
use Rattle.acs_tree.specs.declared.routine.Compare.{Compare}
use Rattle.acs_tree.specs.declared.routine.Ref.{Ref}
use Rattle.acs_tree.specs.declared.routine.Operand.{Operand}
use Rattle.acs_tree.specs.declared.routine.OperandForm.TheVariants as operand
use Rattle.acs_tree.specs.declared.routine.Cond.{Cond}
use Rattle.acs_tree.specs.declared.routine.Cond.TheVariants as condition
use Rattle.acs_tree.specs.declared.routine.WhenTest.{WhenTest}
use Rattle.acs_tree.specs.declared.routine.WhenTest.TheVariants as when_test
use Rattle.acs_tree.specs.declared.routine.When.{When}
use Rattle.acs_tree.specs.declared.routine.Stmt.{Stmt}
use Rattle.acs_tree.specs.declared.routine.Routine.{Routine}
use Rattle.acs_parse.specs.declared.list_kind.ListKind.{ListKind}
use Rattle.acs_parse.specs.declared.list_kind.ListKind.TheVariants as list
use Rattle.acs_symbol.specs.declared.symbol.WordKind.TheVariants as word
use Rattle.acs_symbol.specs.declared.symbol.Symbol.{Symbol}
use Rattle.acs_symbol.specs.declared.symbol.Symbol.TheVariants.{Word, Variable, Open, Comma}
use Rattle.acs_parse.specs.declared.want.Want.{Want}
use Rattle.acs_parse.specs.declared.want.Want.TheVariants as want
use Rattle.acs_parse.specs.Wants.{fits}
use Rattle.acs_parse.specs.Grammar.{operand_at, when_at, joins, back, IsOperator, by_sign, by_word, IsListName}
use Rattle.acs_parse.specs.Grammar.{named_by_word, named_by_variable, IsHead, headed_by_word, headed_by_variable}
use Rattle.acs_parse.specs.Grammar.{IsIndex, no_index, index, IsRef, ref, IsOperand, literal, word_of, variable}
use Rattle.acs_parse.specs.Grammar.{IsFurther, no_further, after_comma, joined, IsOperands, operands, IsExclude}
use Rattle.acs_parse.specs.Grammar.{no_exclude, exclude, IsLists, including, excluding, IsFilter, filter, IsCode}
use Rattle.acs_parse.specs.Grammar.{no_code, code, IsCond, cond_of, IsOrs, no_or, or_more, IsConj, conj_of, IsAnds}
use Rattle.acs_parse.specs.Grammar.{no_and, and_more, IsPrim, test, group, IsStmt, set, choice, pick, group_of, write}
use Rattle.acs_parse.specs.Grammar.{exit, IsAlternative, no_alternative, alternative, IsChoice, by_value, by_condition}
use Rattle.acs_parse.specs.Grammar.{IsWhen, when_any, when_holds, IsWhens, no_when, more_whens, IsBlock, end_of}
use Rattle.acs_parse.specs.Grammar.{then_more, IsItem, item_filter, item_statement, IsOrNumber, no_number, number}
use Rattle.acs_parse.specs.Grammar.{IsRoutineOf, routine, IsRoutine}
use Rattle.acs_parse.proofs.RunLemmas.{item_not_end, not_filter, not_comma}

clash : {b : Bool} → b ≡ true → b ≡ false → ⊥
clash e f = cc

tail_of : {s t : Symbol} {a b : List Symbol} → s ∷ a ≡ t ∷ b → a ≡ b
tail_of e = cc

head_of : {s t : Symbol} {a b : List Symbol} → s ∷ a ≡ t ∷ b → s ≡ t
head_of e = cc

either_false : (a b : Bool) → (a || b) ≡ false → b ≡ false
either_false true b e = cc
either_false false b e = e

once_operator : {t : Symbol} {x y : Compare} → IsOperator t x → IsOperator t y → x ≡ y
once_operator by_sign by_sign = refl
once_operator by_word by_word = refl

once_name : {t : Symbol} {x y : List ℕ} → IsListName t x → IsListName t y → x ≡ y
once_name named_by_word named_by_word = refl
once_name named_by_variable named_by_variable = refl

once_head : {t : Symbol} {x y : List ℕ} → IsHead t x → IsHead t y → x ≡ y
once_head (headed_by_word e) (headed_by_word f) = refl
once_head headed_by_variable headed_by_variable = refl

pub same_when : (total : ℕ) (ts : List Symbol) {x y : WhenTest} {s t : Stmt} → x ≡ y → s ≡ t → when_at total ts x s ≡ when_at total ts y t
same_when total ts {x} {y} {s} {t} e f = ap (λ z. when_at total ts z s) e ∙ ap (λ z. when_at total ts y z) f

module _ (total : ℕ) where
  once_index : {ts r s : List Symbol} {i j : Option (List ℕ)} {at to : ℕ} → IsIndex total ts i at r → IsIndex total ts j to s → (i ≡ j) × (at ≡ to) × (r ≡ s)
  once_index (no_index e) (no_index f) = (refl, refl, refl)
  once_index (no_index e) index = absurd (clash refl e)
  once_index index (no_index f) = absurd (clash refl f)
  once_index index index = (refl, refl, refl)

  once_ref : {ts r s : List Symbol} {x y : Ref} → IsRef total ts x r → IsRef total ts y s → (x ≡ y) × (r ≡ s)
  once_ref (ref d) (ref e) = let p = once_index d e in (cc (p.0, p.1), p.2)

  once_operand : {kind : ListKind} {ts r s : List Symbol} {x y : Operand} → IsOperand total kind ts x r → IsOperand total kind ts y s → (x ≡ y) × (r ≡ s)
  once_operand literal literal = (refl, refl)
  once_operand (word_of e) (word_of f) = (refl, refl)
  once_operand (variable {name = name} {ts = ts} e d) (variable f g) =
      let p = once_ref d g in
      (ap (λ x. operand_at total (Variable name ∷ ts) (operand.Var x)) p.0, p.1)

  further_along : {kind : ListKind} {a b r : List Symbol} {os : List Operand} → a ≡ b → IsFurther total kind b os r → IsFurther total kind a os r
  further_along {kind = kind} {r = r} {os = os} e d = subst (λ m. IsFurther total kind m os r) (sym e) d

  once_further : {kind : ListKind} {ts r s : List Symbol} {x y : List Operand} → IsFurther total kind ts x r → IsFurther total kind ts y s → (x ≡ y) × (r ≡ s)
  once_further (no_further e) (no_further f) = (refl, refl)
  once_further (no_further e) (after_comma b bs) = absurd (clash refl e)
  once_further {kind = kind} (no_further e) (joined {t = t} f b bs) = absurd (clash f (either_false (fits want.Comma t) (joins kind t) e))
  once_further (after_comma a as1) (no_further f) = absurd (clash refl f)
  once_further (after_comma a as1) (after_comma b bs) =
      let p = once_operand a b in
      let q = once_further as1 (further_along p.1 bs) in
      (cc (p.0, q.0), q.1)
  once_further {kind = kind} (after_comma a as1) (joined f b bs) = absurd (clash refl (not_comma (λ n. true) kind Comma f))
  once_further {kind = kind} (joined {t = t} e a as1) (no_further f) = absurd (clash e (either_false (fits want.Comma t) (joins kind t) f))
  once_further {kind = kind} (joined e a as1) (after_comma b bs) = absurd (clash refl (not_comma (λ n. true) kind Comma e))
  once_further (joined e a as1) (joined f b bs) =
      let p = once_operand a b in
      let q = once_further as1 (further_along p.1 bs) in
      (cc (p.0, q.0), q.1)

  once_operands : {kind : ListKind} {ts r s : List Symbol} {x y : List Operand} → IsOperands total kind ts x r → IsOperands total kind ts y s → (x ≡ y) × (r ≡ s)
  once_operands (operands a as1) (operands b bs) =
      let p = once_operand a b in
      let q = once_further as1 (further_along p.1 bs) in
      (cc (p.0, q.0), q.1)

  once_exclude : {ts r s : List Symbol} {x y : List Operand} → IsExclude total ts x r → IsExclude total ts y s → (x ≡ y) × (r ≡ s)
  once_exclude (no_exclude e) (no_exclude f) = (refl, refl)
  once_exclude (no_exclude e) (exclude b) = absurd (clash refl e)
  once_exclude (exclude a) (no_exclude f) = absurd (clash refl f)
  once_exclude (exclude a) (exclude b) = let p = once_operands a b in (p.0, tail_of p.1)

  exclude_along : {a b r : List Symbol} {os : List Operand} → a ≡ b → IsExclude total b os r → IsExclude total a os r
  exclude_along {r = r} {os = os} e d = subst (λ m. IsExclude total m os r) (sym e) d

  once_lists : {ts r s : List Symbol} {x y z w : List Operand} → IsLists total ts x z r → IsLists total ts y w s → (x ≡ y) × (z ≡ w) × (r ≡ s)
  once_lists (including a c) (including b d) =
      let p = once_operands a b in
      let q = once_exclude c (exclude_along (tail_of p.1) d) in
      (p.0, q.0, q.1)
  once_lists (excluding a) (excluding b) = let p = once_operands a b in (refl, p.0, tail_of p.1)

  once_filter : {ts r s : List Symbol} {x y : Stmt} → IsFilter total ts x r → IsFilter total ts y s → (x ≡ y) × (r ≡ s)
  once_filter (filter a c) (filter b d) =
      let p = once_name a b in
      let q = once_lists c d in
      (cc (p, q.0, q.1), q.2)

  once_code : {ts r s : List Symbol} {x y : Option Operand} → IsCode total ts x r → IsCode total ts y s → (x ≡ y) × (r ≡ s)
  once_code (no_code e) (no_code f) = (refl, refl)
  once_code (no_code e) code = absurd (clash refl e)
  once_code code (no_code f) = absurd (clash refl f)
  once_code code code = (refl, refl)

  module _ (may : ℕ → Bool) where
    ors_along : {n p m : ℕ} {x y c : Cond} {a b r : List Symbol} → x ≡ y → n ≡ p → a ≡ b → IsOrs total may p y b c m r → IsOrs total may n x a c m r
    ors_along {n} {p} {m} {x} {y} {c} {a} {b} {r} e g f d =
        subst (λ k. IsOrs total may k x a c m r) (sym g) (subst (λ z. IsOrs total may p x z c m r) (sym f) (subst (λ z. IsOrs total may p z b c m r) (sym e) d))

    ands_along : {n p m : ℕ} {x y c : Cond} {a b r : List Symbol} → x ≡ y → n ≡ p → a ≡ b → IsAnds total may p y b c m r → IsAnds total may n x a c m r
    ands_along {n} {p} {m} {x} {y} {c} {a} {b} {r} e g f d =
        subst (λ k. IsAnds total may k x a c m r) (sym g) (subst (λ z. IsAnds total may p x z c m r) (sym f) (subst (λ z. IsAnds total may p z b c m r) (sym e) d))

    mutual
      once_cond : {n m p : ℕ} {ts r s : List Symbol} {x y : Cond} → IsCond total may n ts x m r → IsCond total may n ts y p s → (x ≡ y) × (m ≡ p) × (r ≡ s)
      once_cond (cond_of a as1) (cond_of b bs) =
          let q = once_conj a b in
          once_ors as1 (ors_along q.0 q.1 q.2 bs)

      once_ors : {n m p : ℕ} {z x y : Cond} {ts r s : List Symbol} → IsOrs total may n z ts x m r → IsOrs total may n z ts y p s → (x ≡ y) × (m ≡ p) × (r ≡ s)
      once_ors (no_or e) (no_or f) = (refl, refl, refl)
      once_ors (no_or e) (or_more g f b bs) = absurd (clash g e)
      once_ors (or_more g e a as1) (no_or f) = absurd (clash g f)
      once_ors {z = z} (or_more g e a as1) (or_more h f b bs) =
          let q = once_conj a b in
          once_ors as1 (ors_along (ap (λ x. condition.Or z x) q.0) q.1 q.2 bs)

      once_conj : {n m p : ℕ} {ts r s : List Symbol} {x y : Cond} → IsConj total may n ts x m r → IsConj total may n ts y p s → (x ≡ y) × (m ≡ p) × (r ≡ s)
      once_conj (conj_of a as1) (conj_of b bs) =
          let q = once_prim a b in
          once_ands as1 (ands_along q.0 q.1 q.2 bs)

      once_ands : {n m p : ℕ} {z x y : Cond} {ts r s : List Symbol} → IsAnds total may n z ts x m r → IsAnds total may n z ts y p s → (x ≡ y) × (m ≡ p) × (r ≡ s)
      once_ands (no_and e) (no_and f) = (refl, refl, refl)
      once_ands (no_and e) (and_more g f b bs) = absurd (clash g e)
      once_ands (and_more g e a as1) (no_and f) = absurd (clash g f)
      once_ands {z = z} (and_more g e a as1) (and_more h f b bs) =
          let q = once_prim a b in
          once_ands as1 (ands_along (ap (λ x. condition.And z x) q.0) q.1 q.2 bs)

      once_prim : {n m p : ℕ} {ts r s : List Symbol} {x y : Cond} → IsPrim total may n ts x m r → IsPrim total may n ts y p s → (x ≡ y) × (m ≡ p) × (r ≡ s)
      once_prim (test a b c) (test {op = op} {rest = rest} {o = o} d e f) =
          let p = once_ref a d in
          let q = once_operator b (subst (λ t. IsOperator t op) (sym (head_of p.1)) e) in
          let r = once_operand c (subst (λ z. IsOperand total list.Items z o rest) (sym (tail_of p.1)) f) in
          (cc (p.0, p.1, q, r.0), refl, r.1)
      once_prim (group e a) (group f b) = let p = once_cond a b in (p.0, ap back p.1, tail_of p.2)

    stmt_along : {n : ℕ} {a b r : List Symbol} {s : Stmt} → a ≡ b → IsStmt total may n b s r → IsStmt total may n a s r
    stmt_along {n} {r = r} {s = s} e d = subst (λ m. IsStmt total may n m s r) (sym e) d

    alternative_along : {n : ℕ} {w : Want} {a b r : List Symbol} {s : Option Stmt} → a ≡ b → IsAlternative total may w n b s r → IsAlternative total may w n a s r
    alternative_along {n} {w} {r = r} {s = s} e d = subst (λ m. IsAlternative total may w n m s r) (sym e) d

    when_along : {n : ℕ} {v : Bool} {a b r : List Symbol} {w : When} → a ≡ b → IsWhen total may v n b w r → IsWhen total may v n a w r
    when_along {n} {v} {r = r} {w = w} e d = subst (λ m. IsWhen total may v n m w r) (sym e) d

    whens_along : {n : ℕ} {v : Bool} {a b r : List Symbol} {ws : List When} → a ≡ b → IsWhens total may v n b ws r → IsWhens total may v n a ws r
    whens_along {n} {v} {r = r} {ws = ws} e d = subst (λ m. IsWhens total may v n m ws r) (sym e) d

    block_along : {n : ℕ} {top : Bool} {a b r : List Symbol} {ss : List Stmt} → a ≡ b → IsBlock total may top n b ss r → IsBlock total may top n a ss r
    block_along {n} {top} {r = r} {ss = ss} e d = subst (λ m. IsBlock total may top n m ss r) (sym e) d

    operands_along : {kind : ListKind} {a b r : List Symbol} {os : List Operand} → a ≡ b → IsOperands total kind b os r → IsOperands total kind a os r
    operands_along {kind} {r = r} {os = os} e d = subst (λ m. IsOperands total kind m os r) (sym e) d

    mutual
      once_stmt : {n : ℕ} {ts r s : List Symbol} {x y : Stmt} → IsStmt total may n ts x r → IsStmt total may n ts y s → (x ≡ y) × (r ≡ s)
      once_stmt (set a e as1) (set b f bs) =
          let p = once_ref a b in
          let q = once_operands as1 (operands_along (tail_of p.1) bs) in
          (cc (p.0, q.0), q.1)
      once_stmt (choice e a b c) (choice f d g h) =
          let p = once_cond a d in
          let q = once_stmt b (stmt_along (tail_of p.2) g) in
          let r = once_alternative c (alternative_along q.1 h) in
          (cc (p.0, q.0, r.0), r.1)
      once_stmt (pick e a b) (pick f c d) =
          let p = once_choice a c in
          let q = once_alternative b (alternative_along p.2 d) in
          (cc (p.0, p.1, q.0), tail_of q.1)
      once_stmt (group_of e a) (group_of f b) = let p = once_block a b in (cc (p.0), p.1)
      once_stmt (write a) (write b) = let p = once_operands a b in (cc (p.0), p.1)
      once_stmt (exit a) (exit b) = let p = once_code a b in (cc (p.0), p.1)

      once_alternative : {n : ℕ} {w : Want} {ts r s : List Symbol} {x y : Option Stmt} → IsAlternative total may w n ts x r → IsAlternative total may w n ts y s → (x ≡ y) × (r ≡ s)
      once_alternative (no_alternative e) (no_alternative f) = (refl, refl)
      once_alternative (no_alternative e) (alternative g b) = absurd (clash g e)
      once_alternative (alternative g a) (no_alternative f) = absurd (clash g f)
      once_alternative (alternative g a) (alternative h b) = let p = once_stmt a b in (ap (λ x. Some x) p.0, p.1)

      once_choice : {n : ℕ} {ts r s : List Symbol} {x y : Option Ref} {ws vs : List When} → IsChoice total may n ts x ws r → IsChoice total may n ts y vs s → (x ≡ y) × (ws ≡ vs) × (r ≡ s)
      once_choice (by_value a b c) (by_value d e f) =
          let p = once_ref a d in
          let q = once_when b (when_along (tail_of p.1) e) in
          let r = once_whens c (whens_along q.1 f) in
          (ap (λ x. Some x) p.0, cc (q.0, r.0), r.1)
      once_choice (by_condition b c) (by_condition e f) =
          let q = once_when b e in
          let r = once_whens c (whens_along q.1 f) in
          (refl, cc (q.0, r.0), r.1)

      once_when : {n : ℕ} {v : Bool} {ts r s : List Symbol} {x y : When} → IsWhen total may v n ts x r → IsWhen total may v n ts y s → (x ≡ y) × (r ≡ s)
      once_when (when_any {a = k} {ts = ts} a b) (when_any c d) =
          let p = once_operands a c in
          let q = once_stmt b (stmt_along (tail_of p.1) d) in
          (same_when total (Word word.When k ∷ Open ∷ ts) (ap (λ z. when_test.Any z) p.0) q.0, q.1)
      once_when (when_holds {a = k} {ts = ts} a b) (when_holds c d) =
          let p = once_cond a c in
          let q = once_stmt b (stmt_along (tail_of p.2) d) in
          (same_when total (Word word.When k ∷ Open ∷ ts) (ap (λ z. when_test.Holds z) p.0) q.0, q.1)

      once_whens : {n : ℕ} {v : Bool} {ts r s : List Symbol} {x y : List When} → IsWhens total may v n ts x r → IsWhens total may v n ts y s → (x ≡ y) × (r ≡ s)
      once_whens (no_when e) (no_when f) = (refl, refl)
      once_whens (no_when e) (more_whens b bs) = absurd (clash refl e)
      once_whens (more_whens a as1) (no_when f) = absurd (clash refl f)
      once_whens (more_whens a as1) (more_whens b bs) =
          let p = once_when a b in
          let q = once_whens as1 (whens_along p.1 bs) in
          (cc (p.0, q.0), q.1)

      once_block : {n : ℕ} {top : Bool} {ts r s : List Symbol} {x y : List Stmt} → IsBlock total may top n ts x r → IsBlock total may top n ts y s → (x ≡ y) × (r ≡ s)
      once_block end_of end_of = (refl, refl)
      once_block end_of (then_more b bs) = absurd (clash refl (item_not_end may b))
      once_block (then_more a as1) end_of = absurd (clash refl (item_not_end may a))
      once_block (then_more a as1) (then_more b bs) =
          let p = once_item a b in
          let q = once_block as1 (block_along p.1 bs) in
          (cc (p.0, q.0), q.1)

      once_item : {n : ℕ} {top : Bool} {ts r s : List Symbol} {x y : Stmt} → IsItem total may top n ts x r → IsItem total may top n ts y s → (x ≡ y) × (r ≡ s)
      once_item (item_filter a) (item_filter b) = once_filter a b
      once_item (item_filter a) (item_statement b) = absurd (clash refl (not_filter may b))
      once_item (item_statement a) (item_filter b) = absurd (clash refl (not_filter may a))
      once_item (item_statement a) (item_statement b) = once_stmt a b

    once_number : {ts r s : List Symbol} → IsOrNumber ts r → IsOrNumber ts s → r ≡ s
    once_number (no_number e) (no_number f) = refl
    once_number (no_number e) number = absurd (clash refl e)
    once_number number (no_number f) = absurd (clash refl f)
    once_number number number = refl

    once_routine : {ts : List Symbol} {x y : Routine} → IsRoutineOf total may ts x → IsRoutineOf total may ts y → x ≡ y
    once_routine (routine a b c) (routine {name = name} {ss = ss} d e f) =
        let p = once_number a d in
        let q = once_head b (subst (λ t. IsHead t name) (sym (head_of p)) e) in
        let r = once_block c (block_along (tail_of p) f) in
        cc (p, q, r.0)

pub one_tree : {may : ℕ → Bool} {ts : List Symbol} {x y : Routine} → IsRoutine may ts x → IsRoutine may ts y → x ≡ y
one_tree {may} {ts} d e = once_routine (length ts) may d e
