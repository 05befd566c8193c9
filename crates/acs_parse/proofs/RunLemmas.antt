-- What a rule of the grammar reads, the table reads too, and then goes on with what is behind it.
use Rattle.std.proofs.Common.{◌≡◌, ◌&&◌, ℕ, suc, Bool, true, false, cond, List, [], ◌∷◌, ◌++◌, length, refl, sym, ap}
use Rattle.std.proofs.Common.{◌∙◌, append_assoc}
use Rattle.std.specs.Prelude.{◌||◌, Option}
use Rattle.acs_tree.specs.declared.routine.Compare.{Compare}
use Rattle.acs_tree.specs.declared.routine.Ref.{Ref}
use Rattle.acs_tree.specs.declared.routine.Operand.{Operand}
use Rattle.acs_tree.specs.declared.routine.Cond.{Cond}
use Rattle.acs_tree.specs.declared.routine.When.{When}
use Rattle.acs_tree.specs.declared.routine.Stmt.{Stmt}
use Rattle.acs_tree.specs.declared.routine.Routine.{Routine}
use Rattle.acs_parse.specs.declared.list_kind.ListKind.{ListKind}
use Rattle.acs_parse.specs.declared.list_kind.ListKind.TheVariants as list
use Rattle.acs_symbol.specs.declared.symbol.WordKind.TheVariants as word
use Rattle.acs_symbol.specs.declared.symbol.Symbol.{Symbol}
use Rattle.acs_symbol.specs.declared.symbol.Symbol.TheVariants.{Word, Variable, Literal, Open, Comma}
use Rattle.acs_parse.specs.declared.want.Want.{Want}
use Rattle.acs_parse.specs.declared.want.Want.TheVariants as want
use Rattle.acs_parse.specs.Wants.{fits}
use Rattle.acs_parse.specs.Grammar.{starts, takes_words, takes_variables, joins, goes_on, back, IsOperator, by_sign}
use Rattle.acs_parse.specs.Grammar.{by_word, IsListName, named_by_word, named_by_variable, IsHead, headed_by_word}
use Rattle.acs_parse.specs.Grammar.{headed_by_variable, IsIndex, no_index, index, IsRef, ref, IsOperand, literal}
use Rattle.acs_parse.specs.Grammar.{word_of, variable, IsFurther, no_further, after_comma, joined, IsOperands, operands}
use Rattle.acs_parse.specs.Grammar.{IsExclude, no_exclude, exclude, IsLists, including, excluding, IsFilter, filter}
use Rattle.acs_parse.specs.Grammar.{IsCode, no_code, code, IsCond, cond_of, IsOrs, no_or, or_more, IsConj, conj_of}
use Rattle.acs_parse.specs.Grammar.{IsAnds, no_and, and_more, IsPrim, test, group, IsStmt, set, choice, pick, group_of}
use Rattle.acs_parse.specs.Grammar.{write, exit, IsAlternative, no_alternative, alternative, IsChoice, by_value}
use Rattle.acs_parse.specs.Grammar.{by_condition, IsWhen, when_any, when_holds, IsWhens, no_when, more_whens, IsBlock}
use Rattle.acs_parse.specs.Grammar.{end_of, then_more, IsItem, item_filter, item_statement, IsOrNumber, no_number}
use Rattle.acs_parse.specs.Grammar.{number, IsRoutineOf, routine}
use Rattle.acs_parse.specs.Inner.Table.{Effect, Keep, Lower, To, effect, Part, One, OrNumber, ABlock, AnItem}
use Rattle.acs_parse.specs.Inner.Table.{AStatement, Lists, OrExclude, OrAlternative, AChoice, AWhen, MoreWhens}
use Rattle.acs_parse.specs.Inner.Table.{ACondition, MoreOrs, AConjunct, MoreAnds, ATest, AnOperand, MoreOperands, ARef}
use Rattle.acs_parse.specs.Inner.Table.{OrIndex, OrCode, Back, Move, Read, Full, Pass, Refuse, followed, gate, entries}
use Rattle.acs_parse.specs.Inner.Table.{when_parts, opens, item_opens, test_opens, operand_opens, rule, start, Step, Go}
use Rattle.acs_parse.specs.Inner.Table.{after, step, may_be_empty, all_empty, Complete, Short, next, verdict}

pub fits_operator : {t : Symbol} {op : Compare} → IsOperator t op → fits want.Operator t ≡ true
fits_operator by_sign = refl
fits_operator by_word = refl

pub fits_name : {t : Symbol} {text : List ℕ} → IsListName t text → fits want.Name t ≡ true
fits_name named_by_word = refl
fits_name named_by_variable = refl

head_fits : (t : Symbol) → fits want.Name t ≡ true → fits want.Number t ≡ false → fits want.Head t ≡ true
head_fits (Word word.Number text) e f = cc
head_fits (Word kind text) e f = refl
head_fits (Variable name) e f = refl
head_fits _ e f = cc

pub fits_head : {t : Symbol} {text : List ℕ} → IsHead t text → fits want.Head t ≡ true
fits_head {t} (headed_by_word e) = head_fits t refl e
fits_head headed_by_variable = refl

abbrev NoPass : Move → Type 0
NoPass (Pass n) = ⊥
NoPass _ = Unit {0}

gate_no_pass : (b : Bool) (n : ℕ) (new : List Part) → NoPass (cond b (Read n new) Full)
gate_no_pass true n new = tt
gate_no_pass false n new = tt

read_no_pass : (b : Bool) (n : ℕ) (new : List Part) → NoPass (cond b (Read n new) Refuse)
read_no_pass true n new = tt
read_no_pass false n new = tt

followed_step : (move : Move) (more k : List Part) (p q : ℕ → Step) → NoPass move → after (followed move more) k p ≡ after move (more ++ k) q
followed_step (Read n new) more k p q h = ap (λ x. Go n x) (append_assoc new more k)
followed_step Full more k p q h = refl
followed_step (Pass n) more k p q h = absurd h
followed_step Refuse more k p q h = refl

operand_no_pass : (kind : ListKind) (n : ℕ) (t : Symbol) → NoPass (operand_opens kind n t)
operand_no_pass kind n (Literal text) = tt
operand_no_pass kind n (Word form text) = read_no_pass (takes_words kind) n []
operand_no_pass kind n (Variable name) = read_no_pass (takes_variables kind) n (OrIndex ∷ [])
operand_no_pass kind n _ = tt

module _ (may : ℕ → Bool) where
  test_no_pass : (n : ℕ) (t : Symbol) → NoPass (test_opens may n t)
  test_no_pass n (Variable name) = tt
  test_no_pass n Open = gate_no_pass (may n) _ _
  test_no_pass n _ = tt

  opens_no_pass : (n : ℕ) (t : Symbol) → NoPass (opens may n t)
  opens_no_pass n (Word word.Set a) = tt
  opens_no_pass n (Word word.If a) = gate_no_pass (may n) _ _
  opens_no_pass n (Word word.Select a) = gate_no_pass (may n) _ _
  opens_no_pass n (Word word.Do a) = gate_no_pass (may n) _ _
  opens_no_pass n (Word word.Write a) = tt
  opens_no_pass n (Word word.Exit a) = tt
  opens_no_pass n _ = tt

  item_no_pass : (top : Bool) (n : ℕ) (t : Symbol) → NoPass (item_opens may top n t)
  item_no_pass true n (Word word.FiltList a) = tt
  item_no_pass true n t = opens_no_pass n t
  item_no_pass false n t = opens_no_pass n t

  -- what a move of the first part makes of the stack
  pub moved : (s : Part) (k : List Part) (n : ℕ) (t : Symbol) (ts : List Symbol) (move : Move) → rule may s n t ≡ move
      → verdict may (s ∷ k) n (t ∷ ts) ≡ next (after move k (λ m. step may k m t)) (suc (length ts)) (λ j m. verdict may j m ts)
  moved s k n t ts move e = ap (λ x. next (after x k (λ m. step may k m t)) (suc (length ts)) (λ j m. verdict may j m ts)) e

  -- the token is one that is wanted
  pub taken : (s : Part) (w : Want) (k new : List Part) (n p : ℕ) (t : Symbol) (ts : List Symbol) (other : Move)
      → rule may s n t ≡ cond (fits w t) (Read p new) other → fits w t ≡ true → verdict may (s ∷ k) n (t ∷ ts) ≡ verdict may (new ++ k) p ts
  taken s w k new n p t ts other r e = moved s k n t ts (Read p new) (r ∙ ap (λ b. cond b (Read p new) other) e)

  -- a part may be left out
  pub skip : (s : Part) (w : Want) (n : ℕ) (move : Symbol → Move) → ((t : Symbol) → rule may s n t ≡ cond (fits w t) (move t) (Pass n)) → may_be_empty s ≡ true
      → (ts : List Symbol) (k : List Part) → starts w ts ≡ false → verdict may (s ∷ k) n ts ≡ verdict may k n ts
  skip s w n move r empty [] k e = ap (λ b. cond (b && all_empty k) Complete Short) empty
  skip s w n move r empty (t ∷ ts) k e = moved s k n t ts (Pass n) (r t ∙ ap (λ b. cond b (move t) (Pass n)) e)

  -- one more opens
  pub opened : (s : Part) (t : Symbol) (n : ℕ) (new k : List Part) (ts : List Symbol) → rule may s n t ≡ gate may n new → may n ≡ true
      → verdict may (s ∷ k) n (t ∷ ts) ≡ verdict may (new ++ k) (suc n) ts
  opened s t n new k ts r e = moved s k n t ts (Read (suc n) new) (r ∙ ap (λ b. cond b (Read (suc n) new) Full) e)

  pub runs_back : (ts : List Symbol) (k : List Part) (n : ℕ) → verdict may (Back ∷ k) n ts ≡ verdict may k (back n) ts
  runs_back [] k n = refl
  runs_back (t ∷ ts) k n = refl

  pub runs_one : (w : Want) (e : Effect) (k : List Part) (n : ℕ) (t : Symbol) (ts : List Symbol) → fits w t ≡ true
      → verdict may (One w e ∷ k) n (t ∷ ts) ≡ verdict may k (effect e n) ts
  runs_one w e k n t ts h = taken (One w e) w k [] n (effect e n) t ts Refuse refl h

  pub skip_alternative : (w : Want) (n : ℕ) (ts : List Symbol) (k : List Part) → starts w ts ≡ false → verdict may (OrAlternative w ∷ k) n ts ≡ verdict may k n ts
  skip_alternative w n ts k e = skip (OrAlternative w) w n (λ t. Read n (AStatement ∷ [])) (λ t. refl) refl ts k e

  pub skip_whens : (b : Bool) (n : ℕ) (ts : List Symbol) (k : List Part) → starts want.When ts ≡ false → verdict may (MoreWhens b ∷ k) n ts ≡ verdict may k n ts
  skip_whens b n ts k e = skip (MoreWhens b) want.When n (λ t. Read n (when_parts b n ++ MoreWhens b ∷ [])) (λ t. refl) refl ts k e

  pub skip_or : (n : ℕ) (ts : List Symbol) (k : List Part) → starts want.Or ts ≡ false → verdict may (MoreOrs ∷ k) n ts ≡ verdict may k n ts
  skip_or n ts k e = skip MoreOrs want.Or n (λ t. gate may n (AConjunct ∷ MoreOrs ∷ [])) (λ t. refl) refl ts k e

  pub skip_and : (n : ℕ) (ts : List Symbol) (k : List Part) → starts want.And ts ≡ false → verdict may (MoreAnds ∷ k) n ts ≡ verdict may k n ts
  skip_and n ts k e = skip MoreAnds want.And n (λ t. gate may n (ATest ∷ MoreAnds ∷ [])) (λ t. refl) refl ts k e

  pub skip_index : (n : ℕ) (ts : List Symbol) (k : List Part) → starts want.Open ts ≡ false → verdict may (OrIndex ∷ k) n ts ≡ verdict may k n ts
  skip_index n ts k e = skip OrIndex want.Open n (λ t. Read n (One want.Number Keep ∷ One want.Close Keep ∷ [])) (λ t. refl) refl ts k e

  pub skip_code : (n : ℕ) (ts : List Symbol) (k : List Part) → starts want.Code ts ≡ false → verdict may (OrCode ∷ k) n ts ≡ verdict may k n ts
  skip_code n ts k e = skip OrCode want.Code n (λ t. Read n (One want.Open Keep ∷ One want.Word Keep ∷ One want.Close Keep ∷ [])) (λ t. refl) refl ts k e

  pub skip_exclude : (n : ℕ) (ts : List Symbol) (k : List Part) → starts want.Exclude ts ≡ false → verdict may (OrExclude ∷ k) n ts ≡ verdict may k n ts
  skip_exclude n ts k e = skip OrExclude want.Exclude n (λ t. Read n entries) (λ t. refl) refl ts k e

  pub skip_number : (n : ℕ) (ts : List Symbol) (k : List Part) → starts want.Number ts ≡ false → verdict may (OrNumber ∷ k) n ts ≡ verdict may k n ts
  skip_number n ts k e = skip OrNumber want.Number n (λ t. Read n []) (λ t. refl) refl ts k e

  -- a list goes on by a comma, by an operand, or not
  list_rule : (a b : Bool) (x y z : Move) → (a || b) ≡ false → cond a x (cond b y z) ≡ z
  list_rule true b x y z e = cc
  list_rule false true x y z e = cc
  list_rule false false x y z e = refl

  pub skip_operands : (kind : ListKind) (n : ℕ) (ts : List Symbol) (k : List Part) → goes_on kind ts ≡ false
      → verdict may (MoreOperands kind ∷ k) n ts ≡ verdict may k n ts
  skip_operands kind n [] k e = refl
  skip_operands kind n (t ∷ ts) k e = moved (MoreOperands kind) k n t ts (Pass n) (list_rule (fits want.Comma t) (joins kind t) _ _ _ e)

  join_rule : (b : Bool) (x y z : Move) → b ≡ false → (c : Bool) → c ≡ true → cond b x (cond c y z) ≡ y
  join_rule true x y z e c f = cc
  join_rule false x y z e true f = refl
  join_rule false x y z e false f = cc

  pub not_comma : (kind : ListKind) (t : Symbol) → joins kind t ≡ true → fits want.Comma t ≡ false
  not_comma list.Values Comma e = cc
  not_comma list.Items Comma e = cc
  not_comma list.Parts Comma e = cc
  not_comma list.Entries Comma e = cc
  not_comma kind _ e = refl

  -- an operand joined to the list begins as one alone
  pub joins_as_operand : (kind : ListKind) (n : ℕ) (t : Symbol) (ts : List Symbol) (k : List Part) → joins kind t ≡ true
      → verdict may (MoreOperands kind ∷ k) n (t ∷ ts) ≡ verdict may (AnOperand kind ∷ MoreOperands kind ∷ k) n (t ∷ ts)
  joins_as_operand kind n t ts k e =
      moved (MoreOperands kind) k n t ts (followed (operand_opens kind n t) (MoreOperands kind ∷ [])) (join_rule (fits want.Comma t) _ _ _ (not_comma kind t e) (joins kind t) e) ∙ ap (λ x. next x (suc (length ts)) (λ j m. verdict may j m ts)) (followed_step (operand_opens kind n t) (MoreOperands kind ∷ []) k _ _ (operand_no_pass kind n t))

  pub conj_as_test : (ts : List Symbol) (k : List Part) (n : ℕ) → verdict may (AConjunct ∷ k) n ts ≡ verdict may (ATest ∷ MoreAnds ∷ k) n ts
  conj_as_test [] k n = refl
  conj_as_test (t ∷ ts) k n = ap (λ x. next x (suc (length ts)) (λ j p. verdict may j p ts)) (followed_step (test_opens may n t) (MoreAnds ∷ []) k _ _ (test_no_pass n t))

  pub cond_as_conj : (ts : List Symbol) (k : List Part) (n : ℕ) → verdict may (ACondition ∷ k) n ts ≡ verdict may (AConjunct ∷ MoreOrs ∷ k) n ts
  cond_as_conj [] k n = refl
  cond_as_conj (t ∷ ts) k n =
      ap (λ x. next x (suc (length ts)) (λ j p. verdict may j p ts)) (followed_step (test_opens may n t) (MoreAnds ∷ MoreOrs ∷ []) k _ (λ m. step may k m t) (test_no_pass n t)) ∙ (let e : verdict may (AConjunct ∷ MoreOrs ∷ k) n (t ∷ ts) ≡ next (after (test_opens may n t) (MoreAnds ∷ MoreOrs ∷ k) (λ m. step may k m t)) (suc (length ts)) (λ j p. verdict may j p ts) = ap (λ x. next x (suc (length ts)) (λ j p. verdict may j p ts)) (followed_step (test_opens may n t) (MoreAnds ∷ []) (MoreOrs ∷ k) _ (λ m. step may k m t) (test_no_pass n t)) in sym e)

  pub block_as_item : (top : Bool) (n : ℕ) (ts : List Symbol) (k : List Part) → starts want.End ts ≡ false
      → verdict may (ABlock top ∷ k) n ts ≡ verdict may (AnItem top ∷ ABlock top ∷ k) n ts
  block_as_item top n [] k e = refl
  block_as_item top n (t ∷ ts) k e =
      moved (ABlock top) k n t ts (followed (item_opens may top n t) (ABlock top ∷ [])) (ap (λ b. cond b (Read n []) (followed (item_opens may top n t) (ABlock top ∷ []))) e) ∙ ap (λ x. next x (suc (length ts)) (λ j p. verdict may j p ts)) (followed_step (item_opens may top n t) (ABlock top ∷ []) k _ _ (item_no_pass top n t))

  item_same : (top : Bool) (n : ℕ) (t : Symbol) → fits want.FiltList t ≡ false → item_opens may top n t ≡ opens may n t
  item_same true n (Word word.FiltList a) e = cc
  item_same true n _ e = refl
  item_same false n t e = refl

  pub item_as_statement : (top : Bool) (n : ℕ) (ts : List Symbol) (k : List Part) → starts want.FiltList ts ≡ false
      → verdict may (AnItem top ∷ k) n ts ≡ verdict may (AStatement ∷ k) n ts
  item_as_statement top n [] k e = refl
  item_as_statement top n (t ∷ ts) k e = ap (λ x. next (after x k (λ m. step may k m t)) (suc (length ts)) (λ j p. verdict may j p ts)) (item_same top n t e)

  pub whens_as_when : (b : Bool) (n : ℕ) (t : Symbol) (ts : List Symbol) (k : List Part) → fits want.When t ≡ true
      → verdict may (MoreWhens b ∷ k) n (t ∷ ts) ≡ verdict may (AWhen b ∷ MoreWhens b ∷ k) n (t ∷ ts)
  whens_as_when b n t ts k e =
      taken (MoreWhens b) want.When k (when_parts b n ++ MoreWhens b ∷ []) n n t ts (Pass n) refl e ∙ ap (λ x. verdict may x n ts) (append_assoc (when_parts b n) (MoreWhens b ∷ []) k) ∙ sym (taken (AWhen b) want.When (MoreWhens b ∷ k) (when_parts b n) n n t ts Refuse refl e)

  pub runs_index : {total : ℕ} (n : ℕ) {ts rest : List Symbol} {i : Option (List ℕ)} {at : ℕ} → IsIndex total ts i at rest → (k : List Part)
      → verdict may (OrIndex ∷ k) n ts ≡ verdict may k n rest
  runs_index n {ts} (no_index e) k = skip_index n ts k e
  runs_index n index k = refl

  pub runs_ref : {total : ℕ} (n : ℕ) {ts rest : List Symbol} {r : Ref} → IsRef total ts r rest → (k : List Part)
      → verdict may (ARef ∷ k) n ts ≡ verdict may k n rest
  runs_ref n (ref d) k = runs_index n d k

  pub runs_operand : {total : ℕ} {kind : ListKind} (n : ℕ) {ts rest : List Symbol} {o : Operand} → IsOperand total kind ts o rest → (k : List Part)
      → verdict may (AnOperand kind ∷ k) n ts ≡ verdict may k n rest
  runs_operand n literal k = refl
  runs_operand {kind = kind} n (word_of {form = form} {text = text} {rest = rest} e) k =
      moved (AnOperand kind) k n (Word form text) rest (Read n []) (ap (λ b. cond b (Read n []) Refuse) e)
  runs_operand {kind = kind} n (variable {name = name} {ts = ts} e (ref d)) k =
      moved (AnOperand kind) k n (Variable name) ts (Read n (OrIndex ∷ [])) (ap (λ b. cond b (Read n (OrIndex ∷ [])) Refuse) e) ∙ runs_index n d k

  pub runs_further : {total : ℕ} {kind : ListKind} (n : ℕ) {ts rest : List Symbol} {os : List Operand} → IsFurther total kind ts os rest → (k : List Part)
      → verdict may (MoreOperands kind ∷ k) n ts ≡ verdict may k n rest
  runs_further {kind = kind} n {ts} (no_further e) k = skip_operands kind n ts k e
  runs_further {kind = kind} n (after_comma d ds) k = runs_operand n d (MoreOperands kind ∷ k) ∙ runs_further n ds k
  runs_further {kind = kind} n (joined {t = t} {ts = ts} e d ds) k = joins_as_operand kind n t ts k e ∙ runs_operand n d (MoreOperands kind ∷ k) ∙ runs_further n ds k

  pub runs_operands : {total : ℕ} {kind : ListKind} (n : ℕ) {ts rest : List Symbol} {os : List Operand} → IsOperands total kind ts os rest → (k : List Part)
      → verdict may (AnOperand kind ∷ MoreOperands kind ∷ k) n ts ≡ verdict may k n rest
  runs_operands {kind = kind} n (operands d ds) k = runs_operand n d (MoreOperands kind ∷ k) ∙ runs_further n ds k

  pub runs_exclude : {total : ℕ} (n : ℕ) {ts rest : List Symbol} {xs : List Operand} → IsExclude total ts xs rest → (k : List Part)
      → verdict may (OrExclude ∷ k) n ts ≡ verdict may k n rest
  runs_exclude n {ts} (no_exclude e) k = skip_exclude n ts k e
  runs_exclude n (exclude d) k = runs_operands n d (One want.Close Keep ∷ k)

  pub runs_lists : {total : ℕ} (n : ℕ) {ts rest : List Symbol} {os xs : List Operand} → IsLists total ts os xs rest → (k : List Part)
      → verdict may (Lists ∷ k) n ts ≡ verdict may k n rest
  runs_lists n (including d e) k = runs_operands n d (One want.Close Keep ∷ OrExclude ∷ k) ∙ runs_exclude n e k
  runs_lists n (excluding d) k = runs_operands n d (One want.Close Keep ∷ k)

  pub runs_filter : {total : ℕ} (n : ℕ) {ts rest : List Symbol} {s : Stmt} → IsFilter total ts s rest → (k : List Part)
      → verdict may (AnItem true ∷ k) n ts ≡ verdict may k n rest
  runs_filter n (filter {t = t} {ts = ts} e d) k = runs_one want.Name Keep (Lists ∷ k) n t ts (fits_name e) ∙ runs_lists n d k

  pub runs_code : {total : ℕ} (n : ℕ) {ts rest : List Symbol} {o : Option Operand} → IsCode total ts o rest → (k : List Part)
      → verdict may (OrCode ∷ k) n ts ≡ verdict may k n rest
  runs_code n {ts} (no_code e) k = skip_code n ts k e
  runs_code n code k = refl

  mutual
    pub runs_cond : {total n m : ℕ} {ts rest : List Symbol} {c : Cond} → IsCond total may n ts c m rest → (k : List Part)
        → verdict may (ACondition ∷ k) n ts ≡ verdict may k m rest
    runs_cond {n = n} {ts = ts} (cond_of a b) k = cond_as_conj ts k n ∙ runs_conj a (MoreOrs ∷ k) ∙ runs_ors b k

    pub runs_ors : {total n m : ℕ} {x c : Cond} {ts rest : List Symbol} → IsOrs total may n x ts c m rest → (k : List Part)
        → verdict may (MoreOrs ∷ k) n ts ≡ verdict may k m rest
    runs_ors {n = n} {ts = ts} (no_or e) k = skip_or n ts k e
    runs_ors {n = n} (or_more {t = t} {ts = ts} f e a b) k =
        opened MoreOrs t n (AConjunct ∷ MoreOrs ∷ []) k ts (ap (λ x. cond x (gate may n (AConjunct ∷ MoreOrs ∷ [])) (Pass n)) f) e ∙ runs_conj a (MoreOrs ∷ k) ∙ runs_ors b k

    pub runs_conj : {total n m : ℕ} {ts rest : List Symbol} {c : Cond} → IsConj total may n ts c m rest → (k : List Part)
        → verdict may (AConjunct ∷ k) n ts ≡ verdict may k m rest
    runs_conj {n = n} {ts = ts} (conj_of a b) k = conj_as_test ts k n ∙ runs_prim a (MoreAnds ∷ k) ∙ runs_ands b k

    pub runs_ands : {total n m : ℕ} {x c : Cond} {ts rest : List Symbol} → IsAnds total may n x ts c m rest → (k : List Part)
        → verdict may (MoreAnds ∷ k) n ts ≡ verdict may k m rest
    runs_ands {n = n} {ts = ts} (no_and e) k = skip_and n ts k e
    runs_ands {n = n} (and_more {t = t} {ts = ts} f e a b) k =
        opened MoreAnds t n (ATest ∷ MoreAnds ∷ []) k ts (ap (λ x. cond x (gate may n (ATest ∷ MoreAnds ∷ [])) (Pass n)) f) e ∙ runs_prim a (MoreAnds ∷ k) ∙ runs_ands b k

    pub runs_prim : {total n m : ℕ} {ts rest : List Symbol} {c : Cond} → IsPrim total may n ts c m rest → (k : List Part)
        → verdict may (ATest ∷ k) n ts ≡ verdict may k m rest
    runs_prim {n = n} (test {t = t} {ms = ms} (ref d) e o) k =
        runs_index n d (One want.Operator Keep ∷ AnOperand list.Items ∷ k) ∙ runs_one want.Operator Keep (AnOperand list.Items ∷ k) n t ms (fits_operator e) ∙ runs_operand n o k
    runs_prim {n = n} (group {ts = ts} e d) k = opened ATest Open n (ACondition ∷ One want.Close Lower ∷ []) k ts refl e ∙ runs_cond d (One want.Close Lower ∷ k)

  pub not_filter : {total n : ℕ} {ts rest : List Symbol} {s : Stmt} → IsStmt total may n ts s rest → starts want.FiltList ts ≡ false
  not_filter (set d e ds) = refl
  not_filter (choice e d f g) = refl
  not_filter (pick e d f) = refl
  not_filter (group_of e d) = refl
  not_filter (write d) = refl
  not_filter (exit d) = refl

  pub not_end : {total n : ℕ} {ts rest : List Symbol} {s : Stmt} → IsStmt total may n ts s rest → starts want.End ts ≡ false
  not_end (set d e ds) = refl
  not_end (choice e d f g) = refl
  not_end (pick e d f) = refl
  not_end (group_of e d) = refl
  not_end (write d) = refl
  not_end (exit d) = refl

  pub item_not_end : {total n : ℕ} {top : Bool} {ts rest : List Symbol} {s : Stmt} → IsItem total may top n ts s rest → starts want.End ts ≡ false
  item_not_end (item_filter d) = refl
  item_not_end (item_statement d) = not_end d

  mutual
    pub runs_stmt : {total n : ℕ} {ts rest : List Symbol} {s : Stmt} → IsStmt total may n ts s rest → (k : List Part)
        → verdict may (AStatement ∷ k) n ts ≡ verdict may k n rest
    runs_stmt {n = n} (set {t = t} {ms = ms} d e ds) k =
        runs_ref n d (One want.Equal Keep ∷ AnOperand list.Values ∷ MoreOperands list.Values ∷ k) ∙ runs_one want.Equal Keep (AnOperand list.Values ∷ MoreOperands list.Values ∷ k) n t ms e ∙ runs_operands n ds k
    runs_stmt {n = n} {rest = rest} (choice {a = a} {ts = ts} e d f g) k =
        opened AStatement (Word word.If a) n (ACondition ∷ One want.Then (To (suc n)) ∷ AStatement ∷ OrAlternative want.Else ∷ Back ∷ []) k ts refl e ∙ runs_cond d (One want.Then (To (suc n)) ∷ AStatement ∷ OrAlternative want.Else ∷ Back ∷ k) ∙ runs_stmt f (OrAlternative want.Else ∷ Back ∷ k) ∙ runs_alternative g (Back ∷ k) ∙ runs_back rest k (suc n)
    runs_stmt {n = n} (pick {a = a} {ts = ts} e d f) k =
        opened AStatement (Word word.Select a) n (AChoice ∷ OrAlternative want.Otherwise ∷ One want.End Lower ∷ []) k ts refl e ∙ runs_choice d (OrAlternative want.Otherwise ∷ One want.End Lower ∷ k) ∙ runs_alternative f (One want.End Lower ∷ k)
    runs_stmt {n = n} {rest = rest} (group_of {a = a} {ts = ts} e d) k =
        opened AStatement (Word word.Do a) n (ABlock false ∷ Back ∷ []) k ts refl e ∙ runs_block d (Back ∷ k) ∙ runs_back rest k (suc n)
    runs_stmt {n = n} (write d) k = runs_operands n d k
    runs_stmt {n = n} (exit d) k = runs_code n d k

    pub runs_alternative : {total n : ℕ} {w : Want} {ts rest : List Symbol} {s : Option Stmt} → IsAlternative total may w n ts s rest → (k : List Part)
        → verdict may (OrAlternative w ∷ k) n ts ≡ verdict may k n rest
    runs_alternative {n = n} {w = w} {ts = ts} (no_alternative e) k = skip_alternative w n ts k e
    runs_alternative {n = n} {w = w} (alternative {t = t} {ts = ts} e d) k = taken (OrAlternative w) w k (AStatement ∷ []) n n t ts (Pass n) refl e ∙ runs_stmt d k

    pub runs_choice : {total n : ℕ} {ts rest : List Symbol} {r : Option Ref} {ws : List When} → IsChoice total may n ts r ws rest → (k : List Part)
        → verdict may (AChoice ∷ k) n ts ≡ verdict may k n rest
    runs_choice {n = n} (by_value d e f) k =
        runs_ref n d (One want.Close Keep ∷ AWhen true ∷ MoreWhens true ∷ k) ∙ runs_when e (MoreWhens true ∷ k) ∙ runs_whens f k
    runs_choice {n = n} (by_condition e f) k = runs_when e (MoreWhens false ∷ k) ∙ runs_whens f k

    pub runs_when : {total n : ℕ} {b : Bool} {ts rest : List Symbol} {w : When} → IsWhen total may b n ts w rest → (k : List Part)
        → verdict may (AWhen b ∷ k) n ts ≡ verdict may k n rest
    runs_when {n = n} (when_any d e) k = runs_operands n d (One want.Close Keep ∷ AStatement ∷ k) ∙ runs_stmt e k
    runs_when {n = n} (when_holds d e) k = runs_cond d (One want.Close (To n) ∷ AStatement ∷ k) ∙ runs_stmt e k

    pub runs_whens : {total n : ℕ} {b : Bool} {ts rest : List Symbol} {ws : List When} → IsWhens total may b n ts ws rest → (k : List Part)
        → verdict may (MoreWhens b ∷ k) n ts ≡ verdict may k n rest
    runs_whens {n = n} {b = b} {ts = ts} (no_when e) k = skip_whens b n ts k e
    runs_whens {n = n} {b = b} (more_whens {a = a} {ts = ts} d ds) k =
        whens_as_when b n (Word word.When a) ts k refl ∙ runs_when d (MoreWhens b ∷ k) ∙ runs_whens ds k

    pub runs_block : {total n : ℕ} {top : Bool} {ts rest : List Symbol} {ss : List Stmt} → IsBlock total may top n ts ss rest → (k : List Part)
        → verdict may (ABlock top ∷ k) n ts ≡ verdict may k n rest
    runs_block end_of k = refl
    runs_block {n = n} {top = top} {ts = ts} (then_more d ds) k = block_as_item top n ts k (item_not_end d) ∙ runs_item d (ABlock top ∷ k) ∙ runs_block ds k

    pub runs_item : {total n : ℕ} {top : Bool} {ts rest : List Symbol} {s : Stmt} → IsItem total may top n ts s rest → (k : List Part)
        → verdict may (AnItem top ∷ k) n ts ≡ verdict may k n rest
    runs_item {n = n} (item_filter d) k = runs_filter n d k
    runs_item {n = n} {top = top} {ts = ts} (item_statement d) k = item_as_statement top n ts k (not_filter d) ∙ runs_stmt d k

  pub runs_number : (n : ℕ) {ts rest : List Symbol} → IsOrNumber ts rest → (k : List Part) → verdict may (OrNumber ∷ k) n ts ≡ verdict may k n rest
  runs_number n {ts} (no_number e) k = skip_number n ts k e
  runs_number n number k = refl

  pub runs_routine : {total : ℕ} {ts : List Symbol} {tree : Routine} → IsRoutineOf total may ts tree → verdict may start 0 ts ≡ Complete
  runs_routine (routine {t = t} {ms = ms} d e f) =
      runs_number 0 d (One want.Head Keep ∷ ABlock true ∷ []) ∙ runs_one want.Head Keep (ABlock true ∷ []) 0 t ms (fits_head e) ∙ runs_block f []
