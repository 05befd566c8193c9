-- Which tokens begin a routine, and which place the table's answer tells.
use Rattle.std.proofs.Common.{◌≡◌, ℕ, suc, ◌+◌, ◌<◌, ◌≤◌, Bool, true, false, cond, List, [], ◌∷◌, ◌++◌, length, take}
use Rattle.std.proofs.Common.{refl, ap, sym, ◌∙◌, subst, arith, append_assoc}
use Rattle.std.specs.Prelude.{None}
use Rattle.acs_tree.specs.declared.routine.Compare.TheVariants.{Eq}
use Rattle.acs_tree.specs.declared.routine.Cond.{Cond}
use Rattle.acs_tree.specs.declared.routine.Operand.{Operand}
use Rattle.acs_tree.specs.declared.routine.When.{When}
use Rattle.acs_tree.specs.declared.routine.Stmt.{Stmt}
use Rattle.acs_tree.specs.declared.routine.Routine.{Routine}
use Rattle.acs_parse.specs.declared.list_kind.ListKind.{ListKind}
use Rattle.acs_parse.specs.declared.list_kind.ListKind.TheVariants as list
use Rattle.acs_symbol.specs.declared.symbol.WordKind.TheVariants as word
use Rattle.acs_symbol.specs.declared.symbol.Symbol.{Symbol}
use Rattle.acs_symbol.specs.declared.symbol.Symbol.TheVariants.{Word, Variable, Literal, AndSign, OrSign, Open, Close}
use Rattle.acs_symbol.specs.declared.symbol.Symbol.TheVariants.{Comma, Operator}
use Rattle.acs_parse.specs.declared.want.Want.{Want}
use Rattle.acs_parse.specs.declared.want.Want.TheVariants as want
use Rattle.acs_parse.specs.Wants.{fits}
use Rattle.acs_parse.specs.Grammar.{starts, takes_words, takes_variables, joins, goes_on, back, limited, unlimited}
use Rattle.acs_parse.specs.Grammar.{by_sign, no_index, ref, literal, no_further, operands, no_exclude, IsLists}
use Rattle.acs_parse.specs.Grammar.{excluding, no_code, IsCond, cond_of, no_or, IsConj, conj_of, no_and, IsPrim, test}
use Rattle.acs_parse.specs.Grammar.{IsStmt, exit, no_alternative, by_condition, IsWhen, when_any, when_holds, no_when}
use Rattle.acs_parse.specs.Grammar.{IsBlock, end_of, item_statement, no_number, IsRoutineOf, routine, IsOrNumber}
use Rattle.acs_parse.specs.Inner.Table.{effect, Part, One, OrNumber, ABlock, AnItem, AStatement, Lists, OrExclude}
use Rattle.acs_parse.specs.Inner.Table.{OrAlternative, AChoice, AWhen, MoreWhens, ACondition, MoreOrs, AConjunct}
use Rattle.acs_parse.specs.Inner.Table.{MoreAnds, ATest, AnOperand, MoreOperands, ARef, OrIndex, OrCode, Back, Move}
use Rattle.acs_parse.specs.Inner.Table.{Read, Full, Pass, Refuse, followed, entries, when_parts, opens, item_opens}
use Rattle.acs_parse.specs.Inner.Table.{test_opens, operand_opens, list_opens, choice_opens, rule, start, Step, Go, No}
use Rattle.acs_parse.specs.Inner.Table.{Many, after, step, all_empty, Complete, Short, Stop, TooMany, next, verdict}
use Rattle.acs_parse.proofs.VerdictLemmas.{is_over}
use Rattle.acs_parse.specs.Inner.Language.{Lang, Seq}
use Rattle.acs_parse.specs.Places.{Begins, IsFirstWrong, IsTooDeep, EndsEarly}
use Rattle.acs_parse.proofs.RunLemmas.{runs_routine}
use Rattle.acs_parse.proofs.SoundLemmas.{steps, is_proc, is_head}
use Rattle.acs_parse.proofs.WideLemmas.{WideStep, wide}

-- the tokens continue nothing that may be over before them
record Fresh (ts : List Symbol) : Type 0 where
  no_alternative' : starts want.Else ts ≡ false
  no_other' : starts want.Otherwise ts ≡ false
  no_when' : starts want.When ts ≡ false
  no_and' : starts want.And ts ≡ false
  no_or' : starts want.Or ts ≡ false
  no_open' : starts want.Open ts ≡ false
  no_code' : starts want.Code ts ≡ false
  no_exclude' : starts want.Exclude ts ≡ false
  no_number' : starts want.Number ts ≡ false
  no_value' : goes_on list.Values ts ≡ false
  no_part' : goes_on list.Parts ts ≡ false

-- a token that is wanted
sample : Want → Symbol
sample want.Proc = Word word.Proc []
sample want.FiltList = Word word.FiltList []
sample want.Exclude = Word word.Exclude []
sample want.Then = Word word.Then []
sample want.Else = Word word.Else []
sample want.When = Word word.When []
sample want.Otherwise = Word word.Otherwise []
sample want.End = Word word.End []
sample want.Code = Word word.Code []
sample want.And = AndSign
sample want.Or = OrSign
sample want.Open = Open
sample want.Close = Close
sample want.Comma = Comma
sample want.Equal = Operator Eq
sample want.Operator = Operator Eq
sample want.Variable = Variable []
sample want.Word = Word word.End []
sample want.Number = Word word.Number []
sample want.Head = Word word.End []
sample want.Name = Word word.End []

sample_fits : (w : Want) → fits w (sample w) ≡ true
unfolding sample
sample_fits want.Proc = refl
sample_fits want.FiltList = refl
sample_fits want.Exclude = refl
sample_fits want.Then = refl
sample_fits want.Else = refl
sample_fits want.When = refl
sample_fits want.Otherwise = refl
sample_fits want.End = refl
sample_fits want.Code = refl
sample_fits want.And = refl
sample_fits want.Or = refl
sample_fits want.Open = refl
sample_fits want.Close = refl
sample_fits want.Comma = refl
sample_fits want.Equal = refl
sample_fits want.Operator = refl
sample_fits want.Variable = refl
sample_fits want.Word = refl
sample_fits want.Number = refl
sample_fits want.Head = refl
sample_fits want.Name = refl

abbrev a_test : List Symbol
a_test = Variable [] ∷ Operator Eq ∷ Literal [] ∷ []

abbrev an_exit : List Symbol
an_exit = Word word.Exit [] ∷ []

-- the shortest tokens of a part
abbrev least : Part → List Symbol
least (One w e) = sample w ∷ []
least (ABlock top) = Word word.End [] ∷ []
least (AnItem top) = an_exit
least AStatement = an_exit
least Lists = Word word.Exclude [] ∷ Open ∷ Literal [] ∷ Close ∷ []
least AChoice = Word word.When [] ∷ Open ∷ Variable [] ∷ Operator Eq ∷ Literal [] ∷ Close ∷ Word word.Exit [] ∷ []
least (AWhen true) = Word word.When [] ∷ Open ∷ Literal [] ∷ Close ∷ Word word.Exit [] ∷ []
least (AWhen false) = Word word.When [] ∷ Open ∷ Variable [] ∷ Operator Eq ∷ Literal [] ∷ Close ∷ Word word.Exit [] ∷ []
least ACondition = a_test
least AConjunct = a_test
least ATest = a_test
least (AnOperand kind) = Literal [] ∷ []
least ARef = Variable [] ∷ []
least _ = []

abbrev shortest : List Part → List Symbol
shortest [] = []
shortest (s ∷ k) = least s ++ shortest k

-- what must be true of the tokens behind a part
abbrev Behind : Part → List Symbol → Type 0
Behind (One w e) ts = Unit {0}
Behind (ABlock top) ts = Unit {0}
Behind Back ts = Unit {0}
Behind (MoreOperands kind) ts = Fresh ts × (goes_on kind ts ≡ false)
Behind (OrAlternative w) ts = Fresh ts × (starts w ts ≡ false)
Behind _ ts = Fresh ts

-- each part of the stack can be the shortest
abbrev Ready : List Part → Type 0
Ready [] = Unit {0}
Ready (s ∷ k) = Behind s (shortest k) × Ready k

abbrev Keeps : Part → Move → Type 0
Keeps s (Read p new) = (k : List Part) → Behind s (shortest k) → Ready k → Ready (new ++ k)
Keeps s _ = Unit {0}

fresh_close : (ts : List Symbol) → Fresh (Close ∷ ts)
fresh_close ts = record { no_alternative' = refl; no_other' = refl; no_when' = refl; no_and' = refl; no_or' = refl; no_open' = refl; no_code' = refl; no_exclude' = refl; no_number' = refl; no_value' = refl; no_part' = refl }

fresh_equal : (ts : List Symbol) → Fresh (Operator Eq ∷ ts)
fresh_equal ts = record { no_alternative' = refl; no_other' = refl; no_when' = refl; no_and' = refl; no_or' = refl; no_open' = refl; no_code' = refl; no_exclude' = refl; no_number' = refl; no_value' = refl; no_part' = refl }

fresh_end : (ts : List Symbol) → Fresh (Word word.End [] ∷ ts)
fresh_end ts = record { no_alternative' = refl; no_other' = refl; no_when' = refl; no_and' = refl; no_or' = refl; no_open' = refl; no_code' = refl; no_exclude' = refl; no_number' = refl; no_value' = refl; no_part' = refl }

fresh_then : (ts : List Symbol) → Fresh (Word word.Then [] ∷ ts)
fresh_then ts = record { no_alternative' = refl; no_other' = refl; no_when' = refl; no_and' = refl; no_or' = refl; no_open' = refl; no_code' = refl; no_exclude' = refl; no_number' = refl; no_value' = refl; no_part' = refl }

keeps_row : (s : Part) (x y : Move) (b : Bool) → Keeps s x → Keeps s y → Keeps s (cond b x y)
keeps_row s x y true f g = f
keeps_row s x y false f g = g

keeps_entries : (k : List Part) → Ready k → Ready (entries ++ k)
unfolding sample
keeps_entries k r = (tt, (fresh_close (shortest k), ((fresh_close (shortest k), refl), (tt, r))))

keeps_when_parts : (b : Bool) (n : ℕ) (k : List Part) → Fresh (shortest k) → Ready k → Ready (when_parts b n ++ k)
unfolding sample
keeps_when_parts true n k h r = (tt, (fresh_close _, ((fresh_close _, refl), (tt, (h, r)))))
keeps_when_parts false n k h r = (tt, (fresh_close _, (tt, (h, r))))

module _ (may : ℕ → Bool) where
  keeps_statement : (n : ℕ) (t : Symbol) → Keeps AStatement (opens may n t)
  unfolding sample
  keeps_statement n (Word word.Set a) = λ k h r. (fresh_equal _, (tt, (h, ((h, h.no_value'), r))))
  keeps_statement n (Word word.If a) = keeps_row AStatement _ _ (may n) (λ k h r. (fresh_then _, (tt, (h, ((h, h.no_alternative'), (tt, r)))))) tt
  keeps_statement n (Word word.Select a) = keeps_row AStatement _ _ (may n) (λ k h r. (fresh_end _, ((fresh_end _, refl), (tt, r)))) tt
  keeps_statement n (Word word.Do a) = keeps_row AStatement _ _ (may n) (λ k h r. (tt, (tt, r))) tt
  keeps_statement n (Word word.Write a) = λ k h r. (h, ((h, h.no_part'), r))
  keeps_statement n (Word word.Exit a) = λ k h r. (h, r)
  keeps_statement n _ = tt

  item_from : (top : Bool) (move : Move) → Keeps AStatement move → Keeps (AnItem top) move
  item_from top (Read p new) h = h
  item_from top (Pass p) h = tt
  item_from top Full h = tt
  item_from top Refuse h = tt

  keeps_item : (top : Bool) (n : ℕ) (t : Symbol) → Keeps (AnItem top) (item_opens may top n t)
  keeps_item true n (Word word.FiltList a) = λ k h r. (tt, (h, r))
  keeps_item true n t = item_from true (opens may n t) (keeps_statement n t)
  keeps_item false n t = item_from false (opens may n t) (keeps_statement n t)

  keeps_test : (n : ℕ) (t : Symbol) → Keeps ATest (test_opens may n t)
  unfolding sample
  keeps_test n (Variable name) = λ k h r. (fresh_equal _, (tt, (h, r)))
  keeps_test n Open = keeps_row ATest _ _ (may n) (λ k h r. (fresh_close _, (tt, r))) tt
  keeps_test n _ = tt

  -- a move and more behind it
  keeps_followed : (s u : Part) (move : Move) (more : List Part) → Keeps u move
      → ((k : List Part) → Behind s (shortest k) → Ready k → Behind u (shortest (more ++ k)) × Ready (more ++ k)) → Keeps s (followed move more)
  keeps_followed s u (Read p new) more h g = λ k b r.
      let q = g k b r in
      subst Ready (sym (append_assoc new more k)) (h (more ++ k) q.0 q.1)
  keeps_followed s u Full more h g = tt
  keeps_followed s u (Pass p) more h g = tt
  keeps_followed s u Refuse more h g = tt

  keeps_lists : (n : ℕ) (t : Symbol) → Keeps Lists (list_opens n t)
  keeps_lists n (Word word.Include a) = λ k h r. keeps_entries (OrExclude ∷ k) (h, r)
  keeps_lists n (Word word.Exclude a) = λ k h r. keeps_entries k r
  keeps_lists n _ = tt

  keeps_choice : (n : ℕ) (t : Symbol) → Keeps AChoice (choice_opens n t)
  unfolding sample
  keeps_choice n Open = λ k h r. (fresh_close _, (tt, (h, (h, r))))
  keeps_choice n (Word word.When a) = λ k h r. keeps_when_parts false n (MoreWhens false ∷ k) h (h, r)
  keeps_choice n _ = tt

  keeps_operand : (kind : ListKind) (n : ℕ) (t : Symbol) → Keeps (AnOperand kind) (operand_opens kind n t)
  keeps_operand kind n (Literal text) = λ k h r. r
  keeps_operand kind n (Word form text) = keeps_row (AnOperand kind) _ _ (takes_words kind) (λ k h r. r) tt
  keeps_operand kind n (Variable name) = keeps_row (AnOperand kind) _ _ (takes_variables kind) (λ k h r. (h, r)) tt
  keeps_operand kind n _ = tt

  keeps_whens : (b : Bool) (n : ℕ) → Keeps (MoreWhens b) (Read n (when_parts b n ++ MoreWhens b ∷ []))
  keeps_whens b n = λ k h r. subst Ready (sym (append_assoc (when_parts b n) (MoreWhens b ∷ []) k)) (keeps_when_parts b n (MoreWhens b ∷ k) h (h, r))

  keeps : (s : Part) (n : ℕ) (t : Symbol) → Keeps s (rule may s n t)
  unfolding sample
  keeps (One w e) n t = keeps_row (One w e) _ _ (fits w t) (λ k h r. r) tt
  keeps OrNumber n t = keeps_row OrNumber _ _ (fits want.Number t) (λ k h r. r) tt
  keeps (ABlock top) n t = keeps_row (ABlock top) _ _ (fits want.End t) (λ k h r. r)
      (keeps_followed (ABlock top) (AnItem top) (item_opens may top n t) (ABlock top ∷ []) (keeps_item top n t) (λ k h r. (fresh_end (shortest k), (tt, r))))
  keeps (AnItem top) n t = keeps_item top n t
  keeps AStatement n t = keeps_statement n t
  keeps Lists n t = keeps_lists n t
  keeps OrExclude n t = keeps_row OrExclude _ _ (fits want.Exclude t) (λ k h r. keeps_entries k r) tt
  keeps (OrAlternative w) n t = keeps_row (OrAlternative w) _ _ (fits w t) (λ k h r. (h.0, r)) tt
  keeps AChoice n t = keeps_choice n t
  keeps (AWhen b) n t = keeps_row (AWhen b) _ _ (fits want.When t) (λ k h r. keeps_when_parts b n k h r) tt
  keeps (MoreWhens b) n t = keeps_row (MoreWhens b) _ _ (fits want.When t) (keeps_whens b n) tt
  keeps ACondition n t = keeps_followed ACondition ATest (test_opens may n t) (MoreAnds ∷ MoreOrs ∷ []) (keeps_test n t) (λ k h r. (h, (h, (h, r))))
  keeps MoreOrs n t = keeps_row MoreOrs _ _ (fits want.Or t) (keeps_row MoreOrs _ _ (may n) (λ k h r. (h, (h, r))) tt) tt
  keeps AConjunct n t = keeps_followed AConjunct ATest (test_opens may n t) (MoreAnds ∷ []) (keeps_test n t) (λ k h r. (h, (h, r)))
  keeps MoreAnds n t = keeps_row MoreAnds _ _ (fits want.And t) (keeps_row MoreAnds _ _ (may n) (λ k h r. (h, (h, r))) tt) tt
  keeps ATest n t = keeps_test n t
  keeps (AnOperand kind) n t = keeps_operand kind n t
  keeps (MoreOperands kind) n t = keeps_row (MoreOperands kind) _ _ (fits want.Comma t) (λ k h r. (h.0, (h, r)))
      (keeps_row (MoreOperands kind) _ _ (joins kind t)
      (keeps_followed (MoreOperands kind) (AnOperand kind) (operand_opens kind n t) (MoreOperands kind ∷ []) (keeps_operand kind n t) (λ k h r. (h.0, (h, r)))) tt)
  keeps ARef n t = keeps_row ARef _ _ (fits want.Variable t) (λ k h r. (h, r)) tt
  keeps OrIndex n t = keeps_row OrIndex _ _ (fits want.Open t) (λ k h r. (tt, (tt, r))) tt
  keeps OrCode n t = keeps_row OrCode _ _ (fits want.Code t) (λ k h r. (tt, (tt, (tt, r)))) tt
  keeps Back n t = tt

  ready_move : (s : Part) (k j : List Part) (i : ℕ) (move : Move) (passed : ℕ → Step) → Keeps s move → Behind s (shortest k) → Ready k
      → ((p : ℕ) → passed p ≡ Go i j → Ready j) → after move k passed ≡ Go i j → Ready j
  ready_move s k j i (Read p new) passed h b r below e = let f : new ++ k ≡ j = cc in subst Ready f (h k b r)
  ready_move s k j i Full passed h b r below e = let no : ⊥ = cc in absurd no
  ready_move s k j i (Pass p) passed h b r below e = below p e
  ready_move s k j i Refuse passed h b r below e = let no : ⊥ = cc in absurd no

  ready_step : (k j : List Part) (n i : ℕ) (t : Symbol) → Ready k → step may k n t ≡ Go i j → Ready j
  ready_step [] j n i t r e = let no : ⊥ = cc in absurd no
  ready_step (s ∷ k) j n i t r e = ready_move s k j i (rule may s n t) (λ p. step may k p t) (keeps s n t) r.0 r.1 (λ p f. ready_step k j p i t r.1 f) e

  module _ (total : ℕ) where
    test_least : (n : ℕ) (rest : List Symbol) → Fresh rest → (c : Cond) × IsPrim total may n (a_test ++ rest) c n rest
    test_least n rest h = (_, test (ref (no_index refl)) by_sign literal)

    conj_least : (n : ℕ) (rest : List Symbol) → Fresh rest → (c : Cond) × IsConj total may n (a_test ++ rest) c n rest
    conj_least n rest h = let t = test_least n rest h in (t.0, conj_of t.1 (no_and h.no_and'))

    cond_least : (n : ℕ) (rest : List Symbol) → Fresh rest → (c : Cond) × IsCond total may n (a_test ++ rest) c n rest
    cond_least n rest h = let t = conj_least n rest h in (t.0, cond_of t.1 (no_or h.no_or'))

    exit_least : (n : ℕ) (rest : List Symbol) → Fresh rest → (s : Stmt) × IsStmt total may n (an_exit ++ rest) s rest
    exit_least n rest h = (_, exit (no_code h.no_code'))

    when_least : (n : ℕ) (rest : List Symbol) → Fresh rest → (w : When) × IsWhen total may false n (least (AWhen false) ++ rest) w rest
    when_least n rest h =
        let c = cond_least n (Close ∷ (an_exit ++ rest)) (fresh_close _) in
        let s = exit_least n rest h in
        (_, when_holds c.1 s.1)

    lists_least : (rest : List Symbol) → Fresh rest → (xs : List Operand) × IsLists total (least Lists ++ rest) [] xs rest
    lists_least rest h = (_, excluding (operands literal (no_further refl)))

    lang_least : (s : Part) (n : ℕ) (rest : List Symbol) → Behind s rest → (m : ℕ) × Lang total may s n (least s ++ rest) m rest
    lang_least (One w e) n rest h = (effect e n, ((sample w, sample_fits w, refl), refl))
    lang_least OrNumber n rest h = (n, (no_number h.no_number', refl))
    lang_least (ABlock top) n rest h = (n, ([], end_of, refl))
    lang_least (AnItem top) n rest h = let s = exit_least n rest h in (n, (s.0, item_statement s.1, refl))
    lang_least AStatement n rest h = let s = exit_least n rest h in (n, (s.0, s.1, refl))
    lang_least Lists n rest h = let x = lists_least rest h in (n, ([], x.0, x.1, refl))
    lang_least OrExclude n rest h = (n, ([], no_exclude h.no_exclude', refl))
    lang_least (OrAlternative w) n rest h = (n, (None, no_alternative h.1, refl))
    lang_least AChoice n rest h =
        let w = when_least n rest h in
        (n, (None, w.0 ∷ [], by_condition w.1 (no_when h.no_when'), refl))
    lang_least (AWhen true) n rest h =
        let s = exit_least n rest h in
        (n, (_, when_any (operands literal (no_further refl)) s.1, refl))
    lang_least (AWhen false) n rest h = let w = when_least n rest h in (n, (w.0, w.1, refl))
    lang_least (MoreWhens b) n rest h = (n, ([], no_when h.no_when', refl))
    lang_least ACondition n rest h = (n, cond_least n rest h)
    lang_least MoreOrs n rest h = (n, λ x. (x, no_or h.no_or'))
    lang_least AConjunct n rest h = (n, conj_least n rest h)
    lang_least MoreAnds n rest h = (n, λ x. (x, no_and h.no_and'))
    lang_least ATest n rest h = (n, test_least n rest h)
    lang_least (AnOperand kind) n rest h = (n, (_, literal, refl))
    lang_least (MoreOperands kind) n rest h = (n, ([], no_further h.1, refl))
    lang_least ARef n rest h = (n, (_, ref (no_index h.no_open'), refl))
    lang_least OrIndex n rest h = (n, (None, 0, no_index h.no_open', refl))
    lang_least OrCode n rest h = (n, (None, no_code h.no_code', refl))
    lang_least Back n rest h = (back n, (refl, refl))

    completes : (k : List Part) (n : ℕ) → Ready k → (m : ℕ) × Seq total may k n (shortest k) m []
    completes [] n r = (n, (refl, refl))
    completes (s ∷ k) n r =
        let a = lang_least s n (shortest k) r.0 in
        let b = completes k a.0 r.1 in
        (b.0, (a.0, shortest k, a.1, b.1))

  -- tokens that the table reads can go on to the end of the stack
  Completable : List Part → ℕ → List Symbol → Type 0
  Completable k n ts = (ys : List Symbol) × ((total : ℕ) → (m : ℕ) × Seq total may k n (ts ++ ys) m [])

  alive_at : (k : List Part) (n : ℕ) (t : Symbol) (p : List Symbol) (l : ℕ) (o : Step) → step may k n t ≡ o → Ready k
      → ((j : List Part) (i : ℕ) → Ready j → is_over (verdict may j i p) ≡ false → Completable j i p) → is_over (next o l (λ j i. verdict may j i p)) ≡ false → Completable k n (t ∷ p)
  unfolding Completable
  alive_at k n t p l No e r below h = let no : ⊥ = cc in absurd no
  alive_at k n t p l Many e r below h = let no : ⊥ = cc in absurd no
  alive_at k n t p l (Go i j) e r below h =
      let q = below j i (ready_step k j n i t r e) h in
      (q.0, λ total. let s = q.1 total in (s.0, steps total may k j n i t s.0 (p ++ q.0) [] e s.1))

  alive : (p : List Symbol) (k : List Part) (n : ℕ) → Ready k → is_over (verdict may k n p) ≡ false → Completable k n p
  unfolding Completable
  alive [] k n r h = (shortest k, λ total. completes total k n r)
  alive (t ∷ p) k n r h = alive_at k n t p (suc (length p)) (step may k n t) refl r (alive p) h

  no_over : (b : Bool) → is_over (cond b Complete Short) ≡ true → ⊥
  no_over true e = cc
  no_over false e = cc

  stays_at : (p ys : List Symbol) (l r : ℕ) (o : Step) → ((j : List Part) (i : ℕ) → is_over (verdict may j i p) ≡ true → is_over (verdict may j i (p ++ ys)) ≡ true)
      → is_over (next o l (λ j i. verdict may j i p)) ≡ true → is_over (next o r (λ j i. verdict may j i (p ++ ys))) ≡ true
  stays_at p ys l r No below h = refl
  stays_at p ys l r Many below h = refl
  stays_at p ys l r (Go i j) below h = below j i h

  stays : (p ys : List Symbol) (k : List Part) (n : ℕ) → is_over (verdict may k n p) ≡ true → is_over (verdict may k n (p ++ ys)) ≡ true
  stays [] ys k n h = absurd (no_over (all_empty k) h)
  stays (t ∷ p) ys k n h = stays_at p ys (suc (length p)) (suc (length (p ++ ys))) (step may k n t) (stays p ys) h

  -- the whole of a routine
  pub from_start : (total : ℕ) (ts : List Symbol) (m : ℕ) → Seq total may start 0 ts m [] → (tree : Routine) × IsRoutineOf total may ts tree
  from_start total ts m q =
      let proc = is_proc q.2.0.0 q.2.0.1 in
      let num = q.3 in
      let hd = num.3 in
      let bl = hd.3 in
      let name = is_head hd.2.0.0 hd.2.0.1 in
      let up : 0 ≡ hd.0 = q.2.1 ∙ num.2.1 ∙ hd.2.1 in
      let d : IsOrNumber q.1 (hd.2.0.0 ∷ hd.1) = subst (λ r. IsOrNumber q.1 r) hd.2.0.2 num.2.0 in
      let b : IsBlock total may true 0 hd.1 bl.2.0 [] = subst (λ x. IsBlock total may true x hd.1 bl.2.0 []) (sym up) (subst (λ r. IsBlock total may true hd.0 hd.1 bl.2.0 r) bl.3.1 bl.2.1) in
      let i : (tree : Routine) × IsRoutineOf total may (Word word.Proc proc.0 ∷ q.1) tree = (_, routine d name.1 b) in
      let j = subst (λ x. (tree : Routine) × IsRoutineOf total may (x ∷ q.1) tree) (sym proc.1) i in
      subst (λ x. (tree : Routine) × IsRoutineOf total may x tree) (sym q.2.0.2) j

  ready_start : Ready start
  unfolding sample
  ready_start = (tt, (fresh_end _, (tt, (tt, tt))))

  pub begins : (p : List Symbol) → is_over (verdict may start 0 p) ≡ false → Begins may p
  unfolding Completable
  begins p h =
      let q = alive p start 0 ready_start h in
      let total = length (p ++ q.0) in
      let s = q.1 total in
      let r = from_start total (p ++ q.0) s.0 s.1 in
      (q.0, r.0, r.1)

  pub begins_not : (p : List Symbol) → is_over (verdict may start 0 p) ≡ true → Begins may p → ⊥
  begins_not p h b =
      let e = stays p b.0 start 0 h in
      let f = ap is_over (runs_routine may b.2) in
      cc

empty_goes : (b : Bool) → is_over (cond b Complete Short) ≡ false
empty_goes true = refl
empty_goes false = refl

-- where the limited table stops with l tokens left; over says whether the unlimited one stops there too
record Halts (k : List Part) (n : ℕ) (ts : List Symbol) (l : ℕ) (over : Bool) : Type 0 where
  at : ℕ
  left : at + l ≡ length ts
  some : 0 < l
  before : is_over (verdict limited k n (take at ts)) ≡ false
  behind : is_over (verdict limited k n (take (suc at) ts)) ≡ true
  free : is_over (verdict unlimited k n (take (suc at) ts)) ≡ over

further : (k j : List Part) (n i : ℕ) (t : Symbol) (ts : List Symbol) (l : ℕ) (over : Bool) → step limited k n t ≡ Go i j → step unlimited k n t ≡ Go i j → Halts j i ts l over → Halts k n (t ∷ ts) l over
further k j n i t ts l over e f b = record {
  at = suc b.at;
  left = omega (arith, b.left);
  some = b.some;
  before = ap (λ x. is_over (next x (suc (length (take b.at ts))) (λ q m. verdict limited q m (take b.at ts)))) e ∙ b.before;
  behind = ap (λ x. is_over (next x (suc (length (take (suc b.at) ts))) (λ q m. verdict limited q m (take (suc b.at) ts)))) e ∙ b.behind;
  free = ap (λ x. is_over (next x (suc (length (take (suc b.at) ts))) (λ q m. verdict unlimited q m (take (suc b.at) ts)))) f ∙ b.free;
}

stop_at : (k : List Part) (n : ℕ) (t : Symbol) (ts : List Symbol) (l : ℕ) (o : Step) → step limited k n t ≡ o → WideStep o (step unlimited k n t)
    → ((j : List Part) (i : ℕ) → verdict limited j i ts ≡ Stop l → Halts j i ts l true) → next o (suc (length ts)) (λ j i. verdict limited j i ts) ≡ Stop l → Halts k n (t ∷ ts) l true
stop_at k n t ts l No e w below h =
    let f : suc (length ts) ≡ l = cc in
    record {
      at = 0;
      left = omega arith;
      some = omega arith;
      before = empty_goes (all_empty k);
      behind = ap (λ x. is_over (next x 1 (λ j i. verdict limited j i []))) e;
      free = ap (λ x. is_over (next x 1 (λ j i. verdict unlimited j i []))) w;
    }
stop_at k n t ts l Many e w below h = let no : ⊥ = cc in absurd no
stop_at k n t ts l (Go i j) e w below h = further k j n i t ts l true e w (below j i h)

deep_at : (k : List Part) (n : ℕ) (t : Symbol) (ts : List Symbol) (l : ℕ) (o : Step) → step limited k n t ≡ o → WideStep o (step unlimited k n t)
    → ((j : List Part) (i : ℕ) → verdict limited j i ts ≡ TooMany l → Halts j i ts l false) → next o (suc (length ts)) (λ j i. verdict limited j i ts) ≡ TooMany l → Halts k n (t ∷ ts) l false
deep_at k n t ts l No e w below h = let no : ⊥ = cc in absurd no
deep_at k n t ts l Many e w below h =
    let f : suc (length ts) ≡ l = cc in
    record {
      at = 0;
      left = omega arith;
      some = omega arith;
      before = empty_goes (all_empty k);
      behind = ap (λ x. is_over (next x 1 (λ j i. verdict limited j i []))) e;
      free = ap (λ x. is_over (next x 1 (λ j i. verdict unlimited j i []))) w.2 ∙ empty_goes (all_empty w.1);
    }
deep_at k n t ts l (Go i j) e w below h = further k j n i t ts l false e w (below j i h)

no_stop : (b : Bool) (l : ℕ) → cond b Complete Short ≡ Stop l → ⊥
no_stop true l e = cc
no_stop false l e = cc

no_deep : (b : Bool) (l : ℕ) → cond b Complete Short ≡ TooMany l → ⊥
no_deep true l e = cc
no_deep false l e = cc

stops : (ts : List Symbol) (k : List Part) (n l : ℕ) → verdict limited k n ts ≡ Stop l → Halts k n ts l true
stops [] k n l h = absurd (no_stop (all_empty k) l h)
stops (t ∷ ts) k n l h = stop_at k n t ts l (step limited k n t) refl (wide k n t) (λ j i. stops ts j i l) h

deeps : (ts : List Symbol) (k : List Part) (n l : ℕ) → verdict limited k n ts ≡ TooMany l → Halts k n ts l false
deeps [] k n l h = absurd (no_deep (all_empty k) l h)
deeps (t ∷ ts) k n l h = deep_at k n t ts l (step limited k n t) refl (wide k n t) (λ j i. deeps ts j i l) h

pub first_wrong : (ts : List Symbol) (n k : ℕ) → verdict limited start 0 ts ≡ Stop n → k + n ≡ length ts → IsFirstWrong ts k
first_wrong ts n k h e =
    let b = stops ts start 0 n h in
    let same : b.at ≡ k = omega (arith, b.left) in
    let one : suc b.at ≡ k + 1 = omega arith in
    record {
      within = omega (arith, b.some);
      before = begins limited (take k ts) (subst (λ x. is_over (verdict limited start 0 (take x ts)) ≡ false) same b.before);
      wrong = begins_not unlimited (take (k + 1) ts) (subst (λ x. is_over (verdict unlimited start 0 (take x ts)) ≡ true) one b.free);
    }

pub too_deep : (ts : List Symbol) (n k : ℕ) → verdict limited start 0 ts ≡ TooMany n → k + n ≡ length ts → IsTooDeep ts k
too_deep ts n k h e =
    let b = deeps ts start 0 n h in
    let same : b.at ≡ k = omega (arith, b.left) in
    let one : suc b.at ≡ k + 1 = omega arith in
    record {
      within = omega (arith, b.some);
      before = begins limited (take k ts) (subst (λ x. is_over (verdict limited start 0 (take x ts)) ≡ false) same b.before);
      goes_on = begins unlimited (take (k + 1) ts) (subst (λ x. is_over (verdict unlimited start 0 (take x ts)) ≡ false) one b.free);
      deep = begins_not limited (take (k + 1) ts) (subst (λ x. is_over (verdict limited start 0 (take x ts)) ≡ true) one b.behind);
    }

pub ends_early : (ts : List Symbol) → verdict limited start 0 ts ≡ Short → EndsEarly ts
ends_early ts h = record {
  begins = begins limited ts (ap is_over h);
  no_routine = λ tree r. let e = runs_routine limited r in let no : ⊥ = cc in no;
}

pub stop_within : (ts : List Symbol) (n : ℕ) → verdict limited start 0 ts ≡ Stop n → n ≤ length ts
stop_within ts n h = let b = stops ts start 0 n h in omega (arith, b.left)

pub deep_within : (ts : List Symbol) (n : ℕ) → verdict limited start 0 ts ≡ TooMany n → n ≤ length ts
deep_within ts n h = let b = deeps ts start 0 n h in omega (arith, b.left)
