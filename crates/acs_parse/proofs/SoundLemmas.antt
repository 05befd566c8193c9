-- Each row of the table is right.
use Rattle.std.proofs.Common.{◌≡◌, ℕ, suc, Bool, true, false, cond, List, [], ◌∷◌, ◌++◌, refl, ap, sym, ◌∙◌, subst}
use Rattle.std.specs.Prelude.{◌||◌, Option, Some, None}
use Rattle.acs_tree.specs.declared.routine.Compare.{Compare}
use Rattle.acs_tree.specs.declared.routine.Ref.{Ref}
use Rattle.acs_tree.specs.declared.routine.Operand.{Operand}
use Rattle.acs_tree.specs.declared.routine.Cond.{Cond}
use Rattle.acs_tree.specs.declared.routine.Cond.TheVariants as condition
use Rattle.acs_tree.specs.declared.routine.When.{When}
use Rattle.acs_tree.specs.declared.routine.Stmt.{Stmt}
use Rattle.acs_parse.specs.declared.list_kind.ListKind.{ListKind}
use Rattle.acs_parse.specs.declared.list_kind.ListKind.TheVariants as list
use Rattle.acs_symbol.specs.declared.symbol.WordKind.{WordKind}
use Rattle.acs_symbol.specs.declared.symbol.WordKind.TheVariants as word
use Rattle.acs_symbol.specs.declared.symbol.Symbol.{Symbol}
use Rattle.acs_symbol.specs.declared.symbol.Symbol.TheVariants.{Word, Variable, Literal, Open, Close, Comma, Operator}
use Rattle.acs_parse.specs.declared.want.Want.{Want}
use Rattle.acs_parse.specs.declared.want.Want.TheVariants as want
use Rattle.acs_parse.specs.Wants.{fits}
use Rattle.acs_parse.specs.Grammar.{takes_words, takes_variables, joins, back, IsOperator, by_sign, by_word, IsListName}
use Rattle.acs_parse.specs.Grammar.{named_by_word, named_by_variable, IsHead, headed_by_word, headed_by_variable}
use Rattle.acs_parse.specs.Grammar.{IsIndex, no_index, index, IsRef, ref, IsOperand, literal, word_of, variable}
use Rattle.acs_parse.specs.Grammar.{IsFurther, no_further, after_comma, joined, IsOperands, operands, IsExclude}
use Rattle.acs_parse.specs.Grammar.{no_exclude, exclude, IsLists, including, excluding, filter, IsCode, no_code, code}
use Rattle.acs_parse.specs.Grammar.{IsCond, cond_of, IsOrs, no_or, or_more, IsConj, conj_of, IsAnds, no_and, and_more}
use Rattle.acs_parse.specs.Grammar.{IsPrim, test, group, IsStmt, set, choice, pick, group_of, write, exit}
use Rattle.acs_parse.specs.Grammar.{IsAlternative, no_alternative, alternative, IsChoice, by_value, by_condition}
use Rattle.acs_parse.specs.Grammar.{IsWhen, when_any, when_holds, IsWhens, no_when, more_whens, IsBlock, end_of}
use Rattle.acs_parse.specs.Grammar.{then_more, IsItem, item_filter, item_statement, IsOrNumber, no_number, number}
use Rattle.acs_parse.specs.Inner.Table.{Effect, Keep, Lower, To, Part, One, OrNumber, ABlock, AnItem, AStatement, Lists}
use Rattle.acs_parse.specs.Inner.Table.{OrExclude, OrAlternative, AChoice, AWhen, MoreWhens, ACondition, MoreOrs}
use Rattle.acs_parse.specs.Inner.Table.{AConjunct, MoreAnds, ATest, AnOperand, MoreOperands, ARef, OrIndex, OrCode}
use Rattle.acs_parse.specs.Inner.Table.{Back, Move, Read, Full, Pass, Refuse, followed, entries, when_parts, opens}
use Rattle.acs_parse.specs.Inner.Table.{item_opens, test_opens, operand_opens, list_opens, choice_opens, rule, Step, Go}
use Rattle.acs_parse.specs.Inner.Table.{after, step}
use Rattle.acs_parse.specs.Inner.Language.{Takes, Seq, Holds}

-- what a wanted token is

pub is_open : (t : Symbol) → fits want.Open t ≡ true → t ≡ Open
is_open Open e = refl
is_open _ e = cc

pub is_close : (t : Symbol) → fits want.Close t ≡ true → t ≡ Close
is_close Close e = refl
is_close _ e = cc

pub is_comma : (t : Symbol) → fits want.Comma t ≡ true → t ≡ Comma
is_comma Comma e = refl
is_comma _ e = cc

pub is_number : (t : Symbol) → fits want.Number t ≡ true → (text : List ℕ) × (t ≡ Word word.Number text)
is_number (Word word.Number text) e = (text, refl)
is_number _ e = let no : ⊥ = cc in absurd no

pub is_word : (t : Symbol) → fits want.Word t ≡ true → (kind : WordKind) × (text : List ℕ) × (t ≡ Word kind text)
is_word (Word kind text) e = (kind, text, refl)
is_word _ e = let no : ⊥ = cc in absurd no

pub is_variable : (t : Symbol) → fits want.Variable t ≡ true → (name : List ℕ) × (t ≡ Variable name)
is_variable (Variable name) e = (name, refl)
is_variable _ e = let no : ⊥ = cc in absurd no

pub is_then : (t : Symbol) → fits want.Then t ≡ true → (text : List ℕ) × (t ≡ Word word.Then text)
is_then (Word word.Then text) e = (text, refl)
is_then _ e = let no : ⊥ = cc in absurd no

pub is_end : (t : Symbol) → fits want.End t ≡ true → (text : List ℕ) × (t ≡ Word word.End text)
is_end (Word word.End text) e = (text, refl)
is_end _ e = let no : ⊥ = cc in absurd no

pub is_when : (t : Symbol) → fits want.When t ≡ true → (text : List ℕ) × (t ≡ Word word.When text)
is_when (Word word.When text) e = (text, refl)
is_when _ e = let no : ⊥ = cc in absurd no

pub is_exclude : (t : Symbol) → fits want.Exclude t ≡ true → (text : List ℕ) × (t ≡ Word word.Exclude text)
is_exclude (Word word.Exclude text) e = (text, refl)
is_exclude _ e = let no : ⊥ = cc in absurd no

pub is_code : (t : Symbol) → fits want.Code t ≡ true → (text : List ℕ) × (t ≡ Word word.Code text)
is_code (Word word.Code text) e = (text, refl)
is_code _ e = let no : ⊥ = cc in absurd no

pub is_proc : (t : Symbol) → fits want.Proc t ≡ true → (text : List ℕ) × (t ≡ Word word.Proc text)
is_proc (Word word.Proc text) e = (text, refl)
is_proc _ e = let no : ⊥ = cc in absurd no

pub is_operator : (t : Symbol) → fits want.Operator t ≡ true → (op : Compare) × IsOperator t op
is_operator (Operator op) e = (op, by_sign)
is_operator (Word (word.Compare op) text) e = (op, by_word)
is_operator _ e = let no : ⊥ = cc in absurd no

pub is_name : (t : Symbol) → fits want.Name t ≡ true → (text : List ℕ) × IsListName t text
is_name (Word kind text) e = (text, named_by_word)
is_name (Variable text) e = (text, named_by_variable)
is_name _ e = let no : ⊥ = cc in absurd no

pub is_head : (t : Symbol) → fits want.Head t ≡ true → (text : List ℕ) × IsHead t text
is_head (Word word.Number text) e = let no : ⊥ = cc in absurd no
is_head (Word kind text) e = (text, headed_by_word refl)
is_head (Variable text) e = (text, headed_by_variable)
is_head _ e = let no : ⊥ = cc in absurd no

-- the tokens are one that is wanted, as it is, and the rest
opens_at : (ts rest : List Symbol) → Takes want.Open ts rest → ts ≡ Open ∷ rest
opens_at ts rest q = q.2 ∙ ap (λ x. x ∷ rest) (is_open q.0 q.1)

closes_at : (ts rest : List Symbol) → Takes want.Close ts rest → ts ≡ Close ∷ rest
closes_at ts rest q = q.2 ∙ ap (λ x. x ∷ rest) (is_close q.0 q.1)

number_at : (ts rest : List Symbol) → Takes want.Number ts rest → (text : List ℕ) × (ts ≡ Word word.Number text ∷ rest)
number_at ts rest q = let w = is_number q.0 q.1 in (w.0, q.2 ∙ ap (λ x. x ∷ rest) w.1)

word_at : (ts rest : List Symbol) → Takes want.Word ts rest → (kind : WordKind) × (text : List ℕ) × (ts ≡ Word kind text ∷ rest)
word_at ts rest q = let w = is_word q.0 q.1 in (w.0, w.1, q.2 ∙ ap (λ x. x ∷ rest) w.2)

then_at : (ts rest : List Symbol) → Takes want.Then ts rest → (text : List ℕ) × (ts ≡ Word word.Then text ∷ rest)
then_at ts rest q = let w = is_then q.0 q.1 in (w.0, q.2 ∙ ap (λ x. x ∷ rest) w.1)

end_at : (ts rest : List Symbol) → Takes want.End ts rest → (text : List ℕ) × (ts ≡ Word word.End text ∷ rest)
end_at ts rest q = let w = is_end q.0 q.1 in (w.0, q.2 ∙ ap (λ x. x ∷ rest) w.1)

module _ (total : ℕ) (may : ℕ → Bool) where
  pub seq_split : (a b : List Part) (n m : ℕ) (ts rest : List Symbol) → Seq total may (a ++ b) n ts m rest
      → (p : ℕ) × (ms : List Symbol) × Seq total may a n ts p ms × Seq total may b p ms m rest
  seq_split [] b n m ts rest q = (n, ts, (refl, refl), q)
  seq_split (s ∷ a) b n m ts rest q =
      let p = seq_split a b q.0 m q.1 rest q.3 in
      (p.0, p.1, (q.0, q.1, q.2, p.2), p.3)

  -- a row by a test
  row_at : (s : Part) (n : ℕ) (t : Symbol) (x y : Move) (b : Bool) → (b ≡ true → Holds total may s n t x) → (b ≡ false → Holds total may s n t y) → Holds total may s n t (cond b x y)
  row_at s n t x y true f g = f refl
  row_at s n t x y false f g = g refl

  gate_at : (s : Part) (n : ℕ) (t : Symbol) (new : List Part) (b : Bool) → (b ≡ true → Holds total may s n t (Read (suc n) new)) → Holds total may s n t (cond b (Read (suc n) new) Full)
  gate_at s n t new true h = h refl
  gate_at s n t new false h = tt

  stmt_to : (n m : ℕ) (s : Stmt) (ts ms rest : List Symbol) → IsStmt total may n ts s ms → ms ≡ rest → n ≡ m → (s : Stmt) × IsStmt total may n ts s rest × (n ≡ m)
  stmt_to n m s ts ms rest d e f = (s, subst (λ r. IsStmt total may n ts s r) e d, f)

  holds_statement : (n : ℕ) (t : Symbol) → Holds total may AStatement n t (opens may n t)
  holds_statement n (Word word.Set a) = λ m ms rest q.
      let r = q.2.0 in
      let b = q.3 in
      let e : q.1 ≡ b.2.0.0 ∷ b.1 = b.2.0.2 in
      let d : IsRef total ms r (b.2.0.0 ∷ b.1) = subst (λ x. IsRef total ms r x) e q.2.1 in
      let o = b.3 in
      let os = o.3 in
      let up : n ≡ m = q.2.2 ∙ b.2.1 ∙ o.2.2 ∙ os.2.2 ∙ os.3.0 in
      stmt_to n m _ (Word word.Set a ∷ ms) os.1 rest (set d b.2.0.1 (operands o.2.1 os.2.1)) os.3.1 up
  holds_statement n (Word word.If a) = gate_at AStatement n (Word word.If a) (ACondition ∷ One want.Then (To (suc n)) ∷ AStatement ∷ OrAlternative want.Else ∷ Back ∷ []) (may n) (λ e m ms rest q.
      let c = q.2.0 in
      let th = then_at q.1 q.3.1 q.3.2.0 in
      let d : IsCond total may (suc n) ms c q.0 (Word word.Then th.0 ∷ q.3.1) = subst (λ r. IsCond total may (suc n) ms c q.0 r) th.1 q.2.1 in
      let a1 = q.3.3 in
      let s : IsStmt total may (suc n) q.3.1 a1.2.0 a1.1 = subst (λ x. IsStmt total may x q.3.1 a1.2.0 a1.1) (sym q.3.2.1) a1.2.1 in
      let b = a1.3 in
      let up : suc n ≡ a1.0 = q.3.2.1 ∙ a1.2.2 in
      let o : IsAlternative total may want.Else (suc n) a1.1 b.2.0 b.1 = subst (λ x. IsAlternative total may want.Else x a1.1 b.2.0 b.1) (sym up) b.2.1 in
      let f : n ≡ m = ap back (up ∙ b.2.2) ∙ b.3.2.1 ∙ b.3.3.0 in
      stmt_to n m _ (Word word.If a ∷ ms) b.1 rest (choice e d s o) (b.3.2.0 ∙ b.3.3.1) f)
  holds_statement n (Word word.Select a) = gate_at AStatement n (Word word.Select a) (AChoice ∷ OrAlternative want.Otherwise ∷ One want.End Lower ∷ []) (may n) (λ e m ms rest q.
      let b = q.3 in
      let en = end_at b.1 b.3.1 b.3.2.0 in
      let o : IsAlternative total may want.Otherwise (suc n) q.1 b.2.0 (Word word.End en.0 ∷ b.3.1) =
      subst (λ r. IsAlternative total may want.Otherwise (suc n) q.1 b.2.0 r) en.1 (subst (λ x. IsAlternative total may want.Otherwise x q.1 b.2.0 b.1) (sym q.2.3) b.2.1) in
      let f : n ≡ m = ap back (q.2.3 ∙ b.2.2) ∙ b.3.2.1 ∙ b.3.3.0 in
      stmt_to n m _ (Word word.Select a ∷ ms) b.3.1 rest (pick e q.2.2 o) b.3.3.1 f)
  holds_statement n (Word word.Do a) = gate_at AStatement n (Word word.Do a) (ABlock false ∷ Back ∷ []) (may n) (λ e m ms rest q.
      let f : n ≡ m = ap back q.2.2 ∙ q.3.2.1 ∙ q.3.3.0 in
      stmt_to n m _ (Word word.Do a ∷ ms) q.1 rest (group_of e q.2.1) (q.3.2.0 ∙ q.3.3.1) f)
  holds_statement n (Word word.Write a) = λ m ms rest q.
      stmt_to n m _ (Word word.Write a ∷ ms) q.3.1 rest (write (operands q.2.1 q.3.2.1)) q.3.3.1 (q.2.2 ∙ q.3.2.2 ∙ q.3.3.0)
  holds_statement n (Word word.Exit a) = λ m ms rest q.
      stmt_to n m _ (Word word.Exit a ∷ ms) q.1 rest (exit q.2.1) q.3.1 (q.2.2 ∙ q.3.0)
  holds_statement n _ = tt

  item_from : (top : Bool) (n : ℕ) (t : Symbol) (move : Move) → Holds total may AStatement n t move → Holds total may (AnItem top) n t move
  item_from top n t (Read p new) h = λ m ms rest q. let s = h m ms rest q in (s.0, item_statement s.1, s.2)
  item_from top n t (Pass p) h = λ ms. let s = h ms in (s.0, item_statement s.1, s.2)
  item_from top n t Full h = tt
  item_from top n t Refuse h = tt

  filter_row : (n m : ℕ) (a : List ℕ) (ms rest : List Symbol) → Seq total may (One want.Name Keep ∷ Lists ∷ []) n ms m rest
      → (s : Stmt) × IsItem total may true n (Word word.FiltList a ∷ ms) s rest × (n ≡ m)
  filter_row n m a ms rest q =
      let name = is_name q.2.0.0 q.2.0.1 in
      let l = q.3 in
      let d : IsLists total q.1 l.2.0 l.2.1 rest = subst (λ r. IsLists total q.1 l.2.0 l.2.1 r) l.3.1 l.2.2 in
      let i : (s : Stmt) × IsItem total may true n (Word word.FiltList a ∷ q.2.0.0 ∷ q.1) s rest = (_, item_filter (filter {a = a} name.1 d)) in
      let j = subst (λ x. (s : Stmt) × IsItem total may true n (Word word.FiltList a ∷ x) s rest) (sym q.2.0.2) i in
      (j.0, j.1, q.2.1 ∙ l.2.3 ∙ l.3.0)

  holds_item : (top : Bool) (n : ℕ) (t : Symbol) → Holds total may (AnItem top) n t (item_opens may top n t)
  holds_item true n (Word word.FiltList a) = λ m ms rest q. filter_row n m a ms rest q
  holds_item true n t = item_from true n t (opens may n t) (holds_statement n t)
  holds_item false n t = item_from false n t (opens may n t) (holds_statement n t)

  block_from : (top : Bool) (n : ℕ) (t : Symbol) (move : Move) → Holds total may (AnItem top) n t move → Holds total may (ABlock top) n t (followed move (ABlock top ∷ []))
  block_from top n t (Read p new) h = λ m ms rest q.
      let d = seq_split new (ABlock top ∷ []) p m ms rest q in
      let s = h d.0 ms d.1 d.2 in
      let ss = d.3.2.0 in
      let b : IsBlock total may top n d.1 ss d.3.1 = subst (λ x. IsBlock total may top x d.1 ss d.3.1) (sym s.2) d.3.2.1 in
      (s.0 ∷ ss, subst (λ r. IsBlock total may top n (t ∷ ms) (s.0 ∷ ss) r) d.3.3.1 (then_more s.1 b), s.2 ∙ d.3.2.2 ∙ d.3.3.0)
  block_from top n t Full h = tt
  block_from top n t (Pass m) h = tt
  block_from top n t Refuse h = tt

  block_end : (top : Bool) (n m : ℕ) (t : Symbol) (ms rest : List Symbol) → fits want.End t ≡ true → n ≡ m → ms ≡ rest
      → (ss : List Stmt) × IsBlock total may top n (t ∷ ms) ss rest × (n ≡ m)
  block_end top n m t ms rest e f g =
      let w = is_end t e in
      ([], subst (λ x. IsBlock total may top n (x ∷ ms) [] rest) (sym w.1) (subst (λ r. IsBlock total may top n (Word word.End w.0 ∷ ms) [] r) g end_of), f)

  holds_block : (top : Bool) (n : ℕ) (t : Symbol) → Holds total may (ABlock top) n t (rule may (ABlock top) n t)
  holds_block top n t = row_at (ABlock top) n t _ _ (fits want.End t) (λ e m ms rest q. block_end top n m t ms rest e q.0 q.1) (λ e. block_from top n t (item_opens may top n t) (holds_item top n t))

  entries_row : (n m : ℕ) (ms rest : List Symbol) → Seq total may entries n ms m rest
      → (ts : List Symbol) × (os : List Operand) × (ms ≡ Open ∷ ts) × IsOperands total list.Entries ts os (Close ∷ rest) × (n ≡ m)
  entries_row n m ms rest q =
      let o = q.3 in
      let os = o.3 in
      let c = os.3 in
      let e : os.1 ≡ Close ∷ rest = closes_at os.1 c.1 c.2.0 ∙ ap (λ x. Close ∷ x) c.3.1 in
      let d : IsFurther total list.Entries o.1 os.2.0 (Close ∷ rest) = subst (λ r. IsFurther total list.Entries o.1 os.2.0 r) e os.2.1 in
      (q.1, _, opens_at ms q.1 q.2.0, operands o.2.1 d, q.2.1 ∙ o.2.2 ∙ os.2.2 ∙ c.2.1 ∙ c.3.0)

  exclude_row : (n m : ℕ) (a : List ℕ) (ms rest : List Symbol) → Seq total may entries n ms m rest
      → (xs : List Operand) × IsExclude total (Word word.Exclude a ∷ ms) xs rest × (n ≡ m)
  exclude_row n m a ms rest q =
      let d = entries_row n m ms rest q in
      (d.1, subst (λ x. IsExclude total (Word word.Exclude a ∷ x) d.1 rest) (sym d.2) (exclude d.3), d.4)

  holds_lists : (n : ℕ) (t : Symbol) → Holds total may Lists n t (list_opens n t)
  holds_lists n (Word word.Include a) = λ m ms rest q.
      let p = seq_split entries (OrExclude ∷ []) n m ms rest q in
      let d = entries_row n p.0 ms p.1 p.2 in
      let x = p.3 in
      let e : IsExclude total p.1 x.2.0 rest = subst (λ r. IsExclude total p.1 x.2.0 r) x.3.1 x.2.1 in
      (d.1, x.2.0, subst (λ y. IsLists total (Word word.Include a ∷ y) d.1 x.2.0 rest) (sym d.2) (including d.3 e), d.4 ∙ x.2.2 ∙ x.3.0)
  holds_lists n (Word word.Exclude a) = λ m ms rest q.
      let d = entries_row n m ms rest q in
      ([], d.1, subst (λ y. IsLists total (Word word.Exclude a ∷ y) [] d.1 rest) (sym d.2) (excluding d.3), d.4)
  holds_lists n _ = tt

  holds_exclude : (n : ℕ) (t : Symbol) → Holds total may OrExclude n t (rule may OrExclude n t)
  holds_exclude n t = row_at OrExclude n t _ _ (fits want.Exclude t)
      (λ e m ms rest q.
      let w = is_exclude t e in
      let r = exclude_row n m w.0 ms rest q in
      (r.0, subst (λ x. IsExclude total (x ∷ ms) r.0 rest) (sym w.1) r.1, r.2))
      (λ e ms. ([], no_exclude e, refl))

  holds_alternative : (w : Want) (n : ℕ) (t : Symbol) → Holds total may (OrAlternative w) n t (rule may (OrAlternative w) n t)
  holds_alternative w n t = row_at (OrAlternative w) n t _ _ (fits w t)
      (λ e m ms rest q. (Some q.2.0, subst (λ r. IsAlternative total may w n (t ∷ ms) (Some q.2.0) r) q.3.1 (alternative e q.2.1), q.2.2 ∙ q.3.0))
      (λ e ms. (None, no_alternative e, refl))

  when_row : (b : Bool) (n m : ℕ) (a : List ℕ) (ms rest : List Symbol) → Seq total may (when_parts b n) n ms m rest
      → (w : When) × IsWhen total may b n (Word word.When a ∷ ms) w rest × (n ≡ m)
  when_row true n m a ms rest q =
      let o = q.3 in
      let os = o.3 in
      let c = os.3 in
      let s = c.3 in
      let d : IsFurther total list.Items o.1 os.2.0 (Close ∷ c.1) = subst (λ r. IsFurther total list.Items o.1 os.2.0 r) (closes_at os.1 c.1 c.2.0) os.2.1 in
      let up : n ≡ c.0 = q.2.1 ∙ o.2.2 ∙ os.2.2 ∙ c.2.1 in
      let body : IsStmt total may n c.1 s.2.0 rest = subst (λ x. IsStmt total may x c.1 s.2.0 rest) (sym up) (subst (λ r. IsStmt total may c.0 c.1 s.2.0 r) s.3.1 s.2.1) in
      let i : (w : When) × IsWhen total may true n (Word word.When a ∷ Open ∷ q.1) w rest = (_, when_any (operands o.2.1 d) body) in
      let j = subst (λ x. (w : When) × IsWhen total may true n (Word word.When a ∷ x) w rest) (sym (opens_at ms q.1 q.2.0)) i in
      (j.0, j.1, up ∙ s.2.2 ∙ s.3.0)
  when_row false n m a ms rest q =
      let c = q.3 in
      let k = c.3 in
      let s = k.3 in
      let d : IsCond total may n q.1 c.2.0 c.0 (Close ∷ k.1) =
      subst (λ x. IsCond total may x q.1 c.2.0 c.0 (Close ∷ k.1)) (sym q.2.1) (subst (λ r. IsCond total may q.0 q.1 c.2.0 c.0 r) (closes_at c.1 k.1 k.2.0) c.2.1) in
      let body : IsStmt total may n k.1 s.2.0 rest = subst (λ x. IsStmt total may x k.1 s.2.0 rest) (sym k.2.1) (subst (λ r. IsStmt total may k.0 k.1 s.2.0 r) s.3.1 s.2.1) in
      let i : (w : When) × IsWhen total may false n (Word word.When a ∷ Open ∷ q.1) w rest = (_, when_holds d body) in
      let j = subst (λ x. (w : When) × IsWhen total may false n (Word word.When a ∷ x) w rest) (sym (opens_at ms q.1 q.2.0)) i in
      (j.0, j.1, k.2.1 ∙ s.2.2 ∙ s.3.0)

  holds_when : (b : Bool) (n : ℕ) (t : Symbol) → Holds total may (AWhen b) n t (rule may (AWhen b) n t)
  holds_when b n t = row_at (AWhen b) n t _ _ (fits want.When t)
      (λ e m ms rest q.
      let w = is_when t e in
      let r = when_row b n m w.0 ms rest q in
      (r.0, subst (λ x. IsWhen total may b n (x ∷ ms) r.0 rest) (sym w.1) r.1, r.2))
      (λ e. tt)

  whens_row : (b : Bool) (n m : ℕ) (a : List ℕ) (ms rest : List Symbol) → Seq total may (when_parts b n ++ MoreWhens b ∷ []) n ms m rest
      → (w : When) × (ws : List When) × (ns : List Symbol) × IsWhen total may b n (Word word.When a ∷ ms) w ns × IsWhens total may b n ns ws rest × (n ≡ m)
  whens_row b n m a ms rest q =
      let p = seq_split (when_parts b n) (MoreWhens b ∷ []) n m ms rest q in
      let w = when_row b n p.0 a ms p.1 p.2 in
      let x = p.3 in
      let ws : IsWhens total may b n p.1 x.2.0 rest = subst (λ y. IsWhens total may b y p.1 x.2.0 rest) (sym w.2) (subst (λ r. IsWhens total may b p.0 p.1 x.2.0 r) x.3.1 x.2.1) in
      (w.0, x.2.0, p.1, w.1, ws, w.2 ∙ x.2.2 ∙ x.3.0)

  holds_whens : (b : Bool) (n : ℕ) (t : Symbol) → Holds total may (MoreWhens b) n t (rule may (MoreWhens b) n t)
  holds_whens b n t = row_at (MoreWhens b) n t _ _ (fits want.When t)
      (λ e m ms rest q.
      let w = is_when t e in
      let r = whens_row b n m w.0 ms rest q in
      (r.0 ∷ r.1, subst (λ x. IsWhens total may b n (x ∷ ms) (r.0 ∷ r.1) rest) (sym w.1) (more_whens r.3 r.4), r.5))
      (λ e ms. ([], no_when e, refl))

  choice_row : (n m : ℕ) (ms rest : List Symbol) → Seq total may (ARef ∷ One want.Close Keep ∷ AWhen true ∷ MoreWhens true ∷ []) n ms m rest
      → (r : Option Ref) × (ws : List When) × IsChoice total may n (Open ∷ ms) r ws rest × (n ≡ m)
  choice_row n m ms rest q =
      let c = q.3 in
      let w = c.3 in
      let x = w.3 in
      let d : IsRef total ms q.2.0 (Close ∷ c.1) = subst (λ r. IsRef total ms q.2.0 r) (closes_at q.1 c.1 c.2.0) q.2.1 in
      let up : n ≡ c.0 = q.2.2 ∙ c.2.1 in
      let first : IsWhen total may true n c.1 w.2.0 w.1 = subst (λ y. IsWhen total may true y c.1 w.2.0 w.1) (sym up) w.2.1 in
      let more : IsWhens total may true n w.1 x.2.0 rest = subst (λ y. IsWhens total may true y w.1 x.2.0 rest) (sym (up ∙ w.2.2)) (subst (λ r. IsWhens total may true w.0 w.1 x.2.0 r) x.3.1 x.2.1) in
      (Some q.2.0, w.2.0 ∷ x.2.0, by_value d first more, up ∙ w.2.2 ∙ x.2.2 ∙ x.3.0)

  holds_choice : (n : ℕ) (t : Symbol) → Holds total may AChoice n t (choice_opens n t)
  holds_choice n Open = λ m ms rest q. choice_row n m ms rest q
  holds_choice n (Word word.When a) = λ m ms rest q.
      let r = whens_row false n m a ms rest q in
      (None, r.0 ∷ r.1, by_condition r.3 r.4, r.5)
  holds_choice n _ = tt

  holds_operand : (kind : ListKind) (n : ℕ) (t : Symbol) → Holds total may (AnOperand kind) n t (operand_opens kind n t)
  holds_operand kind n (Literal text) = λ m ms rest q.
      let i : (o : Operand) × IsOperand total kind (Literal text ∷ ms) o ms = (_, literal) in
      (i.0, subst (λ r. IsOperand total kind (Literal text ∷ ms) i.0 r) q.1 i.1, q.0)
  holds_operand kind n (Word form text) = row_at (AnOperand kind) n (Word form text) _ _ (takes_words kind)
      (λ e m ms rest q.
      let i : (o : Operand) × IsOperand total kind (Word form text ∷ ms) o ms = (_, word_of e) in
      (i.0, subst (λ r. IsOperand total kind (Word form text ∷ ms) i.0 r) q.1 i.1, q.0))
      (λ e. tt)
  holds_operand kind n (Variable name) = row_at (AnOperand kind) n (Variable name) _ _ (takes_variables kind)
      (λ e m ms rest q.
      let d : IsIndex total ms q.2.0 q.2.1 rest = subst (λ r. IsIndex total ms q.2.0 q.2.1 r) q.3.1 q.2.2 in
      (_, variable e (ref d), q.2.3 ∙ q.3.0))
      (λ e. tt)
  holds_operand kind n _ = tt

  joined_from : (kind : ListKind) (n : ℕ) (t : Symbol) (move : Move) → joins kind t ≡ true → Holds total may (AnOperand kind) n t move
      → Holds total may (MoreOperands kind) n t (followed move (MoreOperands kind ∷ []))
  joined_from kind n t (Read p new) e h = λ m ms rest q.
      let d = seq_split new (MoreOperands kind ∷ []) p m ms rest q in
      let o = h d.0 ms d.1 d.2 in
      let os = d.3.2.0 in
      (o.0 ∷ os, subst (λ r. IsFurther total kind (t ∷ ms) (o.0 ∷ os) r) d.3.3.1 (joined e o.1 d.3.2.1), o.2 ∙ d.3.2.2 ∙ d.3.3.0)
  joined_from kind n t Full e h = tt
  joined_from kind n t (Pass m) e h = tt
  joined_from kind n t Refuse e h = tt

  neither : (a b : Bool) → a ≡ false → b ≡ false → (a || b) ≡ false
  neither true b e f = cc
  neither false b e f = f

  holds_further : (kind : ListKind) (n : ℕ) (t : Symbol) → Holds total may (MoreOperands kind) n t (rule may (MoreOperands kind) n t)
  holds_further kind n t = row_at (MoreOperands kind) n t _ _ (fits want.Comma t)
      (λ e m ms rest q.
      let os = q.3 in
      let d : IsFurther total kind (Comma ∷ ms) (q.2.0 ∷ os.2.0) rest = subst (λ r. IsFurther total kind (Comma ∷ ms) (q.2.0 ∷ os.2.0) r) os.3.1 (after_comma q.2.1 os.2.1) in
      (q.2.0 ∷ os.2.0, subst (λ x. IsFurther total kind (x ∷ ms) (q.2.0 ∷ os.2.0) rest) (sym (is_comma t e)) d, q.2.2 ∙ os.2.2 ∙ os.3.0))
      (λ e. row_at (MoreOperands kind) n t _ _ (joins kind t)
      (λ f. joined_from kind n t (operand_opens kind n t) f (holds_operand kind n t))
      (λ f ms. ([], no_further (neither (fits want.Comma t) (joins kind t) e f), refl)))

  holds_ref : (n : ℕ) (t : Symbol) → Holds total may ARef n t (rule may ARef n t)
  holds_ref n t = row_at ARef n t _ _ (fits want.Variable t)
      (λ e m ms rest q.
      let v = is_variable t e in
      let d : IsIndex total ms q.2.0 q.2.1 rest = subst (λ r. IsIndex total ms q.2.0 q.2.1 r) q.3.1 q.2.2 in
      let i : (r : Ref) × IsRef total (Variable v.0 ∷ ms) r rest = (_, ref d) in
      let j = subst (λ x. (r : Ref) × IsRef total (x ∷ ms) r rest) (sym v.1) i in
      (j.0, j.1, q.2.3 ∙ q.3.0))
      (λ e. tt)

  holds_index : (n : ℕ) (t : Symbol) → Holds total may OrIndex n t (rule may OrIndex n t)
  holds_index n t = row_at OrIndex n t _ _ (fits want.Open t)
      (λ e m ms rest q.
      let w = number_at ms q.1 q.2.0 in
      let f : ms ≡ Word word.Number w.0 ∷ Close ∷ rest = w.1 ∙ ap (λ x. Word word.Number w.0 ∷ x) (closes_at q.1 q.3.1 q.3.2.0 ∙ ap (λ x. Close ∷ x) q.3.3.1) in
      let i : (i : Option (List ℕ)) × (at : ℕ) × IsIndex total (Open ∷ Word word.Number w.0 ∷ Close ∷ rest) i at rest = (_, _, index) in
      let j = subst (λ x. (i : Option (List ℕ)) × (at : ℕ) × IsIndex total (Open ∷ x) i at rest) (sym f) i in
      let k = subst (λ x. (i : Option (List ℕ)) × (at : ℕ) × IsIndex total (x ∷ ms) i at rest) (sym (is_open t e)) j in
      (k.0, k.1, k.2, q.2.1 ∙ q.3.2.1 ∙ q.3.3.0))
      (λ e ms. (None, 0, no_index e, refl))

  code_row : (n m : ℕ) (t : Symbol) (ms rest : List Symbol) → fits want.Code t ≡ true → Seq total may (One want.Open Keep ∷ One want.Word Keep ∷ One want.Close Keep ∷ []) n ms m rest
      → (o : Option Operand) × IsCode total (t ∷ ms) o rest × (n ≡ m)
  code_row n m t ms rest e q =
      let w = is_code t e in
      let b = q.3 in
      let c = b.3 in
      let v = word_at q.1 b.1 b.2.0 in
      let f : ms ≡ Open ∷ Word v.0 v.1 ∷ Close ∷ rest =
      opens_at ms q.1 q.2.0 ∙ ap (λ x. Open ∷ x) (v.2 ∙ ap (λ x. Word v.0 v.1 ∷ x) (closes_at b.1 c.1 c.2.0 ∙ ap (λ x. Close ∷ x) c.3.1)) in
      let i : (o : Option Operand) × IsCode total (Word word.Code w.0 ∷ Open ∷ Word v.0 v.1 ∷ Close ∷ rest) o rest = (_, code) in
      let j = subst (λ x. (o : Option Operand) × IsCode total (Word word.Code w.0 ∷ x) o rest) (sym f) i in
      let k = subst (λ x. (o : Option Operand) × IsCode total (x ∷ ms) o rest) (sym w.1) j in
      (k.0, k.1, q.2.1 ∙ b.2.1 ∙ c.2.1 ∙ c.3.0)

  holds_code : (n : ℕ) (t : Symbol) → Holds total may OrCode n t (rule may OrCode n t)
  holds_code n t = row_at OrCode n t _ _ (fits want.Code t) (λ e m ms rest q. code_row n m t ms rest e q) (λ e ms. (None, no_code e, refl))

  test_row : (n m : ℕ) (name : List ℕ) (ms rest : List Symbol) → Seq total may (OrIndex ∷ One want.Operator Keep ∷ AnOperand list.Items ∷ []) n ms m rest
      → (c : Cond) × IsPrim total may n (Variable name ∷ ms) c m rest
  test_row n m name ms rest q =
      let b = q.3 in
      let o = b.3 in
      let op = is_operator b.2.0.0 b.2.0.1 in
      let d : IsIndex total ms q.2.0 q.2.1 (b.2.0.0 ∷ b.1) = subst (λ r. IsIndex total ms q.2.0 q.2.1 r) b.2.0.2 q.2.2 in
      let x : IsOperand total list.Items b.1 o.2.0 rest = subst (λ r. IsOperand total list.Items b.1 o.2.0 r) o.3.1 o.2.1 in
      let i : (c : Cond) × IsPrim total may n (Variable name ∷ ms) c n rest = (_, test (ref d) op.1 x) in
      subst (λ y. (c : Cond) × IsPrim total may n (Variable name ∷ ms) c y rest) (q.2.3 ∙ b.2.1 ∙ o.2.2 ∙ o.3.0) i

  holds_test : (n : ℕ) (t : Symbol) → Holds total may ATest n t (test_opens may n t)
  holds_test n (Variable name) = λ m ms rest q. test_row n m name ms rest q
  holds_test n Open = gate_at ATest n Open (ACondition ∷ One want.Close Lower ∷ []) (may n) (λ e m ms rest q.
      let c = q.3 in
      let f : q.1 ≡ Close ∷ rest = closes_at q.1 c.1 c.2.0 ∙ ap (λ x. Close ∷ x) c.3.1 in
      let d : IsPrim total may n (Open ∷ ms) q.2.0 (back q.0) rest = group e (subst (λ r. IsCond total may (suc n) ms q.2.0 q.0 r) f q.2.1) in
      (q.2.0, subst (λ x. IsPrim total may n (Open ∷ ms) q.2.0 x rest) (c.2.1 ∙ c.3.0) d))
  holds_test n _ = tt

  conj_from : (n : ℕ) (t : Symbol) (move : Move) → Holds total may ATest n t move → Holds total may AConjunct n t (followed move (MoreAnds ∷ []))
  conj_from n t (Read p new) h = λ m ms rest q.
      let d = seq_split new (MoreAnds ∷ []) p m ms rest q in
      let x = h d.0 ms d.1 d.2 in
      let c = d.3.2 x.0 in
      let i : IsConj total may n (t ∷ ms) c.0 d.3.0 d.3.1 = conj_of x.1 c.1 in
      (c.0, subst (λ y. IsConj total may n (t ∷ ms) c.0 y rest) d.3.3.0 (subst (λ r. IsConj total may n (t ∷ ms) c.0 d.3.0 r) d.3.3.1 i))
  conj_from n t Full h = tt
  conj_from n t (Pass m) h = tt
  conj_from n t Refuse h = tt

  cond_from : (n : ℕ) (t : Symbol) (move : Move) → Holds total may ATest n t move → Holds total may ACondition n t (followed move (MoreAnds ∷ MoreOrs ∷ []))
  cond_from n t (Read p new) h = λ m ms rest q.
      let d = seq_split new (MoreAnds ∷ MoreOrs ∷ []) p m ms rest q in
      let x = h d.0 ms d.1 d.2 in
      let y = d.3.2 x.0 in
      let o = d.3.3 in
      let c = o.2 y.0 in
      let i : IsCond total may n (t ∷ ms) c.0 o.0 o.1 = cond_of (conj_of x.1 y.1) c.1 in
      (c.0, subst (λ y. IsCond total may n (t ∷ ms) c.0 y rest) o.3.0 (subst (λ r. IsCond total may n (t ∷ ms) c.0 o.0 r) o.3.1 i))
  cond_from n t Full h = tt
  cond_from n t (Pass m) h = tt
  cond_from n t Refuse h = tt

  holds_ors : (n : ℕ) (t : Symbol) → Holds total may MoreOrs n t (rule may MoreOrs n t)
  holds_ors n t = row_at MoreOrs n t _ _ (fits want.Or t)
      (λ f. gate_at MoreOrs n t (AConjunct ∷ MoreOrs ∷ []) (may n) (λ e m ms rest q x.
      let y = q.2 in
      let o = q.3 in
      let c = o.2 (condition.Or x y.0) in
      let i : IsOrs total may n x (t ∷ ms) c.0 o.0 o.1 = or_more f e y.1 c.1 in
      (c.0, subst (λ z. IsOrs total may n x (t ∷ ms) c.0 z rest) o.3.0 (subst (λ r. IsOrs total may n x (t ∷ ms) c.0 o.0 r) o.3.1 i))))
      (λ f ms x. (x, no_or f))

  holds_ands : (n : ℕ) (t : Symbol) → Holds total may MoreAnds n t (rule may MoreAnds n t)
  holds_ands n t = row_at MoreAnds n t _ _ (fits want.And t)
      (λ f. gate_at MoreAnds n t (ATest ∷ MoreAnds ∷ []) (may n) (λ e m ms rest q x.
      let y = q.2 in
      let o = q.3 in
      let c = o.2 (condition.And x y.0) in
      let i : IsAnds total may n x (t ∷ ms) c.0 o.0 o.1 = and_more f e y.1 c.1 in
      (c.0, subst (λ z. IsAnds total may n x (t ∷ ms) c.0 z rest) o.3.0 (subst (λ r. IsAnds total may n x (t ∷ ms) c.0 o.0 r) o.3.1 i))))
      (λ f ms x. (x, no_and f))

  holds_number : (n : ℕ) (t : Symbol) → Holds total may OrNumber n t (rule may OrNumber n t)
  holds_number n t = row_at OrNumber n t _ _ (fits want.Number t)
      (λ e m ms rest q.
      let w = is_number t e in
      (subst (λ x. IsOrNumber (x ∷ ms) rest) (sym w.1) (subst (λ r. IsOrNumber (Word word.Number w.0 ∷ ms) r) q.1 number), q.0))
      (λ e ms. (no_number e, refl))

  holds_one : (w : Want) (f : Effect) (n : ℕ) (t : Symbol) → Holds total may (One w f) n t (rule may (One w f) n t)
  holds_one w f n t = row_at (One w f) n t _ _ (fits w t) (λ e m ms rest q. ((t, e, ap (λ x. t ∷ x) q.1), q.0)) (λ e. tt)

  pub holds : (s : Part) (n : ℕ) (t : Symbol) → Holds total may s n t (rule may s n t)
  holds (One w e) n t = holds_one w e n t
  holds OrNumber n t = holds_number n t
  holds (ABlock top) n t = holds_block top n t
  holds (AnItem top) n t = holds_item top n t
  holds AStatement n t = holds_statement n t
  holds Lists n t = holds_lists n t
  holds OrExclude n t = holds_exclude n t
  holds (OrAlternative w) n t = holds_alternative w n t
  holds AChoice n t = holds_choice n t
  holds (AWhen b) n t = holds_when b n t
  holds (MoreWhens b) n t = holds_whens b n t
  holds ACondition n t = cond_from n t (test_opens may n t) (holds_test n t)
  holds MoreOrs n t = holds_ors n t
  holds AConjunct n t = conj_from n t (test_opens may n t) (holds_test n t)
  holds MoreAnds n t = holds_ands n t
  holds ATest n t = holds_test n t
  holds (AnOperand kind) n t = holds_operand kind n t
  holds (MoreOperands kind) n t = holds_further kind n t
  holds ARef n t = holds_ref n t
  holds OrIndex n t = holds_index n t
  holds OrCode n t = holds_code n t
  holds Back n t = λ ms. (refl, refl)

  by_move : (s : Part) (k j : List Part) (n i : ℕ) (t : Symbol) (move : Move) (passed : ℕ → Step) (m : ℕ) (ms rest : List Symbol) → Holds total may s n t move
      → ((p : ℕ) → passed p ≡ Go i j → Seq total may k p (t ∷ ms) m rest) → after move k passed ≡ Go i j → Seq total may j i ms m rest → Seq total may (s ∷ k) n (t ∷ ms) m rest
  by_move s k j n i t (Read p new) passed m ms rest h below e q =
      let f : new ++ k ≡ j = cc in
      let g : p ≡ i = cc in
      let d = seq_split new k p m ms rest (subst (λ x. Seq total may (new ++ k) x ms m rest) (sym g) (subst (λ x. Seq total may x i ms m rest) (sym f) q)) in
      (d.0, d.1, h d.0 ms d.1 d.2, d.3)
  by_move s k j n i t Full passed m ms rest h below e q = let no : ⊥ = cc in absurd no
  by_move s k j n i t (Pass p) passed m ms rest h below e q = (p, t ∷ ms, h ms, below p e)
  by_move s k j n i t Refuse passed m ms rest h below e q = let no : ⊥ = cc in absurd no

  pub steps : (k j : List Part) (n i : ℕ) (t : Symbol) (m : ℕ) (ms rest : List Symbol) → step may k n t ≡ Go i j → Seq total may j i ms m rest → Seq total may k n (t ∷ ms) m rest
  steps [] j n i t m ms rest e q = let no : ⊥ = cc in absurd no
  steps (s ∷ k) j n i t m ms rest e q = by_move s k j n i t (rule may s n t) (λ p. step may k p t) m ms rest (holds s n t) (λ p f. steps k j p i t m ms rest f q) e q
