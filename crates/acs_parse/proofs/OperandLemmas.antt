-- What the readers of operands and lists give, and where they fail.
use Rattle.std.proofs.Common.{◌≡◌, ◌≤◌, inl, inr, ℕ, true, false, cond, List, [], ◌∷◌, ◌++◌, length, refl, ap, sym, ◌∙◌}
use Rattle.std.proofs.Common.{subst, arith, append_assoc}
use Rattle.std.specs.Prelude.{Option, Some, None}
use Rattle.acs_tree.specs.declared.routine.Ref.{Ref}
use Rattle.acs_tree.specs.declared.routine.OperandForm.TheVariants as operand
use Rattle.acs_tree.specs.declared.routine.Operand.{Operand}
use Rattle.acs_tree.specs.declared.routine.Form.TheVariants as form
use Rattle.acs_tree.specs.declared.routine.Stmt.{Stmt}
use Rattle.acs_parse.specs.declared.list_kind.ListKind.{ListKind}
use Rattle.acs_parse.specs.declared.list_kind.ListKind.TheVariants as list
use Rattle.acs_symbol.specs.declared.symbol.WordKind.{WordKind}
use Rattle.acs_symbol.specs.declared.symbol.WordKind.TheVariants as word
use Rattle.acs_symbol.specs.declared.symbol.Symbol.{Symbol}
use Rattle.acs_symbol.specs.declared.symbol.Symbol.TheVariants.{Word, Variable, Literal, Open, Close}
use Rattle.acs_parse.specs.declared.want.Want.{Want}
use Rattle.acs_parse.specs.declared.want.Want.TheVariants as want
use Rattle.acs_parse.specs.declared.fault.Fault.{Fault}
use Rattle.acs_parse.specs.Wants.{fits}
use Rattle.acs_parse.specs.Grammar.{starts, place_in, placed, operand_at, takes_words, takes_variables, goes_on}
use Rattle.acs_parse.specs.Grammar.{limited, IsListName, IsIndex, no_index, index, IsRef, ref, IsOperand, literal}
use Rattle.acs_parse.specs.Grammar.{word_of, variable, IsFurther, no_further, after_comma, joined, IsOperands, operands}
use Rattle.acs_parse.specs.Grammar.{IsExclude, no_exclude, exclude, IsLists, including, excluding, IsFilter, filter}
use Rattle.acs_parse.specs.Grammar.{IsCode, no_code, code}
use Rattle.acs_parse.specs.Inner.Table.{Effect, Keep, effect, Part, One, AnItem, Lists, OrExclude, AnOperand}
use Rattle.acs_parse.specs.Inner.Table.{MoreOperands, ARef, OrIndex, OrCode, Read, Refuse, Pass, entries, Verdict}
use Rattle.acs_parse.specs.Inner.Table.{verdict}
use Rattle.acs_parse.specs.Inner.Language.{Takes}
use Rattle.acs_parse.specs.Inner.Reads.{Fails, FailsAt, GoesOn, IsEntries}
use Rattle.acs_parse.proofs.RunLemmas.{moved, taken, runs_one, runs_operand, runs_operands, fits_name, joins_as_operand}
use Rattle.acs_parse.proofs.SoundLemmas.{is_open, is_close, is_exclude, is_code}

-- the table goes from some parts at some tokens to others
abbrev pub Goes : List Part → ℕ → List Symbol → List Part → ℕ → List Symbol → Type 0
Goes s n ts u m ms = (k : List Part) → verdict limited (s ++ k) n ts ≡ verdict limited (u ++ k) m ms

-- equal verdicts fail alike
pub along : (e : Fault) {v w : Verdict} → v ≡ w → Fails e w → Fails e v
along e f h = subst (λ v. Fails e v) (sym f) h

pub takes_open : {ts rest : List Symbol} → Takes want.Open ts rest → ts ≡ Open ∷ rest
takes_open {rest = rest} q = q.2 ∙ ap (λ x. x ∷ rest) (is_open q.0 q.1)

pub takes_close : {ts rest : List Symbol} → Takes want.Close ts rest → ts ≡ Close ∷ rest
takes_close {rest = rest} q = q.2 ∙ ap (λ x. x ∷ rest) (is_close q.0 q.1)

-- a wanted token is read
pub goes_one : (w : Want) (f : Effect) (n : ℕ) {ts rest : List Symbol} (u : List Part) → Takes w ts rest → Goes (One w f ∷ u) n ts u (effect f n) rest
goes_one w f n {ts} {rest} u q k = ap (λ x. verdict limited (One w f ∷ (u ++ k)) n x) q.2 ∙ runs_one limited w f (u ++ k) n q.0 rest q.1

pub index_none : (total : ℕ) {ts : List Symbol} → starts want.Open ts ≡ false → IsIndex total ts None 0 ts
index_none total e = no_index e

pub index_some : {total at : ℕ} {text : List ℕ} {ts a b rest : List Symbol} → Takes want.Open ts a → at ≡ place_in total a → a ≡ Word word.Number text ∷ b → Takes want.Close b rest
    → IsIndex total ts (Some text) at rest
index_some {total} {at} {text} {ts} {a} {b} {rest} p f e q =
    let g : a ≡ Word word.Number text ∷ Close ∷ rest = e ∙ ap (λ x. Word word.Number text ∷ x) (takes_close q) in
    let h : at ≡ place_in total (Word word.Number text ∷ Close ∷ rest) = f ∙ ap (λ x. place_in total x) g in
    let d : IsIndex total (Open ∷ Word word.Number text ∷ Close ∷ rest) (Some text) at rest = subst (λ x. IsIndex total (Open ∷ Word word.Number text ∷ Close ∷ rest) (Some text) x rest) (sym h) index in
    subst (λ x. IsIndex total x (Some text) at rest) (sym (takes_open p ∙ ap (λ x. Open ∷ x) g)) d

goes_index : (n : ℕ) {ts a : List Symbol} → Takes want.Open ts a → Goes (OrIndex ∷ []) n ts (One want.Number Keep ∷ One want.Close Keep ∷ []) n a
goes_index n p k = ap (λ x. verdict limited (OrIndex ∷ k) n x) (takes_open p)

pub index_number_fails : (e : Fault) {ts a : List Symbol} → Takes want.Open ts a → ((f : Effect) (m : ℕ) → FailsAt e (One want.Number f ∷ []) m a) → (n : ℕ) → FailsAt e (OrIndex ∷ []) n ts
index_number_fails e p h n k = along e (goes_index n p k) (h Keep n (One want.Close Keep ∷ k))

pub index_close_fails : (e : Fault) {text : List ℕ} {ts a b : List Symbol} → Takes want.Open ts a → a ≡ Word word.Number text ∷ b
    → ((f : Effect) (m : ℕ) → FailsAt e (One want.Close f ∷ []) m b) → (n : ℕ) → FailsAt e (OrIndex ∷ []) n ts
index_close_fails e {text} {ts} {a} {b} p q h n =
    let g : Goes (OrIndex ∷ []) n ts (One want.Close Keep ∷ []) n b = λ k. goes_index n p k ∙ ap (λ x. verdict limited (One want.Number Keep ∷ One want.Close Keep ∷ k) n x) q in
    λ k. along e (g k) (h Keep n k)

pub ref_at : {total at i_at : ℕ} {name : List ℕ} {i : Option (List ℕ)} {ts a rest : List Symbol} → ts ≡ Variable name ∷ a → at ≡ place_in total ts → IsIndex total a i i_at rest
    → IsRef total ts (record { at = at; name = name; index = i; index_at = i_at }) rest
ref_at {total} {at} {i_at} {name} {i} {ts} {a} {rest} e f d =
    subst (λ x. IsRef total ts (record { at = x; name = name; index = i; index_at = i_at }) rest) (sym f)
    (subst (λ x. IsRef total x (record { at = place_in total x; name = name; index = i; index_at = i_at }) rest) (sym e) (ref d))

pub ref_index_fails : (e : Fault) {name : List ℕ} {ts a : List Symbol} → ts ≡ Variable name ∷ a → ((m : ℕ) → FailsAt e (OrIndex ∷ []) m a) → (n : ℕ) → FailsAt e (ARef ∷ []) n ts
ref_index_fails e {name} {ts} {a} q h n =
    let g : Goes (ARef ∷ []) n ts (OrIndex ∷ []) n a = λ k. ap (λ x. verdict limited (ARef ∷ k) n x) q in
    λ k. along e (g k) (h n k)

pub operand_literal : {total at : ℕ} {kind : ListKind} {text : List ℕ} {ts rest : List Symbol} → ts ≡ Literal text ∷ rest → at ≡ place_in total ts
    → IsOperand total kind ts (record { at = at; form = operand.Literal text }) rest
operand_literal {total} {at} {kind} {text} {ts} {rest} e f =
    subst (λ x. IsOperand total kind ts (record { at = x; form = operand.Literal text }) rest) (sym f) (subst (λ x. IsOperand total kind x (operand_at total x (operand.Literal text)) rest) (sym e) literal)

pub operand_word : {total at : ℕ} {kind : ListKind} {form : WordKind} {text : List ℕ} {ts rest : List Symbol} → ts ≡ Word form text ∷ rest → takes_words kind ≡ true → at ≡ place_in total ts
    → IsOperand total kind ts (record { at = at; form = operand.Word text }) rest
operand_word {total} {at} {kind} {form} {text} {ts} {rest} e g f =
    subst (λ x. IsOperand total kind ts (record { at = x; form = operand.Word text }) rest) (sym f) (subst (λ x. IsOperand total kind x (operand_at total x (operand.Word text)) rest) (sym e) (word_of g))

pub operand_variable : {total at : ℕ} {kind : ListKind} {name : List ℕ} {r : Ref} {ts a rest : List Symbol} → ts ≡ Variable name ∷ a → takes_variables kind ≡ true → at ≡ place_in total ts
    → IsRef total ts r rest → IsOperand total kind ts (record { at = at; form = operand.Var r }) rest
operand_variable {total} {at} {kind} {name} {r} {ts} {a} {rest} e g f d =
    subst (λ x. IsOperand total kind ts (record { at = x; form = operand.Var r }) rest) (sym f)
    (subst (λ x. IsOperand total kind x (operand_at total x (operand.Var r)) rest) (sym e) (variable g (subst (λ x. IsRef total x r rest) e d)))

-- a variable is wanted where it stands
pub operand_variable_fails : (e : Fault) (kind : ListKind) {name : List ℕ} {ts a : List Symbol} → ts ≡ Variable name ∷ a → takes_variables kind ≡ true
    → ((m : ℕ) → FailsAt e (ARef ∷ []) m ts) → (n : ℕ) → FailsAt e (AnOperand kind ∷ []) n ts
operand_variable_fails e kind {name} {ts} {a} q t h n =
    let g : Goes (AnOperand kind ∷ []) n ts (ARef ∷ []) n ts = λ k.
    ap (λ x. verdict limited (AnOperand kind ∷ k) n x) q ∙ moved limited (AnOperand kind) k n (Variable name) a (Read n (OrIndex ∷ [])) (ap (λ b. cond b (Read n (OrIndex ∷ [])) Refuse) t) ∙ ap (λ x. verdict limited (ARef ∷ k) n x) (sym q) in
    λ k. along e (g k) (h n k)

pub empty_right : {A : Type 0} (xs : List A) → xs ++ [] ≡ xs
empty_right [] = refl
empty_right (x ∷ xs) = ap (λ z. x ∷ z) (empty_right xs)

further_of : {total : ℕ} {kind : ListKind} {ts behind left r : List Symbol} {o : Operand} {os : List Operand} → GoesOn kind ts behind → IsOperand total kind behind o left
    → IsFurther total kind left os r → IsFurther total kind ts (o ∷ os) r
further_of {total} {kind} {ts} {behind} {left} {r} {o} {os} (inl e) d ds = subst (λ x. IsFurther total kind x (o ∷ os) r) (sym e) (after_comma d ds)
further_of {total} {kind} {ts} {behind} {left} {r} {o} {os} (inr q) d ds =
    let c : IsOperand total kind (q.0 ∷ q.1) o left = subst (λ x. IsOperand total kind x o left) (q.4 ∙ q.2) d in
    subst (λ x. IsFurther total kind x (o ∷ os) r) (sym q.2) (joined q.3 c ds)

goes_further : (kind : ListKind) {ts behind : List Symbol} → GoesOn kind ts behind → (n : ℕ) → Goes (MoreOperands kind ∷ []) n ts (AnOperand kind ∷ MoreOperands kind ∷ []) n behind
goes_further kind {ts} {behind} (inl e) n k = ap (λ x. verdict limited (MoreOperands kind ∷ k) n x) e
goes_further kind {ts} {behind} (inr q) n k =
    ap (λ x. verdict limited (MoreOperands kind ∷ k) n x) q.2 ∙ joins_as_operand limited kind n q.0 q.1 k q.3 ∙ ap (λ x. verdict limited (AnOperand kind ∷ MoreOperands kind ∷ k) n x) (sym (q.4 ∙ q.2))

pub further_within : (kind : ListKind) {ts behind : List Symbol} → GoesOn kind ts behind → length behind ≤ length ts
further_within kind (inl e) = omega (arith, ap length e)
further_within kind (inr q) = omega (arith, ap length q.4)

-- the operands so far
pub record ListTurn (total : ℕ) (kind : ListKind) (ts rest : List Symbol) (list : List Operand) : Type 0 where
  pub done : (os : List Operand) (r : List Symbol) → IsFurther total kind rest os r → IsOperands total kind ts (list ++ os) r
  pub same : (n : ℕ) (k : List Part) → verdict limited (AnOperand kind ∷ MoreOperands kind ∷ k) n ts ≡ verdict limited (MoreOperands kind ∷ k) n rest

pub list_first : {total : ℕ} {kind : ListKind} {ts rest : List Symbol} {o : Operand} → IsOperand total kind ts o rest → ListTurn total kind ts rest (o ∷ [])
list_first {kind = kind} {rest = rest} {o = o} d = record {
  done = λ os r ds. operands d ds;
  same = λ n k. runs_operand limited n d (MoreOperands kind ∷ k);
}

pub list_turn : {total : ℕ} {kind : ListKind} {ts rest behind left : List Symbol} {list : List Operand} {o : Operand} → ListTurn total kind ts rest list → GoesOn kind rest behind
    → IsOperand total kind behind o left → ListTurn total kind ts left (list ++ o ∷ [])
list_turn {total} {kind} {ts} {rest} {behind} {left} {list} {o} t g d = record {
  done = λ os r ds.
      subst (λ xs. IsOperands total kind ts xs r) (sym (append_assoc list (o ∷ []) os)) (t.done (o ∷ os) r (further_of g d ds));
  same = λ n k. t.same n k ∙ goes_further kind g n k ∙ runs_operand limited n d (MoreOperands kind ∷ k);
}

pub list_over : {total : ℕ} {kind : ListKind} {ts rest : List Symbol} {list : List Operand} → ListTurn total kind ts rest list → goes_on kind rest ≡ false → IsOperands total kind ts list rest
list_over {total} {kind} {ts} {rest} {list} t e = subst (λ xs. IsOperands total kind ts xs rest) (empty_right list) (t.done [] rest (no_further e))

pub list_fails_first : (e : Fault) (kind : ListKind) (ts : List Symbol) → ((m : ℕ) → FailsAt e (AnOperand kind ∷ []) m ts) → (n : ℕ) → FailsAt e (AnOperand kind ∷ MoreOperands kind ∷ []) n ts
list_fails_first e kind ts h n k = h n (MoreOperands kind ∷ k)

pub list_fails : (e : Fault) {total : ℕ} {kind : ListKind} {ts rest behind : List Symbol} {list : List Operand} → ListTurn total kind ts rest list → GoesOn kind rest behind
    → ((m : ℕ) → FailsAt e (AnOperand kind ∷ []) m behind) → (n : ℕ) → FailsAt e (AnOperand kind ∷ MoreOperands kind ∷ []) n ts
list_fails e {kind = kind} t g h n k = along e (t.same n k ∙ goes_further kind g n k) (h n (MoreOperands kind ∷ k))

pub entries_at : {total : ℕ} {ts a b rest : List Symbol} {os : List Operand} → Takes want.Open ts a → IsOperands total list.Entries a os b → Takes want.Close b rest → IsEntries total ts os rest
entries_at {total} {ts} {a} {b} {rest} {os} p d q = (a, takes_open p, subst (λ r. IsOperands total list.Entries a os r) (takes_close q) d)

goes_entries : (n : ℕ) {ts a : List Symbol} → Takes want.Open ts a → Goes entries n ts (AnOperand list.Entries ∷ MoreOperands list.Entries ∷ One want.Close Keep ∷ []) n a
goes_entries n p k = ap (λ x. verdict limited (entries ++ k) n x) (takes_open p)

pub entries_open_fails : (e : Fault) (ts : List Symbol) → ((f : Effect) (m : ℕ) → FailsAt e (One want.Open f ∷ []) m ts) → (n : ℕ) → FailsAt e entries n ts
entries_open_fails e ts h n k = h Keep n (AnOperand list.Entries ∷ MoreOperands list.Entries ∷ One want.Close Keep ∷ k)

pub entries_list_fails : (e : Fault) {ts a : List Symbol} → Takes want.Open ts a → ((m : ℕ) → FailsAt e (AnOperand list.Entries ∷ MoreOperands list.Entries ∷ []) m a) → (n : ℕ) → FailsAt e entries n ts
entries_list_fails e p h n k = along e (goes_entries n p k) (h n (One want.Close Keep ∷ k))

pub entries_close_fails : (e : Fault) {total : ℕ} {ts a b : List Symbol} {os : List Operand} → Takes want.Open ts a → IsOperands total list.Entries a os b
    → ((f : Effect) (m : ℕ) → FailsAt e (One want.Close f ∷ []) m b) → (n : ℕ) → FailsAt e entries n ts
entries_close_fails e {ts = ts} {b = b} p d h n =
    let g : Goes entries n ts (One want.Close Keep ∷ []) n b = λ k. goes_entries n p k ∙ runs_operands limited n d (One want.Close Keep ∷ k) in
    λ k. along e (g k) (h Keep n k)

-- entries in parentheses, read by the table
pub runs_entries : {total : ℕ} {ts rest : List Symbol} {os : List Operand} → IsEntries total ts os rest → (n : ℕ) → Goes entries n ts [] n rest
runs_entries q n k = ap (λ x. verdict limited (entries ++ k) n x) q.1 ∙ runs_operands limited n q.2 (One want.Close Keep ∷ k)

pub exclude_none : {total : ℕ} {ts : List Symbol} → starts want.Exclude ts ≡ false → IsExclude total ts [] ts
exclude_none e = no_exclude e

pub exclude_some : {total : ℕ} {ts a rest : List Symbol} {os : List Operand} → Takes want.Exclude ts a → IsEntries total a os rest → IsExclude total ts os rest
exclude_some {total} {ts} {a} {rest} {os} p q =
    let w = is_exclude p.0 p.1 in
    subst (λ x. IsExclude total x os rest) (sym (p.2 ∙ ap (λ x. x ∷ a) w.1 ∙ ap (λ x. Word word.Exclude w.0 ∷ x) q.1)) (exclude q.2)

pub exclude_fails : (e : Fault) {ts a : List Symbol} → Takes want.Exclude ts a → ((m : ℕ) → FailsAt e entries m a) → (n : ℕ) → FailsAt e (OrExclude ∷ []) n ts
exclude_fails e {ts} {a} p h n =
    let g : Goes (OrExclude ∷ []) n ts entries n a = λ k. ap (λ x. verdict limited (OrExclude ∷ k) n x) p.2 ∙ taken limited OrExclude want.Exclude k entries n n p.0 a (Pass n) refl p.1 in
    λ k. along e (g k) (h n k)

pub lists_including : {total : ℕ} {w : List ℕ} {ts a b rest : List Symbol} {os xs : List Operand} → ts ≡ Word word.Include w ∷ a → IsEntries total a os b → IsExclude total b xs rest → IsLists total ts os xs rest
lists_including {total} {w} {ts} {a} {b} {rest} {os} {xs} e q d =
    subst (λ x. IsLists total x os xs rest) (sym (e ∙ ap (λ x. Word word.Include w ∷ x) q.1)) (including q.2 d)

pub lists_excluding : {total : ℕ} {w : List ℕ} {ts a rest : List Symbol} {xs : List Operand} → ts ≡ Word word.Exclude w ∷ a → IsEntries total a xs rest → IsLists total ts [] xs rest
lists_excluding {total} {w} {ts} {a} {rest} {xs} e q =
    subst (λ x. IsLists total x [] xs rest) (sym (e ∙ ap (λ x. Word word.Exclude w ∷ x) q.1)) (excluding q.2)

goes_include : (n : ℕ) {w : List ℕ} {ts a : List Symbol} → ts ≡ Word word.Include w ∷ a → Goes (Lists ∷ []) n ts (entries ++ OrExclude ∷ []) n a
goes_include n e k = ap (λ x. verdict limited (Lists ∷ k) n x) e

pub include_fails : (e : Fault) {w : List ℕ} {ts a : List Symbol} → ts ≡ Word word.Include w ∷ a → ((m : ℕ) → FailsAt e entries m a) → (n : ℕ) → FailsAt e (Lists ∷ []) n ts
include_fails e q h n k = along e (goes_include n q k) (h n (OrExclude ∷ k))

pub include_exclude_fails : (e : Fault) {total : ℕ} {w : List ℕ} {ts a b : List Symbol} {os : List Operand} → ts ≡ Word word.Include w ∷ a → IsEntries total a os b
    → ((m : ℕ) → FailsAt e (OrExclude ∷ []) m b) → (n : ℕ) → FailsAt e (Lists ∷ []) n ts
include_exclude_fails e {ts = ts} {b = b} q d h n =
    let g : Goes (Lists ∷ []) n ts (OrExclude ∷ []) n b = λ k. goes_include n q k ∙ runs_entries d n (OrExclude ∷ k) in
    λ k. along e (g k) (h n k)

pub excluding_fails : (e : Fault) {w : List ℕ} {ts a : List Symbol} → ts ≡ Word word.Exclude w ∷ a → ((m : ℕ) → FailsAt e entries m a) → (n : ℕ) → FailsAt e (Lists ∷ []) n ts
excluding_fails e {ts = ts} {a = a} q h n =
    let g : Goes (Lists ∷ []) n ts entries n a = λ k. ap (λ x. verdict limited (Lists ∷ k) n x) q in
    λ k. along e (g k) (h n k)

pub filter_word : (t : Symbol) → fits want.FiltList t ≡ true → (text : List ℕ) × (t ≡ Word word.FiltList text)
filter_word (Word word.FiltList text) e = (text, refl)
filter_word _ e = let no : ⊥ = cc in absurd no

pub takes_filter : {ts rest : List Symbol} → Takes want.FiltList ts rest → (text : List ℕ) × (ts ≡ Word word.FiltList text ∷ rest)
takes_filter {rest = rest} q = let w = filter_word q.0 q.1 in (w.0, q.2 ∙ ap (λ x. x ∷ rest) w.1)

pub filter_at : {total at name_at : ℕ} {name : List ℕ} {ts a b rest : List Symbol} {os xs : List Operand} → Takes want.FiltList ts a → ((t : Symbol) × IsListName t name × (a ≡ t ∷ b))
    → name_at ≡ place_in total a → at ≡ place_in total ts → IsLists total b os xs rest
    → IsFilter total ts (record { at = at; form = form.Filt name name_at os xs }) rest
filter_at {total} {at} {name_at} {name} {ts} {a} {b} {rest} {os} {xs} p q f g d =
    let w = takes_filter p in
    let e : ts ≡ Word word.FiltList w.0 ∷ q.0 ∷ b = w.1 ∙ ap (λ x. Word word.FiltList w.0 ∷ x) q.2 in
    let c : IsFilter total ts (placed total ts (form.Filt name (place_in total (q.0 ∷ b)) os xs)) rest =
    subst (λ x. IsFilter total x (placed total x (form.Filt name (place_in total (q.0 ∷ b)) os xs)) rest) (sym e) (filter q.1 d) in
    let i : IsFilter total ts (placed total ts (form.Filt name name_at os xs)) rest =
    subst (λ x. IsFilter total ts (placed total ts (form.Filt name x os xs)) rest) (sym (f ∙ ap (λ x. place_in total x) q.2)) c in
    subst (λ x. IsFilter total ts (record { at = x; form = form.Filt name name_at os xs }) rest) (sym g) i

goes_filter : (n : ℕ) {ts a : List Symbol} → Takes want.FiltList ts a → Goes (AnItem true ∷ []) n ts (One want.Name Keep ∷ Lists ∷ []) n a
goes_filter n p k = ap (λ x. verdict limited (AnItem true ∷ k) n x) (takes_filter p).1

pub filter_name_fails : (e : Fault) {ts a : List Symbol} → Takes want.FiltList ts a → ((f : Effect) (m : ℕ) → FailsAt e (One want.Name f ∷ []) m a) → (n : ℕ) → FailsAt e (AnItem true ∷ []) n ts
filter_name_fails e p h n k = along e (goes_filter n p k) (h Keep n (Lists ∷ k))

pub filter_lists_fails : (e : Fault) {name : List ℕ} {ts a b : List Symbol} → Takes want.FiltList ts a → ((t : Symbol) × IsListName t name × (a ≡ t ∷ b))
    → ((m : ℕ) → FailsAt e (Lists ∷ []) m b) → (n : ℕ) → FailsAt e (AnItem true ∷ []) n ts
filter_lists_fails e {ts = ts} {a = a} {b = b} p q h n =
    let g : Goes (AnItem true ∷ []) n ts (Lists ∷ []) n b = λ k.
    goes_filter n p k ∙ ap (λ x. verdict limited (One want.Name Keep ∷ Lists ∷ k) n x) q.2 ∙ runs_one limited want.Name Keep (Lists ∷ k) n q.0 b (fits_name q.1) in
    λ k. along e (g k) (h n k)

pub code_none : {total : ℕ} {ts : List Symbol} → starts want.Code ts ≡ false → IsCode total ts None ts
code_none e = no_code e

pub takes_code : {ts rest : List Symbol} → Takes want.Code ts rest → (text : List ℕ) × (ts ≡ Word word.Code text ∷ rest)
takes_code {rest = rest} q = let w = is_code q.0 q.1 in (w.0, q.2 ∙ ap (λ x. x ∷ rest) w.1)

pub code_some : {total at : ℕ} {text : List ℕ} {ts a b d rest : List Symbol} → Takes want.Code ts a → Takes want.Open a b → at ≡ place_in total b
    → ((kind : WordKind) × (b ≡ Word kind text ∷ d)) → Takes want.Close d rest → IsCode total ts (Some (record { at = at; form = operand.Word text })) rest
code_some {total} {at} {text} {ts} {a} {b} {d} {rest} p q f r s =
    let w = takes_code p in
    let g : b ≡ Word r.0 text ∷ Close ∷ rest = r.1 ∙ ap (λ x. Word r.0 text ∷ x) (takes_close s) in
    let e : ts ≡ Word word.Code w.0 ∷ Open ∷ Word r.0 text ∷ Close ∷ rest = w.1 ∙ ap (λ x. Word word.Code w.0 ∷ x) (takes_open q ∙ ap (λ x. Open ∷ x) g) in
    let c : IsCode total ts (Some (operand_at total (Word r.0 text ∷ Close ∷ rest) (operand.Word text))) rest =
    subst (λ x. IsCode total x (Some (operand_at total (Word r.0 text ∷ Close ∷ rest) (operand.Word text))) rest) (sym e) code in
    subst (λ x. IsCode total ts (Some (record { at = x; form = operand.Word text })) rest) (sym (f ∙ ap (λ x. place_in total x) g)) c

goes_code : (n : ℕ) {ts a : List Symbol} → Takes want.Code ts a → Goes (OrCode ∷ []) n ts (One want.Open Keep ∷ One want.Word Keep ∷ One want.Close Keep ∷ []) n a
goes_code n p k = ap (λ x. verdict limited (OrCode ∷ k) n x) (takes_code p).1

pub code_open_fails : (e : Fault) {ts a : List Symbol} → Takes want.Code ts a → ((f : Effect) (m : ℕ) → FailsAt e (One want.Open f ∷ []) m a) → (n : ℕ) → FailsAt e (OrCode ∷ []) n ts
code_open_fails e p h n k = along e (goes_code n p k) (h Keep n (One want.Word Keep ∷ One want.Close Keep ∷ k))

pub code_word_fails : (e : Fault) {ts a b : List Symbol} → Takes want.Code ts a → Takes want.Open a b → ((f : Effect) (m : ℕ) → FailsAt e (One want.Word f ∷ []) m b) → (n : ℕ) → FailsAt e (OrCode ∷ []) n ts
code_word_fails e {ts} {a} {b} p q h n =
    let g : Goes (OrCode ∷ []) n ts (One want.Word Keep ∷ One want.Close Keep ∷ []) n b = λ k. goes_code n p k ∙ ap (λ x. verdict limited (One want.Open Keep ∷ One want.Word Keep ∷ One want.Close Keep ∷ k) n x) (takes_open q) in
    λ k. along e (g k) (h Keep n (One want.Close Keep ∷ k))

pub code_close_fails : (e : Fault) {text : List ℕ} {ts a b d : List Symbol} → Takes want.Code ts a → Takes want.Open a b → ((kind : WordKind) × (b ≡ Word kind text ∷ d))
    → ((f : Effect) (m : ℕ) → FailsAt e (One want.Close f ∷ []) m d) → (n : ℕ) → FailsAt e (OrCode ∷ []) n ts
code_close_fails e {ts = ts} {b = b} {d = d} p q r h n =
    let g : Goes (OrCode ∷ []) n ts (One want.Close Keep ∷ []) n d = λ k.
    goes_code n p k ∙ ap (λ x. verdict limited (One want.Open Keep ∷ One want.Word Keep ∷ One want.Close Keep ∷ k) n x) (takes_open q) ∙ ap (λ x. verdict limited (One want.Word Keep ∷ One want.Close Keep ∷ k) n x) r.1 in
    λ k. along e (g k) (h Keep n k)

-- where FILTLIST stands it is read
pub filter_word_fails : (e : Fault) (ts : List Symbol) → starts want.FiltList ts ≡ true → ((f : Effect) (m : ℕ) → FailsAt e (One want.FiltList f ∷ []) m ts) → (n : ℕ) → FailsAt e (AnItem true ∷ []) n ts
filter_word_fails e [] q h n k = let no : ⊥ = cc in absurd no
filter_word_fails e (t ∷ ts) q h n k =
    let w = filter_word t q in
    let g : verdict limited (AnItem true ∷ k) n (t ∷ ts) ≡ verdict limited (One want.FiltList Keep ∷ One want.Name Keep ∷ Lists ∷ k) n (t ∷ ts) =
    ap (λ x. verdict limited (AnItem true ∷ k) n (x ∷ ts)) w.1 ∙ ap (λ x. verdict limited (One want.FiltList Keep ∷ One want.Name Keep ∷ Lists ∷ k) n (x ∷ ts)) (sym w.1) in
    along e g (h Keep n (One want.Name Keep ∷ Lists ∷ k))

-- what each reader needs of these

pub ruleset index_steps = (index_none, index_some, index_number_fails, index_close_fails)

pub ruleset operand_steps = (operand_literal, operand_word, operand_variable, operand_variable_fails)

pub ruleset operands_steps = (list_first, list_turn, list_over, list_fails_first, list_fails)

pub ruleset entries_steps = (entries_at, entries_open_fails, entries_list_fails, entries_close_fails)

pub ruleset lists_steps = (lists_including, lists_excluding, include_fails, include_exclude_fails, excluding_fails)

pub ruleset filter_list_steps = (filter_at, filter_word_fails, filter_name_fails, filter_lists_fails)

pub ruleset exit_code_steps = (code_none, code_some, code_open_fails, code_word_fails, code_close_fails)
