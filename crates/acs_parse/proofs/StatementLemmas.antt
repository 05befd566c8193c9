-- What the readers of statements and blocks give, and where they fail.
use Rattle.std.proofs.Common.{◌≡◌, ◌≤◌, ℕ, suc, Bool, true, false, cond, List, [], ◌∷◌, ◌++◌, length, refl, ap, sym}
use Rattle.std.proofs.Common.{◌∙◌, subst, arith, append_assoc}
use Rattle.std.specs.Prelude.{Option, Some, None, Result, Ok, Err}
use Rattle.acs_tree.specs.declared.routine.Ref.{Ref}
use Rattle.acs_tree.specs.declared.routine.Operand.{Operand}
use Rattle.acs_tree.specs.declared.routine.Cond.{Cond}
use Rattle.acs_tree.specs.declared.routine.Form.{Form}
use Rattle.acs_tree.specs.declared.routine.Form.TheVariants as form
use Rattle.acs_tree.specs.declared.routine.Stmt.{Stmt}
use Rattle.acs_parse.specs.declared.list_kind.ListKind.TheVariants as list
use Rattle.acs_symbol.specs.declared.symbol.WordKind.{WordKind}
use Rattle.acs_symbol.specs.declared.symbol.WordKind.TheVariants as word
use Rattle.acs_symbol.specs.declared.symbol.Symbol.{Symbol}
use Rattle.acs_symbol.specs.declared.symbol.Symbol.TheVariants.{Word}
use Rattle.acs_parse.specs.declared.want.Want.{Want}
use Rattle.acs_parse.specs.declared.want.Want.TheVariants as want
use Rattle.acs_parse.specs.declared.fault.Fault.{Fault}
use Rattle.acs_parse.specs.declared.fault.Fault.TheVariants.{Deep}
use Rattle.acs_parse.specs.Grammar.{starts, place_in, placed, limited, IsRef, IsOperands, IsFilter, IsCode, IsCond}
use Rattle.acs_parse.specs.Grammar.{IsStmt, set, choice, group_of, write, exit, IsAlternative, no_alternative}
use Rattle.acs_parse.specs.Grammar.{alternative, IsBlock, end_of, then_more, IsItem, item_filter, item_statement}
use Rattle.acs_parse.specs.Inner.Table.{Effect, Keep, Lower, To, Part, One, ABlock, AnItem, AStatement, OrAlternative}
use Rattle.acs_parse.specs.Inner.Table.{AChoice, ACondition, AnOperand, MoreOperands, ARef, OrCode, Back, Read, Full}
use Rattle.acs_parse.specs.Inner.Table.{Pass, gate, rule, TooMany, verdict}
use Rattle.acs_parse.specs.Inner.Language.{Takes}
use Rattle.acs_parse.specs.Inner.Reads.{FailsAt, Reads, IsPlain, IsPlainMore, IsBehind, IsBehindAt, IsInside}
use Rattle.acs_parse.specs.Inner.Reads.{IsCondBefore, AreArms, IsItemMore}
use Rattle.acs_parse.proofs.RunLemmas.{moved, taken, opened, runs_ref, runs_cond, runs_stmt, runs_item, block_as_item}
use Rattle.acs_parse.proofs.RunLemmas.{item_as_statement}
use Rattle.acs_parse.proofs.SoundLemmas.{is_then, is_end}
use Rattle.acs_parse.proofs.ShorterLemmas.{item_shorter}
use Rattle.acs_parse.proofs.OperandLemmas.{Goes, along, goes_one, filter_word, empty_right}
use Rattle.acs_parse.proofs.CondLemmas.{fails_deep}

takes_then : {ts rest : List Symbol} → Takes want.Then ts rest → (text : List ℕ) × (ts ≡ Word word.Then text ∷ rest)
takes_then {rest = rest} q = let w = is_then q.0 q.1 in (w.0, q.2 ∙ ap (λ x. x ∷ rest) w.1)

pub takes_end : {ts rest : List Symbol} → Takes want.End ts rest → (text : List ℕ) × (ts ≡ Word word.End text ∷ rest)
takes_end {rest = rest} q = let w = is_end q.0 q.1 in (w.0, q.2 ∙ ap (λ x. x ∷ rest) w.1)

pub stmt_behind : {total at : ℕ} (n : ℕ) {kind : WordKind} {w : List ℕ} {ts a rest : List Symbol} {f : Form} {s : Stmt} → ts ≡ Word kind w ∷ a → at ≡ place_in total ts
    → ((m : ℕ) → IsBehind total kind m a f rest) → s ≡ record { at = at; form = f } → IsStmt total limited n ts s rest
stmt_behind {total} {at} n {kind} {w} {ts} {a} {rest} {f} {s} e g d h =
    let c : IsStmt total limited n ts (placed total ts f) rest = subst (λ x. IsStmt total limited n x (placed total x f) rest) (sym e) (d n w) in
    subst (λ x. IsStmt total limited n ts x rest) (sym h) (subst (λ x. IsStmt total limited n ts (record { at = x; form = f }) rest) (sym g) c)

pub stmt_inside : {total at n i : ℕ} {kind : WordKind} {w : List ℕ} {ts a rest : List Symbol} {f : Form} {s : Stmt} → ts ≡ Word kind w ∷ a → at ≡ place_in total ts
    → (limited n ≡ true) × (i ≡ suc n) → IsInside total kind i a f rest → s ≡ record { at = at; form = f } → IsStmt total limited n ts s rest
stmt_inside {total} {at} {n} {i} {kind} {w} {ts} {a} {rest} {f} {s} e g o d h =
    let c : IsStmt total limited n ts (placed total ts f) rest = subst (λ x. IsStmt total limited n x (placed total x f) rest) (sym e) (d n o.0 o.1 w) in
    subst (λ x. IsStmt total limited n ts x rest) (sym h) (subst (λ x. IsStmt total limited n ts (record { at = x; form = f }) rest) (sym g) c)

pub set_fails : (e : Fault) (n : ℕ) {w : List ℕ} {ts a : List Symbol} → ts ≡ Word word.Set w ∷ a
    → ((m : ℕ) → FailsAt e (ARef ∷ One want.Equal Keep ∷ AnOperand list.Values ∷ MoreOperands list.Values ∷ []) m a) → FailsAt e (AStatement ∷ []) n ts
set_fails e n q h k = along e (ap (λ x. verdict limited (AStatement ∷ k) n x) q) (h n k)

pub write_fails : (e : Fault) (n : ℕ) {w : List ℕ} {ts a : List Symbol} → ts ≡ Word word.Write w ∷ a → ((m : ℕ) → FailsAt e (AnOperand list.Parts ∷ MoreOperands list.Parts ∷ []) m a) → FailsAt e (AStatement ∷ []) n ts
write_fails e n q h k = along e (ap (λ x. verdict limited (AStatement ∷ k) n x) q) (h n k)

pub exit_fails : (e : Fault) (n : ℕ) {w : List ℕ} {ts a : List Symbol} → ts ≡ Word word.Exit w ∷ a → ((m : ℕ) → FailsAt e (OrCode ∷ []) m a) → FailsAt e (AStatement ∷ []) n ts
exit_fails e n q h k = along e (ap (λ x. verdict limited (AStatement ∷ k) n x) q) (h n k)

pub if_fails : (e : Fault) (n i : ℕ) {w : List ℕ} {ts a : List Symbol} → ts ≡ Word word.If w ∷ a → (limited n ≡ true) × (i ≡ suc n)
    → FailsAt e (ACondition ∷ One want.Then (To i) ∷ AStatement ∷ OrAlternative want.Else ∷ Back ∷ []) i a → FailsAt e (AStatement ∷ []) n ts
if_fails e n i {w} {ts} {a} q o h k =
    let g : verdict limited (AStatement ∷ k) n ts ≡ verdict limited (ACondition ∷ One want.Then (To (suc n)) ∷ AStatement ∷ OrAlternative want.Else ∷ Back ∷ k) (suc n) a =
    ap (λ x. verdict limited (AStatement ∷ k) n x) q ∙ opened limited AStatement (Word word.If w) n (ACondition ∷ One want.Then (To (suc n)) ∷ AStatement ∷ OrAlternative want.Else ∷ Back ∷ []) k a refl o.0 in
    along e (g ∙ ap (λ x. verdict limited (ACondition ∷ One want.Then (To x) ∷ AStatement ∷ OrAlternative want.Else ∷ Back ∷ k) x a) (sym o.1)) (h k)

pub select_fails : (e : Fault) (n i : ℕ) {w : List ℕ} {ts a : List Symbol} → ts ≡ Word word.Select w ∷ a → (limited n ≡ true) × (i ≡ suc n)
    → FailsAt e (AChoice ∷ OrAlternative want.Otherwise ∷ One want.End Lower ∷ []) i a → FailsAt e (AStatement ∷ []) n ts
select_fails e n i {w} {ts} {a} q o h k =
    let g : verdict limited (AStatement ∷ k) n ts ≡ verdict limited (AChoice ∷ OrAlternative want.Otherwise ∷ One want.End Lower ∷ k) (suc n) a =
    ap (λ x. verdict limited (AStatement ∷ k) n x) q ∙ opened limited AStatement (Word word.Select w) n (AChoice ∷ OrAlternative want.Otherwise ∷ One want.End Lower ∷ []) k a refl o.0 in
    along e (g ∙ ap (λ x. verdict limited (AChoice ∷ OrAlternative want.Otherwise ∷ One want.End Lower ∷ k) x a) (sym o.1)) (h k)

pub do_fails : (e : Fault) (n i : ℕ) {w : List ℕ} {ts a : List Symbol} → ts ≡ Word word.Do w ∷ a → (limited n ≡ true) × (i ≡ suc n)
    → FailsAt e (ABlock false ∷ Back ∷ []) i a → FailsAt e (AStatement ∷ []) n ts
do_fails e n i {w} {ts} {a} q o h k =
    let g : verdict limited (AStatement ∷ k) n ts ≡ verdict limited (ABlock false ∷ Back ∷ k) (suc n) a =
    ap (λ x. verdict limited (AStatement ∷ k) n x) q ∙ opened limited AStatement (Word word.Do w) n (ABlock false ∷ Back ∷ []) k a refl o.0 in
    along e (g ∙ ap (λ x. verdict limited (ABlock false ∷ Back ∷ k) x a) (sym o.1)) (h k)

-- a statement that would open one too many
stmt_deep : (e : Fault) (n : ℕ) (t : Symbol) (new : List Part) {ts a : List Symbol} → rule limited AStatement n t ≡ gate limited n new → ts ≡ t ∷ a → (limited n ≡ false) × (e ≡ Deep (length ts)) → FailsAt e (AStatement ∷ []) n ts
stmt_deep e n t new {ts} {a} r q o k =
    let g : verdict limited (AStatement ∷ k) n (t ∷ a) ≡ TooMany (length (t ∷ a)) = moved limited AStatement k n t a Full (r ∙ ap (λ b. cond b (Read (suc n) new) Full) o.0) in
    fails_deep e o.1 (subst (λ x. verdict limited (AStatement ∷ k) n x ≡ TooMany (length x)) (sym q) g)

pub if_deep : (e : Fault) (n : ℕ) {w : List ℕ} {ts a : List Symbol} → ts ≡ Word word.If w ∷ a → (limited n ≡ false) × (e ≡ Deep (length ts)) → FailsAt e (AStatement ∷ []) n ts
if_deep e n {w} q o = stmt_deep e n (Word word.If w) (ACondition ∷ One want.Then (To (suc n)) ∷ AStatement ∷ OrAlternative want.Else ∷ Back ∷ []) refl q o

pub select_deep : (e : Fault) (n : ℕ) {w : List ℕ} {ts a : List Symbol} → ts ≡ Word word.Select w ∷ a → (limited n ≡ false) × (e ≡ Deep (length ts)) → FailsAt e (AStatement ∷ []) n ts
select_deep e n {w} q o = stmt_deep e n (Word word.Select w) (AChoice ∷ OrAlternative want.Otherwise ∷ One want.End Lower ∷ []) refl q o

pub do_deep : (e : Fault) (n : ℕ) {w : List ℕ} {ts a : List Symbol} → ts ≡ Word word.Do w ∷ a → (limited n ≡ false) × (e ≡ Deep (length ts)) → FailsAt e (AStatement ∷ []) n ts
do_deep e n {w} q o = stmt_deep e n (Word word.Do w) (ABlock false ∷ Back ∷ []) refl q o

pub set_at : {total : ℕ} (at : ℕ) {ts a b rest : List Symbol} {r : Ref} {os : List Operand} → IsRef total ts r a → Takes want.Equal a b → IsOperands total list.Values b os rest
    → IsBehindAt total word.Set at ts (record { at = at; form = form.Put r os }) rest
set_at {total} at {ts} {a} {b} {rest} {r} {os} d q ds = (form.Put r os, refl, λ n w. set (subst (λ x. IsRef total ts r x) q.2 d) q.1 ds)

pub set_ref_fails : (e : Fault) (ts : List Symbol) → ((m : ℕ) → FailsAt e (ARef ∷ []) m ts) → (n : ℕ) → FailsAt e (ARef ∷ One want.Equal Keep ∷ AnOperand list.Values ∷ MoreOperands list.Values ∷ []) n ts
set_ref_fails e ts h n k = h n (One want.Equal Keep ∷ AnOperand list.Values ∷ MoreOperands list.Values ∷ k)

pub set_equal_fails : (e : Fault) {total : ℕ} {ts a : List Symbol} {r : Ref} → IsRef total ts r a → ((f : Effect) (m : ℕ) → FailsAt e (One want.Equal f ∷ []) m a)
    → (n : ℕ) → FailsAt e (ARef ∷ One want.Equal Keep ∷ AnOperand list.Values ∷ MoreOperands list.Values ∷ []) n ts
set_equal_fails e d h n k = along e (runs_ref limited n d (One want.Equal Keep ∷ AnOperand list.Values ∷ MoreOperands list.Values ∷ k)) (h Keep n (AnOperand list.Values ∷ MoreOperands list.Values ∷ k))

pub set_values_fail : (e : Fault) {total : ℕ} {ts a b : List Symbol} {r : Ref} → IsRef total ts r a → Takes want.Equal a b → ((m : ℕ) → FailsAt e (AnOperand list.Values ∷ MoreOperands list.Values ∷ []) m b)
    → (n : ℕ) → FailsAt e (ARef ∷ One want.Equal Keep ∷ AnOperand list.Values ∷ MoreOperands list.Values ∷ []) n ts
set_values_fail e d q h n k =
    along e (runs_ref limited n d (One want.Equal Keep ∷ AnOperand list.Values ∷ MoreOperands list.Values ∷ k) ∙ goes_one want.Equal Keep n (AnOperand list.Values ∷ MoreOperands list.Values ∷ []) q k) (h n k)

pub write_at : {total : ℕ} (at : ℕ) {ts rest : List Symbol} {os : List Operand} → IsOperands total list.Parts ts os rest → IsBehindAt total word.Write at ts (record { at = at; form = form.Write os }) rest
write_at at {os = os} d = (form.Write os, refl, λ n w. write d)

pub exit_at : {total : ℕ} (at : ℕ) {ts rest : List Symbol} {o : Option Operand} → IsCode total ts o rest → IsBehindAt total word.Exit at ts (record { at = at; form = form.Exit o }) rest
exit_at at {o = o} d = (form.Exit o, refl, λ n w. exit d)

pub if_at : {total i : ℕ} {ts b rest : List Symbol} {c : Cond} {s : Stmt} {o : Option Stmt} → IsCondBefore total want.Then i ts c b → AreArms total i b s o rest
    → IsInside total word.If i ts (form.If c s o) rest
if_at {total} {i} {ts} {b} {rest} {c} {s} {o} (m, a, x, q) (l, y, z) n may e w =
    let v = takes_then q in
    let x : IsCond total limited (suc n) ts c m (Word word.Then v.0 ∷ b) = subst (λ r. IsCond total limited (suc n) ts c m r) v.1 (subst (λ j. IsCond total limited j ts c m a) e x) in
    let y : IsStmt total limited (suc n) b s l = subst (λ j. IsStmt total limited j b s l) e y in
    let z : IsAlternative total limited want.Else (suc n) l o rest = subst (λ j. IsAlternative total limited want.Else j l o rest) e z in
    choice may x y z

pub if_test_fails : (e : Fault) (i : ℕ) (ts : List Symbol) → FailsAt e (ACondition ∷ One want.Then (To i) ∷ []) i ts → FailsAt e (ACondition ∷ One want.Then (To i) ∷ AStatement ∷ OrAlternative want.Else ∷ Back ∷ []) i ts
if_test_fails e i ts h k = h (AStatement ∷ OrAlternative want.Else ∷ Back ∷ k)

goes_then : {total i : ℕ} {ts b : List Symbol} {c : Cond} → IsCondBefore total want.Then i ts c b
    → Goes (ACondition ∷ One want.Then (To i) ∷ AStatement ∷ OrAlternative want.Else ∷ Back ∷ []) i ts (AStatement ∷ OrAlternative want.Else ∷ Back ∷ []) i b
goes_then {i = i} (m, a, x, q) k = runs_cond limited x (One want.Then (To i) ∷ AStatement ∷ OrAlternative want.Else ∷ Back ∷ k) ∙ goes_one want.Then (To i) m (AStatement ∷ OrAlternative want.Else ∷ Back ∷ []) q k

pub if_arms_fail : (e : Fault) {total i : ℕ} {ts b : List Symbol} {c : Cond} → IsCondBefore total want.Then i ts c b → FailsAt e (AStatement ∷ OrAlternative want.Else ∷ []) i b
    → FailsAt e (ACondition ∷ One want.Then (To i) ∷ AStatement ∷ OrAlternative want.Else ∷ Back ∷ []) i ts
if_arms_fail e x h k = along e (goes_then x k) (h (Back ∷ k))

pub arms_at : {total i : ℕ} {ts l rest : List Symbol} {s : Stmt} {o : Option Stmt} → IsStmt total limited i ts s l → IsAlternative total limited want.Else i l o rest → AreArms total i ts s o rest
arms_at {l = l} y z = (l, y, z)

pub arms_yes_fails : (e : Fault) (i : ℕ) (ts : List Symbol) → FailsAt e (AStatement ∷ []) i ts → FailsAt e (AStatement ∷ OrAlternative want.Else ∷ []) i ts
arms_yes_fails e i ts h k = h (OrAlternative want.Else ∷ k)

pub arms_no_fails : (e : Fault) {total i : ℕ} {ts l : List Symbol} {s : Stmt} → IsStmt total limited i ts s l → FailsAt e (OrAlternative want.Else ∷ []) i l → FailsAt e (AStatement ∷ OrAlternative want.Else ∷ []) i ts
arms_no_fails e y h k = along e (runs_stmt limited y (OrAlternative want.Else ∷ k)) (h k)

pub alternative_none : (total n : ℕ) {w : Want} {ts : List Symbol} → starts w ts ≡ false → IsAlternative total limited w n ts None ts
alternative_none total n e = no_alternative e

pub alternative_some : {total n : ℕ} {w : Want} {ts a rest : List Symbol} {s : Stmt} → Takes w ts a → IsStmt total limited n a s rest → IsAlternative total limited w n ts (Some s) rest
alternative_some {total} {n} {w} {ts} {a} {rest} {s} q d = subst (λ x. IsAlternative total limited w n x (Some s) rest) (sym q.2) (alternative q.1 d)

pub alternative_fails : (e : Fault) (n : ℕ) (w : Want) {ts a : List Symbol} → Takes w ts a → FailsAt e (AStatement ∷ []) n a → FailsAt e (OrAlternative w ∷ []) n ts
alternative_fails e n w {ts} {a} q h k =
    along e (ap (λ x. verdict limited (OrAlternative w ∷ k) n x) q.2 ∙ taken limited (OrAlternative w) w k (AStatement ∷ []) n n q.0 a (Pass n) refl q.1) (h k)

pub do_at : {total i : ℕ} {ts rest : List Symbol} {ss : List Stmt} → IsBlock total limited false i ts ss rest → IsInside total word.Do i ts (form.Do ss) rest
do_at {total} {i} {ts} {rest} {ss} x n may e w = group_of may (subst (λ j. IsBlock total limited false j ts ss rest) e x)

pub do_block_fails : (e : Fault) (i : ℕ) (ts : List Symbol) → FailsAt e (ABlock false ∷ []) i ts → FailsAt e (ABlock false ∷ Back ∷ []) i ts
do_block_fails e i ts h k = h (Back ∷ k)

-- the block so far
pub record BlockTurn (total n : ℕ) (whole : Bool) (ts rest : List Symbol) (list : List Stmt) : Type 0 where
  pub done : (ss : List Stmt) (r : List Symbol) → IsBlock total limited whole n rest ss r → IsBlock total limited whole n ts (list ++ ss) r
  pub same : (k : List Part) → verdict limited (ABlock whole ∷ k) n ts ≡ verdict limited (ABlock whole ∷ k) n rest
  pub within : length rest ≤ length ts

pub block_first : (total n : ℕ) (whole : Bool) (ts : List Symbol) → BlockTurn total n whole ts ts []
block_first total n whole ts = record {
  done = λ ss r d. d;
  same = λ k. refl;
  within = omega arith;
}

pub block_turn : {total n : ℕ} {whole : Bool} {ts rest a left : List Symbol} {list longer : List Stmt} {s : Stmt} → BlockTurn total n whole ts rest list → (starts want.End rest ≡ false) × (a ≡ rest)
    → IsItem total limited whole n a s left → longer ≡ list ++ s ∷ [] → BlockTurn total n whole ts left longer
block_turn {total} {n} {whole} {ts} {rest} {a} {left} {list} {longer} {s} t q d g =
    let d : IsItem total limited whole n rest s left = subst (λ x. IsItem total limited whole n x s left) q.1 d in
    let turn : BlockTurn total n whole ts left (list ++ s ∷ []) = record {
      done = λ ss r ds. subst (λ xs. IsBlock total limited whole n ts xs r) (sym (append_assoc list (s ∷ []) ss)) (t.done (s ∷ ss) r (then_more d ds));
      same = λ k. t.same k ∙ block_as_item limited whole n rest k q.0 ∙ runs_item limited d (ABlock whole ∷ k);
      within = omega (arith, t.within, item_shorter d);
    } in
    subst (λ xs. BlockTurn total n whole ts left xs) (sym g) turn

pub block_over : {total n : ℕ} {whole : Bool} {ts rest left : List Symbol} {list : List Stmt} → BlockTurn total n whole ts rest list → Takes want.End rest left → IsBlock total limited whole n ts list left
block_over {total} {n} {whole} {ts} {rest} {left} {list} t q =
    let w = takes_end q in
    subst (λ xs. IsBlock total limited whole n ts xs left) (empty_right list) (t.done [] left (subst (λ x. IsBlock total limited whole n x [] left) (sym w.1) end_of))

pub block_fails : (e : Fault) {total n : ℕ} {whole : Bool} {ts rest a : List Symbol} {list : List Stmt} → BlockTurn total n whole ts rest list → (starts want.End rest ≡ false) × (a ≡ rest)
    → FailsAt e (AnItem whole ∷ []) n a → FailsAt e (ABlock whole ∷ []) n ts
block_fails e {n = n} {whole = whole} {rest = rest} t q h k =
    along e (t.same k ∙ block_as_item limited whole n rest k q.0 ∙ ap (λ x. verdict limited (AnItem whole ∷ ABlock whole ∷ k) n x) (sym q.1)) (h (ABlock whole ∷ k))

pub item_is_filter : {total : ℕ} (n : ℕ) {ts rest : List Symbol} {s : Stmt} → starts want.FiltList ts ≡ true → IsFilter total ts s rest → IsItem total limited true n ts s rest
item_is_filter n {ts = []} e d = let no : ⊥ = cc in absurd no
item_is_filter {total = total} n {ts = t ∷ ts} {rest = rest} {s = s} e d =
    let w = filter_word t e in
    let i : IsItem total limited true n (Word word.FiltList w.0 ∷ ts) s rest = item_filter (subst (λ x. IsFilter total (x ∷ ts) s rest) w.1 d) in
    subst (λ x. IsItem total limited true n (x ∷ ts) s rest) (sym w.1) i

pub item_filter_fails : (e : Fault) (n : ℕ) (ts : List Symbol) → ((m : ℕ) → FailsAt e (AnItem true ∷ []) m ts) → FailsAt e (AnItem true ∷ []) n ts
item_filter_fails e n ts h = h n

pub item_is_statement : {total n : ℕ} (whole : Bool) {ts rest : List Symbol} {s : Stmt} → IsStmt total limited n ts s rest → IsItem total limited whole n ts s rest
item_is_statement whole d = item_statement d

pub item_fails : (e : Fault) (n : ℕ) (ts : List Symbol) → starts want.FiltList ts ≡ false → FailsAt e (AStatement ∷ []) n ts → FailsAt e (AnItem true ∷ []) n ts
item_fails e n ts g h k = along e (item_as_statement limited true n ts k g) (h k)

inner_item : (n : ℕ) (ts : List Symbol) (k : List Part) → verdict limited (AnItem false ∷ k) n ts ≡ verdict limited (AStatement ∷ k) n ts
inner_item n [] k = refl
inner_item n (t ∷ ts) k = refl

pub inner_fails : (e : Fault) (n : ℕ) (ts : List Symbol) → FailsAt e (AStatement ∷ []) n ts → FailsAt e (AnItem false ∷ []) n ts
inner_fails e n ts h k = along e (inner_item n ts k) (h k)

-- one more statement of a block

pub more_of_statement : {total n : ℕ} (whole : Bool) {ts rest : List Symbol} (list longer : List Stmt) {s : Stmt} → IsStmt total limited n ts s rest → longer ≡ list ++ s ∷ [] → IsItemMore total whole n ts list longer rest
more_of_statement whole list longer {s = s} d g = (s, item_statement d, g)

pub more_of_plain : (total n : ℕ) (whole : Bool) (ts rest : List Symbol) (list longer : List Stmt) → IsPlainMore total ts list longer rest → IsItemMore total whole n ts list longer rest
more_of_plain total n whole ts rest list longer (s, d, g) = (s, item_statement (d n), g)

pub more_of_filter : {total : ℕ} (n : ℕ) {ts rest : List Symbol} (list longer : List Stmt) {s : Stmt} → starts want.FiltList ts ≡ true → IsFilter total ts s rest → longer ≡ list ++ s ∷ [] → IsItemMore total true n ts list longer rest
more_of_filter n list longer {s = s} e d g = (s, item_is_filter n e d, g)

pub inner_plain_fails : (e : Fault) (n : ℕ) (ts : List Symbol) → ((m : ℕ) → FailsAt e (AStatement ∷ []) m ts) → FailsAt e (AnItem false ∷ []) n ts
inner_plain_fails e n ts h = inner_fails e n ts (h n)

pub item_plain_fails : (e : Fault) (n : ℕ) (ts : List Symbol) → starts want.FiltList ts ≡ false → ((m : ℕ) → FailsAt e (AStatement ∷ []) m ts) → FailsAt e (AnItem true ∷ []) n ts
item_plain_fails e n ts g h = item_fails e n ts g (h n)

-- statements with no others inside them

pub plain_more : {total : ℕ} {ts rest : List Symbol} (list longer : List Stmt) {s : Stmt} → IsPlain total ts s rest → longer ≡ list ++ s ∷ [] → IsPlainMore total ts list longer rest
plain_more list longer {s} d g = (s, d, g)

pub set_read : (total : ℕ) {at : ℕ} {w : List ℕ} {ts a : List Symbol} (rest : List Symbol) (result : Result Stmt Fault) → ts ≡ Word word.Set w ∷ a → at ≡ place_in total ts
    → Reads (λ s. IsBehindAt total word.Set at a s rest) (ARef ∷ One want.Equal Keep ∷ AnOperand list.Values ∷ MoreOperands list.Values ∷ []) a result → Reads (λ s. IsPlain total ts s rest) (AStatement ∷ []) ts result
set_read total rest (Ok s) q g (f, h, d) = λ n. stmt_behind n q g d h
set_read total rest (Err e) q g h = λ n. set_fails e n q h

pub write_read : (total : ℕ) {at : ℕ} {w : List ℕ} {ts a : List Symbol} (rest : List Symbol) (result : Result Stmt Fault) → ts ≡ Word word.Write w ∷ a → at ≡ place_in total ts
    → Reads (λ s. IsBehindAt total word.Write at a s rest) (AnOperand list.Parts ∷ MoreOperands list.Parts ∷ []) a result → Reads (λ s. IsPlain total ts s rest) (AStatement ∷ []) ts result
write_read total rest (Ok s) q g (f, h, d) = λ n. stmt_behind n q g d h
write_read total rest (Err e) q g h = λ n. write_fails e n q h

pub exit_read : (total : ℕ) {at : ℕ} {w : List ℕ} {ts a : List Symbol} (rest : List Symbol) (result : Result Stmt Fault) → ts ≡ Word word.Exit w ∷ a → at ≡ place_in total ts
    → Reads (λ s. IsBehindAt total word.Exit at a s rest) (OrCode ∷ []) a result → Reads (λ s. IsPlain total ts s rest) (AStatement ∷ []) ts result
exit_read total rest (Ok s) q g (f, h, d) = λ n. stmt_behind n q g d h
exit_read total rest (Err e) q g h = λ n. exit_fails e n q h

-- what each reader needs of these

pub ruleset plain_steps = (set_read, write_read, exit_read)

pub ruleset inner_item_steps = (more_of_statement, more_of_plain, inner_fails, inner_plain_fails)

pub ruleset statement_steps = (stmt_inside, if_fails, select_fails, do_fails, if_deep, select_deep, do_deep)

pub ruleset assignment_steps = (set_at, set_ref_fails, set_equal_fails, set_values_fail)

pub ruleset item_steps = (more_of_filter, more_of_statement, more_of_plain, item_filter_fails, item_fails, item_plain_fails)
