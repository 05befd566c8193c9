-- What the readers of the whole give, and which answers are right.
use Rattle.std.proofs.Common.{◌≡◌, ◌⊎◌, inl, inr, ◌≤◌, ◌+◌, ◌-◌, ℕ, zero, suc, Bool, true, false, List, [], ◌∷◌, length}
use Rattle.std.proofs.Common.{refl, ap, sym, ◌∙◌, subst, arith}
use Rattle.std.specs.Prelude.{Option, Some, None, Result, Ok, Err, All, slice_get}
use Rattle.acs_lex.specs.declared.token.Token.{Token}
use Rattle.acs_lex.specs.Tokens.{IsCut, InOrder, IsTokenOf}
use Rattle.acs_lex.proofs.PlaceLemmas.{cut_in_order, cut_of_tokens}
use Rattle.acs_tree.specs.declared.routine.Stmt.{Stmt}
use Rattle.acs_tree.specs.declared.routine.Routine.{Routine}
use Rattle.acs_symbol.specs.declared.symbol.WordKind.TheVariants as word
use Rattle.acs_symbol.specs.declared.symbol.Symbol.{Symbol}
use Rattle.acs_symbol.specs.declared.symbol.Symbol.TheVariants.{Word}
use Rattle.acs_symbol.specs.Symbols.{symbols_of}
use Rattle.acs_parse.specs.declared.want.Want.TheVariants as want
use Rattle.acs_parse.specs.declared.fault.ParseErr.{ParseErr}
use Rattle.acs_parse.specs.declared.fault.ParseErr.TheVariants as answer
use Rattle.acs_parse.specs.declared.fault.Fault.{Fault}
use Rattle.acs_parse.specs.declared.fault.Fault.TheVariants.{Unexpected, Ended, Deep, NoMemory}
use Rattle.acs_parse.specs.Wants.{fits}
use Rattle.acs_parse.specs.Grammar.{place_in, limited, IsHead, IsBlock, IsOrNumber, no_number, number, IsRoutineOf}
use Rattle.acs_parse.specs.Grammar.{routine, IsRoutine}
use Rattle.desk_common.specs.Exact.{MayRefuse, IsExact}
use Rattle.desk_common.proofs.ExactLemmas.{exact_thing, exact_fault as exact_refusal, exact_want, refuses_want}
use Rattle.acs_parse.specs.ParseFault.{IsParseFault, unexpected, ended, deep}
use Rattle.acs_parse.specs.Inner.Table.{Effect, Keep, One, OrNumber, ABlock, start, Stop, verdict}
use Rattle.acs_parse.specs.Inner.Language.{Takes}
use Rattle.acs_parse.specs.Inner.Reads.{Fails, FailsAt, Skips, told}
use Rattle.acs_parse.proofs.RunLemmas.{runs_one, runs_number, runs_block, fits_head}
use Rattle.acs_parse.proofs.FrontLemmas.{first_wrong, too_deep, ends_early, stop_within, deep_within}
use Rattle.acs_parse.proofs.OneTreeLemmas.{one_tree}
use Rattle.acs_parse.proofs.ExactLemmas.{no_wrong, no_deep, whole, apart, one_wrong, one_deep, HasAnswer, tree, wrong}
use Rattle.acs_parse.proofs.ExactLemmas.{deep as too_many, early, some_answer}
use Rattle.acs_parse.proofs.OperandLemmas.{along, goes_one}

is_proc : (t : Symbol) → fits want.Proc t ≡ true → (text : List ℕ) × (t ≡ Word word.Proc text)
is_proc (Word word.Proc text) e = (text, refl)
is_proc _ e = let no : ⊥ = cc in absurd no

is_number : (t : Symbol) → fits want.Number t ≡ true → (text : List ℕ) × (t ≡ Word word.Number text)
is_number (Word word.Number text) e = (text, refl)
is_number _ e = let no : ⊥ = cc in absurd no

pub number_at : (b : Bool) {ts rest : List Symbol} → Skips want.Number ts rest b → IsOrNumber ts rest
number_at true {ts} {rest} q =
    let w = is_number q.0 q.1 in
    subst (λ x. IsOrNumber x rest) (sym (q.2 ∙ ap (λ t. t ∷ rest) w.1)) number
number_at false {ts} {rest} q = subst (λ x. IsOrNumber ts x) (sym q.1) (no_number q.0)

pub whole_at : {total at : ℕ} {name : List ℕ} {ts a b c left : List Symbol} {ss : List Stmt} → Takes want.Proc ts a → IsOrNumber a b → ((t : Symbol) × IsHead t name × (b ≡ t ∷ c))
    → at ≡ place_in total b → IsBlock total limited true 0 c ss left → left ≡ [] → IsRoutineOf total limited ts (record { head = name; head_at = at; body = ss })
whole_at {total} {at} {name} {ts} {a} {b} {c} {left} {ss} p q r f d e =
    let w = is_proc p.0 p.1 in
    let g : ts ≡ Word word.Proc w.0 ∷ a = p.2 ∙ ap (λ t. t ∷ a) w.1 in
    let i : IsRoutineOf total limited (Word word.Proc w.0 ∷ a) (record { head = name; head_at = place_in total (r.0 ∷ c); body = ss }) =
    routine (subst (λ x. IsOrNumber a x) r.2 q) r.1 (subst (λ x. IsBlock total limited true 0 c ss x) e d) in
    subst (λ x. IsRoutineOf total limited ts (record { head = name; head_at = x; body = ss })) (sym (f ∙ ap (λ x. place_in total x) r.2))
    (subst (λ x. IsRoutineOf total limited x (record { head = name; head_at = place_in total (r.0 ∷ c); body = ss })) (sym g) i)

pub whole_proc_fails : (e : Fault) (ts : List Symbol) → ((f : Effect) (m : ℕ) → FailsAt e (One want.Proc f ∷ []) m ts) → Fails e (verdict limited start 0 ts)
whole_proc_fails e ts h = h Keep 0 (OrNumber ∷ One want.Head Keep ∷ ABlock true ∷ [])

goes_head : {ts a b : List Symbol} → Takes want.Proc ts a → IsOrNumber a b → verdict limited start 0 ts ≡ verdict limited (One want.Head Keep ∷ ABlock true ∷ []) 0 b
goes_head p q = goes_one want.Proc Keep 0 (OrNumber ∷ One want.Head Keep ∷ ABlock true ∷ []) p [] ∙ runs_number limited 0 q (One want.Head Keep ∷ ABlock true ∷ [])

pub whole_head_fails : (e : Fault) {ts a b : List Symbol} → Takes want.Proc ts a → IsOrNumber a b → ((f : Effect) (m : ℕ) → FailsAt e (One want.Head f ∷ []) m b) → Fails e (verdict limited start 0 ts)
whole_head_fails e p q h = along e (goes_head p q) (h Keep 0 (ABlock true ∷ []))

goes_body : {name : List ℕ} {ts a b c : List Symbol} → Takes want.Proc ts a → IsOrNumber a b → ((t : Symbol) × IsHead t name × (b ≡ t ∷ c)) → verdict limited start 0 ts ≡ verdict limited (ABlock true ∷ []) 0 c
goes_body {c = c} p q r =
    goes_head p q ∙ ap (λ x. verdict limited (One want.Head Keep ∷ ABlock true ∷ []) 0 x) r.2 ∙ runs_one limited want.Head Keep (ABlock true ∷ []) 0 r.0 c (fits_head r.1)

pub whole_body_fails : (e : Fault) {name : List ℕ} {ts a b c : List Symbol} → Takes want.Proc ts a → IsOrNumber a b → ((t : Symbol) × IsHead t name × (b ≡ t ∷ c)) → FailsAt e (ABlock true ∷ []) 0 c
    → Fails e (verdict limited start 0 ts)
whole_body_fails e p q r h = along e (goes_body p q r) (h [])

pub whole_rest_fails : {total : ℕ} {name : List ℕ} {ts a b c left more : List Symbol} {t : Symbol} {ss : List Stmt} → Takes want.Proc ts a → IsOrNumber a b → ((t : Symbol) × IsHead t name × (b ≡ t ∷ c))
    → IsBlock total limited true 0 c ss left → left ≡ t ∷ more → verdict limited start 0 ts ≡ Stop (length left)
whole_rest_fails {left = left} p q r d e = goes_body p q r ∙ runs_block limited d [] ∙ ap (λ x. verdict limited [] 0 x) e ∙ ap (λ x. Stop (length x)) (sym e)

abbrev end_of_token : Option Token → ℕ
end_of_token None = 0
end_of_token (Some one) = one.to

pub tokens_in_text : {text : List ℕ} {tokens : List Token} → IsCut text tokens → All (IsTokenOf text) tokens
tokens_in_text {text} {tokens} d = cut_of_tokens text tokens d

pub tokens_in_order : {text : List ℕ} {tokens : List Token} → IsCut text tokens → (n : ℕ) × InOrder 0 n tokens
tokens_in_order {text} {tokens} d = (length text, cut_in_order text tokens d)

pub as_many : (text : List ℕ) (tokens : List Token) → length (symbols_of text tokens) ≡ length tokens
as_many text [] = refl
as_many text (one ∷ tokens) = ap (λ n. suc n) (as_many text tokens)

count_behind : (from to : ℕ) (tokens : List Token) (last : Token) (i : ℕ) → suc i ≡ length tokens → InOrder from to tokens → Some last ≡ slice_get tokens i → from + length tokens ≤ last.to
count_behind from to [] last i q h e = absurd (omega (arith, q))
count_behind from to (one ∷ []) last zero q h e =
    let same : last.to ≡ one.to = ap end_of_token e in
    omega (arith, h.0, h.1, same)
count_behind from to (one ∷ []) last (suc i) q h e = absurd (omega (arith, q))
count_behind from to (one ∷ two ∷ tokens) last zero q h e = absurd (omega (arith, q))
count_behind from to (one ∷ two ∷ tokens) last (suc i) q h e =
    omega (arith, h.0, h.1, count_behind one.to to (two ∷ tokens) last i (omega (arith, q)) h.2 e)

-- the last token ends behind as many bytes as there are tokens
pub count_at_last : (from to : ℕ) (tokens : List Token) (last : Token) → InOrder from to tokens → Some last ≡ slice_get tokens (length tokens - 1) → from + length tokens ≤ last.to
count_at_last from to [] last h e = let no : ⊥ = cc in absurd no
count_at_last from to (one ∷ tokens) last h e = count_behind from to (one ∷ tokens) last (length (one ∷ tokens) - 1) (omega arith) h e

-- each fault of the table, told with its place
pub right_fault : (e : Fault) (ts : List Symbol) {total : ℕ} → total ≡ length ts → Fails e (verdict limited start 0 ts) → MayRefuse (IsParseFault ts) (Some answer.NoMemory) (told total e)
right_fault (Unexpected left) ts {total} q h =
    let le = stop_within ts left h in
    let f : (total - left) + left ≡ length ts = omega (arith, le, q) in
    inl (unexpected (first_wrong ts left (total - left) h f))
right_fault Ended ts q h = inl (ended (ends_early ts h))
right_fault (Deep left) ts {total} q h =
    let le = deep_within ts left h in
    let f : (total - left) + left ≡ length ts = omega (arith, le, q) in
    inl (deep (too_deep ts left (total - left) h f))
right_fault NoMemory ts q h = inr refl

pub right_tree : {ts : List Symbol} {total : ℕ} {tree : Routine} → total ≡ length ts → IsRoutineOf total limited ts tree → IsRoutine limited ts tree
right_tree {ts} {total} {tree} q d = subst (λ n. IsRoutineOf n limited ts tree) q d

pub no_fault : {ts : List Symbol} {tree : Routine} {err : ParseErr} → IsRoutine limited ts tree → IsParseFault ts err → ⊥
no_fault {ts} {tree} d (unexpected {k = k} w) = no_wrong ts k (whole ts tree d) w
no_fault {ts} {tree} d (ended w) = w.no_routine tree d
no_fault {ts} {tree} d (deep {k = k} w) = no_deep ts k (whole ts tree d) w

pub one_fault : {ts : List Symbol} {one two : ParseErr} → IsParseFault ts one → IsParseFault ts two → one ≡ two
one_fault {ts} (unexpected {k = j} v) (unexpected {k = k} w) = ap (λ x. answer.Unexpected x) (one_wrong ts j k v w)
one_fault {ts} (unexpected {k = j} v) (ended w) = absurd (no_wrong ts j w.begins v)
one_fault {ts} (unexpected {k = j} v) (deep {k = k} w) = absurd (apart ts j k v w)
one_fault {ts} (ended v) (unexpected {k = k} w) = absurd (no_wrong ts k v.begins w)
one_fault {ts} (ended v) (ended w) = refl
one_fault {ts} (ended v) (deep {k = k} w) = absurd (no_deep ts k v.begins w)
one_fault {ts} (deep {k = j} v) (unexpected {k = k} w) = absurd (apart ts k j w v)
one_fault {ts} (deep {k = j} v) (ended w) = absurd (no_deep ts j w.begins v)
one_fault {ts} (deep {k = j} v) (deep {k = k} w) = ap (λ x. answer.Deep x) (one_deep ts j k v w)

answered : {ts : List Symbol} → HasAnswer ts → ((tree : Routine) × IsRoutine limited ts tree) ⊎ ((err : ParseErr) × IsParseFault ts err)
answered (tree found d) = inl (found, d)
answered (wrong k w) = inr (answer.Unexpected k, unexpected w)
answered (too_many k w) = inr (answer.Deep k, deep w)
answered (early w) = inr (answer.Ended, ended w)

pub tree_or_fault : (ts : List Symbol) → ((tree : Routine) × IsRoutine limited ts tree) ⊎ ((err : ParseErr) × IsParseFault ts err)
tree_or_fault ts = answered (some_answer ts)

-- the answer is exact
abbrev pub IsAnswer : List Symbol → Result Routine ParseErr → Type 0
IsAnswer ts result = IsExact (IsRoutine limited ts) (IsParseFault ts) (Some answer.NoMemory) result

pub exact_tree : {ts : List Symbol} {total : ℕ} {found : Routine} → total ≡ length ts → IsRoutineOf total limited ts found → IsAnswer ts (Ok found)
exact_tree {ts} {total} {found} q d =
    let d : IsRoutine limited ts found = right_tree q d in
    exact_thing (λ other p. one_tree d p) (λ err p. no_fault d p)

pub exact_memory : (ts : List Symbol) → IsAnswer ts (Err answer.NoMemory)
exact_memory ts = exact_want

exact_err : (ts : List Symbol) (err : ParseErr) → MayRefuse (IsParseFault ts) (Some answer.NoMemory) err → IsAnswer ts (Err err)
exact_err ts err (inl d) = exact_refusal (λ made p. no_fault p d) (λ other p. one_fault d p)
exact_err ts err (inr e) = let same : answer.NoMemory ≡ err = cc in subst (λ x. IsAnswer ts (Err x)) same (exact_memory ts)

pub exact_fault : (e : Fault) (ts : List Symbol) {total : ℕ} → total ≡ length ts → Fails e (verdict limited start 0 ts) → IsAnswer ts (Err (told total e))
exact_fault e ts {total} q h = exact_err ts (told total e) (right_fault e ts q h)

-- what each reader needs of these

pub ruleset parse_steps = (tokens_in_text, tokens_in_order, as_many, exact_memory, refuses_want)

pub ruleset parse_rest_steps = (right_tree, exact_tree, right_fault, exact_fault)

pub ruleset routine_steps = (number_at, whole_at, whole_proc_fails, whole_head_fails, whole_body_fails, whole_rest_fails)
