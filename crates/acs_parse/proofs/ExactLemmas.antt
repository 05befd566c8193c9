-- The answers exclude one another, and one of them is right.
use Rattle.std.proofs.Common.{◌≡◌, ◌⊎◌, inl, inr, ℕ, zero, suc, ◌+◌, ◌-◌, ◌<◌, ◌≤◌, Bool, true, false, cond, ◌&&◌, List}
use Rattle.std.proofs.Common.{[], ◌∷◌, ◌++◌, length, take, drop, refl, ap, sym, ◌∙◌, subst, arith, append_assoc}
use Rattle.acs_tree.specs.declared.routine.Routine.{Routine}
use Rattle.acs_symbol.specs.declared.symbol.Symbol.{Symbol}
use Rattle.acs_parse.specs.Grammar.{limited, unlimited, back, IsRoutine, no_number, no_exclude, no_alternative, no_when}
use Rattle.acs_parse.specs.Grammar.{no_or, no_and, no_further, no_index, no_code}
use Rattle.acs_parse.specs.Places.{Begins, IsFirstWrong, IsTooDeep, EndsEarly}
use Rattle.acs_parse.specs.Inner.Table.{Part, OrNumber, OrExclude, OrAlternative, MoreWhens, MoreOrs, MoreAnds}
use Rattle.acs_parse.specs.Inner.Table.{MoreOperands, OrIndex, OrCode, Back, start, Step, Go, No, Many, step}
use Rattle.acs_parse.specs.Inner.Table.{may_be_empty, all_empty, Verdict, Complete, Short, Stop, TooMany, next, verdict}
use Rattle.acs_parse.proofs.VerdictLemmas.{is_over}
use Rattle.acs_parse.specs.Inner.Language.{Lang, Seq}
use Rattle.acs_parse.proofs.SoundLemmas.{steps}
use Rattle.acs_parse.proofs.WideLemmas.{WideStep, wide}
use Rattle.acs_parse.proofs.FrontLemmas.{begins, begins_not, from_start, first_wrong, too_deep, ends_early, stop_within}
use Rattle.acs_parse.proofs.FrontLemmas.{deep_within}

both_parts : (n : ℕ) (xs : List Symbol) → take n xs ++ drop n xs ≡ xs
both_parts zero xs = refl
both_parts (suc n) [] = refl
both_parts (suc n) (x ∷ xs) = ap (λ z. x ∷ z) (both_parts n xs)

take_less : (m n : ℕ) (xs : List Symbol) → m ≤ n → take m (take n xs) ≡ take m xs
take_less zero n xs h = refl
take_less (suc m) zero xs h = absurd (omega arith)
take_less (suc m) (suc n) [] h = refl
take_less (suc m) (suc n) (x ∷ xs) h = ap (λ z. x ∷ z) (take_less m n xs (omega arith))

empty_right : (xs : List Symbol) → xs ++ [] ≡ xs
empty_right [] = refl
empty_right (x ∷ xs) = ap (λ z. x ∷ z) (empty_right xs)

short : (k : ℕ) (xs : List Symbol) → length (take k xs) ≤ k
short zero xs = omega arith
short (suc k) [] = omega arith
short (suc k) (x ∷ xs) = omega (arith, short k xs)

no_longer : (k : ℕ) (xs : List Symbol) → length (take k xs) ≤ length xs
no_longer zero xs = omega arith
no_longer (suc k) [] = omega arith
no_longer (suc k) (x ∷ xs) = omega (arith, no_longer k xs)

front : (may : ℕ → Bool) (n : ℕ) (xs : List Symbol) → Begins may xs → Begins may (take n xs)
front may n xs b =
    let e : take n xs ++ (drop n xs ++ b.0) ≡ xs ++ b.0 = sym (append_assoc (take n xs) (drop n xs) b.0) ∙ ap (λ z. z ++ b.0) (both_parts n xs) in
    (drop n xs ++ b.0, b.1, subst (λ z. IsRoutine may z b.1) (sym e) b.2)

pub whole : (ts : List Symbol) (found : Routine) → IsRoutine limited ts found → Begins limited ts
whole ts found d = ([], found, subst (λ z. IsRoutine limited z found) (sym (empty_right ts)) d)

-- what goes on within the limit goes on without it
free_at : (t : Symbol) (p : List Symbol) (k : List Part) (n l : ℕ) (o : Step) → step limited k n t ≡ o → WideStep o (step unlimited k n t)
    → ((j : List Part) (i : ℕ) → is_over (verdict limited j i p) ≡ false → is_over (verdict unlimited j i p) ≡ false)
    → is_over (next o l (λ j i. verdict limited j i p)) ≡ false → is_over (verdict unlimited k n (t ∷ p)) ≡ false
free_at t p k n l No e w below h = let no : ⊥ = cc in absurd no
free_at t p k n l Many e w below h = let no : ⊥ = cc in absurd no
free_at t p k n l (Go i j) e w below h = ap (λ x. is_over (next x (suc (length p)) (λ q m. verdict unlimited q m p))) w ∙ below j i h

not_over : (b : Bool) → is_over (cond b Complete Short) ≡ false
not_over true = refl
not_over false = refl

free : (p : List Symbol) (k : List Part) (n : ℕ) → is_over (verdict limited k n p) ≡ false → is_over (verdict unlimited k n p) ≡ false
free [] k n h = not_over (all_empty k)
free (t ∷ p) k n h = free_at t p k n (suc (length p)) (step limited k n t) refl (wide k n t) (free p) h

widen_at : (p : List Symbol) (b : Bool) → is_over (verdict limited start 0 p) ≡ b → Begins limited p → Begins unlimited p
widen_at p true e h = absurd (begins_not limited p e h)
widen_at p false e h = begins unlimited p (free p start 0 e)

widen : (p : List Symbol) → Begins limited p → Begins unlimited p
widen p h = widen_at p (is_over (verdict limited start 0 p)) refl h

pub no_wrong : (ts : List Symbol) (k : ℕ) → Begins limited ts → IsFirstWrong ts k → ⊥
no_wrong ts k b p = p.wrong (widen (take (k + 1) ts) (front limited (k + 1) ts b))

pub no_deep : (ts : List Symbol) (k : ℕ) → Begins limited ts → IsTooDeep ts k → ⊥
no_deep ts k b p = p.deep (front limited (k + 1) ts b)

-- a longer front that begins a routine
longer : (ts : List Symbol) (j k : ℕ) → j < k → Begins limited (take k ts) → Begins limited (take (j + 1) ts)
longer ts j k h b = let le : j + 1 ≤ k = omega arith in subst (Begins limited) (take_less (j + 1) k ts le) (front limited (j + 1) (take k ts) b)

pub one_wrong : (ts : List Symbol) (j k : ℕ) → IsFirstWrong ts j → IsFirstWrong ts k → j ≡ k
one_wrong ts j k p q =
    let a : j < k → ⊥ = λ h. p.wrong (widen (take (j + 1) ts) (longer ts j k h q.before)) in
    let b : k < j → ⊥ = λ h. q.wrong (widen (take (k + 1) ts) (longer ts k j h p.before)) in
    omega (arith, a, b)

pub one_deep : (ts : List Symbol) (j k : ℕ) → IsTooDeep ts j → IsTooDeep ts k → j ≡ k
one_deep ts j k p q =
    let a : j < k → ⊥ = λ h. p.deep (longer ts j k h q.before) in
    let b : k < j → ⊥ = λ h. q.deep (longer ts k j h p.before) in
    omega (arith, a, b)

pub apart : (ts : List Symbol) (j k : ℕ) → IsFirstWrong ts j → IsTooDeep ts k → ⊥
apart ts j k p q =
    let a : j < k → ⊥ = λ h. p.wrong (widen (take (j + 1) ts) (longer ts j k h q.before)) in
    let b : k < j → ⊥ = λ h. q.deep (longer ts k j h p.before) in
    let e : j ≡ k = omega (arith, a, b) in
    p.wrong (subst (λ x. Begins unlimited (take (x + 1) ts)) (sym e) q.goes_on)

-- parts that may be empty are read at the end
empty_part : (total : ℕ) (s : Part) (n : ℕ) → may_be_empty s ≡ true → (m : ℕ) × Lang total limited s n [] m []
empty_part total OrNumber n e = (n, (no_number refl, refl))
empty_part total OrExclude n e = (n, ([], no_exclude refl, refl))
empty_part total (OrAlternative w) n e = (n, (_, no_alternative refl, refl))
empty_part total (MoreWhens b) n e = (n, ([], no_when refl, refl))
empty_part total MoreOrs n e = (n, λ x. (x, no_or refl))
empty_part total MoreAnds n e = (n, λ x. (x, no_and refl))
empty_part total (MoreOperands kind) n e = (n, ([], no_further refl, refl))
empty_part total OrIndex n e = (n, (_, _, no_index refl, refl))
empty_part total OrCode n e = (n, (_, no_code refl, refl))
empty_part total Back n e = (back n, (refl, refl))
empty_part total _ n e = let no : ⊥ = cc in absurd no

both_true : (a b : Bool) → (a && b) ≡ true → (a ≡ true) × (b ≡ true)
both_true true b e = (refl, e)
both_true false b e = let no : ⊥ = cc in absurd no

all_at_end : (total : ℕ) (k : List Part) (n : ℕ) → all_empty k ≡ true → (m : ℕ) × Seq total limited k n [] m []
all_at_end total [] n e = (n, (refl, refl))
all_at_end total (s ∷ k) n e =
    let p = both_true (may_be_empty s) (all_empty k) e in
    let a = empty_part total s n p.0 in
    let b = all_at_end total k a.0 p.1 in
    (b.0, (a.0, [], a.1, b.1))

is_complete : (b : Bool) → cond b Complete Short ≡ Complete → b ≡ true
is_complete true e = refl
is_complete false e = let no : ⊥ = cc in absurd no

reads_at : (total : ℕ) (t : Symbol) (p : List Symbol) (k : List Part) (n l : ℕ) (o : Step) → step limited k n t ≡ o
    → ((j : List Part) (i : ℕ) → verdict limited j i p ≡ Complete → (m : ℕ) × Seq total limited j i p m [])
    → next o l (λ j i. verdict limited j i p) ≡ Complete → (m : ℕ) × Seq total limited k n (t ∷ p) m []
reads_at total t p k n l No e below h = let no : ⊥ = cc in absurd no
reads_at total t p k n l Many e below h = let no : ⊥ = cc in absurd no
reads_at total t p k n l (Go i j) e below h = let q = below j i h in (q.0, steps total limited k j n i t q.0 p [] e q.1)

reads : (total : ℕ) (p : List Symbol) (k : List Part) (n : ℕ) → verdict limited k n p ≡ Complete → (m : ℕ) × Seq total limited k n p m []
reads total [] k n h = all_at_end total k n (is_complete (all_empty k) h)
reads total (t ∷ p) k n h = reads_at total t p k n (suc (length p)) (step limited k n t) refl (reads total p) h

-- the tokens are a routine, or one of the three faults is theirs
pub data HasAnswer (ts : List Symbol) : Type 0 where
  tree : (tree : Routine) → IsRoutine limited ts tree → HasAnswer ts
  wrong : (k : ℕ) → IsFirstWrong ts k → HasAnswer ts
  deep : (k : ℕ) → IsTooDeep ts k → HasAnswer ts
  early : EndsEarly ts → HasAnswer ts

answer_at : (ts : List Symbol) (v : Verdict) → verdict limited start 0 ts ≡ v → HasAnswer ts
answer_at ts Complete e =
    let q = reads (length ts) ts start 0 e in
    let r = from_start limited (length ts) ts q.0 q.1 in
    tree r.0 r.1
answer_at ts Short e = early (ends_early ts e)
answer_at ts (Stop n) e = let le = stop_within ts n e in let f : (length ts - n) + n ≡ length ts = omega (arith, le) in wrong (length ts - n) (first_wrong ts n (length ts - n) e f)
answer_at ts (TooMany n) e = let le = deep_within ts n e in let f : (length ts - n) + n ≡ length ts = omega (arith, le) in deep (length ts - n) (too_deep ts n (length ts - n) e f)

pub some_answer : (ts : List Symbol) → HasAnswer ts
some_answer ts = answer_at ts (verdict limited start 0 ts) refl

front_at : (ts : List Symbol) (k : ℕ) → Begins unlimited (take k ts) → HasAnswer (take k ts) → Begins limited (take k ts) ⊎ ((j : ℕ) × (j < k) × IsTooDeep ts j)
front_at ts k b (tree found d) = inl (whole (take k ts) found d)
front_at ts k b (wrong j w) = absurd (w.wrong (front unlimited (j + 1) (take k ts) b))
front_at ts k b (early e) = inl e.begins
front_at ts k b (deep j d) =
    let less : j < k = omega (arith, d.within, short k ts) in
    let here : take j (take k ts) ≡ take j ts = take_less j k ts (omega arith) in
    let next : take (j + 1) (take k ts) ≡ take (j + 1) ts = take_less (j + 1) k ts (omega arith) in
    inr (
      j,
      less,
      record {
        within = omega (arith, d.within, no_longer k ts);
        before = subst (Begins limited) here d.before;
        goes_on = subst (Begins unlimited) next d.goes_on;
        deep = λ h. d.deep (subst (Begins limited) (sym next) h);
      },
    )

pub limited_front : (ts : List Symbol) (k : ℕ) → Begins unlimited (take k ts) → Begins limited (take k ts) ⊎ ((j : ℕ) × (j < k) × IsTooDeep ts j)
limited_front ts k b = front_at ts k b (some_answer (take k ts))
