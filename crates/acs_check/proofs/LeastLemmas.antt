-- The least of many faults is the first of them.
use Rattle.std.proofs.Common.{◌≡◌, ◌≢◌, ◌≤◌, ◌<◌, ℕ, Bool, true, false, List, [], ◌∷◌, ◌++◌, refl, sym, ◌∙◌, subst}
use Rattle.std.proofs.Common.{arith, ◌⊎◌, inl, inr}
use Rattle.std.specs.Prelude.{◌==◌, ◌&&◌, ◌||◌, nat_lt, Option, Some, None, if◌then◌else◌}
use Rattle.std.proofs.lemmas.Bool.Decides.{nat_tests}
use Rattle.acs_tree.specs.declared.check_err.CheckErr.{CheckErr}
use Rattle.acs_tree.specs.Sound.{Among, here, there}
use Rattle.acs_check.specs.Inner.Walk.{precedes, better, least}

differs : (x y : ℕ) → x ≢ y → (x == y) ≡ false
differs x y ne = grind (arith, nat_tests)

pub least_append : (best : Option CheckErr) (a b : List CheckErr) → least best (a ++ b) ≡ least (least best a) b
least_append best [] b = refl
least_append best (f ∷ fs) b = least_append (better best f) fs b

-- the order of faults

lt_of : (m n : ℕ) → nat_lt m n ≡ true → m < n
lt_of m n e = grind (arith, nat_tests)

ge_of : (m n : ℕ) → nat_lt m n ≡ false → n ≤ m
ge_of m n e = grind (arith, nat_tests)

of_ge : (m n : ℕ) → n ≤ m → nat_lt m n ≡ false
of_ge m n e = grind (arith, nat_tests)

pub eq_of : (m n : ℕ) → (m == n) ≡ true → m ≡ n
eq_of m n e = grind (arith, nat_tests)

ne_of : (m n : ℕ) → (m == n) ≡ false → m ≢ n
ne_of m n e = grind (arith, nat_tests)

-- f doesn't come before g
abbrev pub Behind : CheckErr → CheckErr → Type 0
Behind f g = (g.at < f.at) ⊎ ((g.at ≡ f.at) × (g.number ≤ f.number))

true_false : true ≡ false → ⊥
true_false e = cc

and_false : (v : Bool) → (v && false) ≡ false
and_false true = refl
and_false false = refl

behind_less : (m n : ℕ) → n ≤ m → m ≢ n → n < m
behind_less m n h e = omega arith

less_le : (m n : ℕ) → m < n → m ≤ n
less_le m n h = omega arith

behind_at : (u v w : Bool) (f g : CheckErr) → nat_lt f.at g.at ≡ u → (f.at == g.at) ≡ v → nat_lt f.number g.number ≡ w → (u || (v && w)) ≡ false → Behind f g
behind_at true v w f g a b d e = absurd (true_false e)
behind_at false false w f g a b d e = inl (behind_less f.at g.at (ge_of _ _ a) (ne_of _ _ b))
behind_at false true true f g a b d e = absurd (true_false e)
behind_at false true false f g a b d e = inr (sym (eq_of _ _ b), ge_of _ _ d)

pub behind_of : (f g : CheckErr) → precedes f g ≡ false → Behind f g
behind_of f g e = behind_at (nat_lt f.at g.at) (f.at == g.at) (nat_lt f.number g.number) f g refl refl refl e

pub of_behind : (f g : CheckErr) → Behind f g → precedes f g ≡ false
of_behind f g (inl h) = rw (of_ge f.at g.at (omega arith), differs f.at g.at (omega arith)) refl
of_behind f g (inr h) = rw (of_ge f.at g.at (omega (arith, h.0)), of_ge f.number g.number h.1) (and_false (f.at == g.at))

before_at : (u v w : Bool) (f g : CheckErr) → nat_lt f.at g.at ≡ u → (f.at == g.at) ≡ v → nat_lt f.number g.number ≡ w → (u || (v && w)) ≡ true → Behind g f
before_at true v w f g a b d e = inl (lt_of _ _ a)
before_at false true true f g a b d e = inr (eq_of _ _ b, less_le _ _ (lt_of _ _ d))
before_at false true false f g a b d e = absurd (true_false (sym e))
before_at false false w f g a b d e = absurd (true_false (sym e))

before_of : (f g : CheckErr) → precedes f g ≡ true → Behind g f
before_of f g e = before_at (nat_lt f.at g.at) (f.at == g.at) (nat_lt f.number g.number) f g refl refl refl e

pub behind_trans : (f g h : CheckErr) → Behind f g → Behind g h → Behind f h
behind_trans f g h (inl a) (inl b) = inl (omega arith)
behind_trans f g h (inl a) (inr b) = inl (omega (arith, b.0))
behind_trans f g h (inr a) (inl b) = inl (omega (arith, a.0))
behind_trans f g h (inr a) (inr b) = inr (b.0 ∙ a.0, omega (arith, a.1, b.1))

pub behind_self : (f : CheckErr) → Behind f f
behind_self f = inr (refl, omega arith)

-- the least is in the list or was there before, and nothing of either comes before it
abbrev pub In : Option CheckErr → CheckErr → Type 0
In None f = ⊥
In (Some g) f = g ≡ f

pub record IsLeast (best : Option CheckErr) (fs : List CheckErr) (f : CheckErr) : Type 0 where
  pub from : In best f ⊎ Among f fs
  pub behind : (g : CheckErr) → In best g ⊎ Among g fs → Behind g f

abbrev pub LeastOf : Option CheckErr → List CheckErr → Option CheckErr → Type 0
LeastOf best fs None = (best ≡ None) × (fs ≡ [])
LeastOf best fs (Some f) = IsLeast best fs f

some_none : {f : CheckErr} → Some f ≡ None → ⊥
some_none e = cc

none_among : {f : CheckErr} → Among f [] → ⊥
none_among d = elim d [ ]

along : {f g h : CheckErr} → g ≡ f → Behind g h → Behind f h
along {h = h} e d = subst (λ z. Behind z h) e d

from_none : (f : CheckErr) (fs : List CheckErr) (h : CheckErr) → (f ≡ h) ⊎ Among h fs → ⊥ ⊎ Among h (f ∷ fs)
from_none f fs h (inl e) = inr (subst (λ z. Among z (f ∷ fs)) e here)
from_none f fs h (inr d) = inr (there d)

none_behind : (f : CheckErr) (fs : List CheckErr) (h : CheckErr) → IsLeast (Some f) fs h → (g : CheckErr) → ⊥ ⊎ Among g (f ∷ fs) → Behind g h
none_behind f fs h l g (inl e) = absurd e
none_behind f fs h l _ (inr here) = l.behind f (inl refl)
none_behind f fs h l g (inr (there d)) = l.behind g (inr d)

taken_from : (b f : CheckErr) (fs : List CheckErr) (h : CheckErr) → (f ≡ h) ⊎ Among h fs → (b ≡ h) ⊎ Among h (f ∷ fs)
taken_from b f fs h (inl e) = inr (subst (λ z. Among z (f ∷ fs)) e here)
taken_from b f fs h (inr d) = inr (there d)

taken_behind : (b f : CheckErr) (fs : List CheckErr) (h : CheckErr) → Behind b f → IsLeast (Some f) fs h → (g : CheckErr) → (b ≡ g) ⊎ Among g (f ∷ fs) → Behind g h
taken_behind b f fs h o l g (inl e) = along e (behind_trans b f h o (l.behind f (inl refl)))
taken_behind b f fs h o l _ (inr here) = l.behind f (inl refl)
taken_behind b f fs h o l g (inr (there d)) = l.behind g (inr d)

kept_from : (b f : CheckErr) (fs : List CheckErr) (h : CheckErr) → (b ≡ h) ⊎ Among h fs → (b ≡ h) ⊎ Among h (f ∷ fs)
kept_from b f fs h (inl e) = inl e
kept_from b f fs h (inr d) = inr (there d)

kept_behind : (b f : CheckErr) (fs : List CheckErr) (h : CheckErr) → Behind f b → IsLeast (Some b) fs h → (g : CheckErr) → (b ≡ g) ⊎ Among g (f ∷ fs) → Behind g h
kept_behind b f fs h o l g (inl e) = l.behind g (inl e)
kept_behind b f fs h o l _ (inr here) = behind_trans f b h o (l.behind b (inl refl))
kept_behind b f fs h o l g (inr (there d)) = l.behind g (inr d)

only_behind : (b g : CheckErr) → (b ≡ g) ⊎ Among g [] → Behind g b
only_behind b g (inl e) = along e (behind_self b)
only_behind b g (inr d) = absurd (none_among d)

better_none : (f : CheckErr) (fs : List CheckErr) (r : Option CheckErr) → LeastOf (Some f) fs r → LeastOf None (f ∷ fs) r
better_none f fs None l = absurd (some_none l.0)
better_none f fs (Some h) l = record {
  from = from_none f fs h l.from;
  behind = λ g i. none_behind f fs h l g i;
}

keep_better : (b f : CheckErr) (v : Bool) (fs : List CheckErr) (r : Option CheckErr) → precedes f b ≡ v → LeastOf (if v then Some f else Some b) fs r → LeastOf (Some b) (f ∷ fs) r
keep_better b f true fs None e l = absurd (some_none l.0)
keep_better b f false fs None e l = absurd (some_none l.0)
keep_better b f true fs (Some h) e l = record {
  from = taken_from b f fs h l.from;
  behind = λ g i. taken_behind b f fs h (before_of f b e) l g i;
}
keep_better b f false fs (Some h) e l = record {
  from = kept_from b f fs h l.from;
  behind = λ g i. kept_behind b f fs h (behind_of f b e) l g i;
}

pub least_is : (best : Option CheckErr) (fs : List CheckErr) → LeastOf best fs (least best fs)
least_is None [] = (refl, refl)
least_is (Some b) [] = record { from = inl refl; behind = λ g i. only_behind b g i }
least_is None (f ∷ fs) = better_none f fs (least (Some f) fs) (least_is (Some f) fs)
least_is (Some b) (f ∷ fs) = keep_better b f (precedes f b) fs (least (better (Some b) f) fs) refl (least_is (better (Some b) f) fs)
