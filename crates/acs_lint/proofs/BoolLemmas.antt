-- Tests that pass.
use Rattle.std.proofs.Common.{◌≡◌, ◌&&◌, ◌||◌, ℕ, Bool, true, false, not, List, bytes_eq, refl, sym, ap, ◌∙◌, subst}
use Rattle.std.specs.Prelude.{if◌then◌else◌}
use Rattle.std.proofs.lemmas.Slice.Eq.{bytes_eq-Decides}

clash : false ≡ true → ⊥
clash e = cc

pub never : {Q : Type 0} → false ≡ true → Q
never e = absurd (clash e)

pub left_of : (a b : Bool) → (a && b) ≡ true → a ≡ true
left_of true b h = refl
left_of false b h = h

pub right_of : (a b : Bool) → (a && b) ≡ true → b ≡ true
right_of true b h = h
right_of false b h = never h

pub both_of : (a b : Bool) → a ≡ true → b ≡ true → (a && b) ≡ true
both_of a b e f = ap (λ (t : Bool). t && b) e ∙ f

pub either_of : (a b : Bool) {Q : Type 0} → (a || b) ≡ true → (a ≡ true → Q) → (b ≡ true → Q) → Q
either_of true b h f g = f refl
either_of false b h f g = g h

pub on_left : (a b : Bool) → a ≡ true → (a || b) ≡ true
on_left a b e = ap (λ (t : Bool). t || b) e

pub on_right : (a b : Bool) → b ≡ true → (a || b) ≡ true
on_right true b e = refl
on_right false b e = e

pub unless : (a b : Bool) → (b ≡ true → a ≡ true) → not a ≡ true → not b ≡ true
unless a true f h = sym (ap not (f refl)) ∙ h
unless a false f h = refl

pub off_left : (a b : Bool) → (a || b) ≡ false → a ≡ false
off_left true b h = h
off_left false b h = refl

pub off_right : (a b : Bool) → (a || b) ≡ false → b ≡ false
off_right true b h = absurd cc
off_right false b h = h

-- the same bytes
pub same_text : (one other : List ℕ) → bytes_eq one other ≡ true → one ≡ other
same_text one other e = (bytes_eq-Decides one other).0 e
