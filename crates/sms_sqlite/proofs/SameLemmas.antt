-- The test holds exactly of equal values.
use Rattle.std.proofs.Common.{◌≡◌, Bool, true, false, ◌&&◌, refl, ap, ap₂, eq-eqb}
use Rattle.std.proofs.lemmas.Bool.{eqb-true}
use base.Stored.{Coded, Gv, gnil, gnum, gcons}
use Rattle.sms_sqlite.specs.Same.{is_same, same_code}

pub and_parts : (a b : Bool) → (a && b) ≡ true → (a ≡ true) × (b ≡ true)
and_parts true true e = (refl, refl)
and_parts true false e = absurd cc
and_parts false b e = absurd cc

pub and_true : (a b : Bool) → a ≡ true → b ≡ true → (a && b) ≡ true
and_true a b ha hb = rw (ha, hb) refl

code_is : (a b : Gv) → same_code a b ≡ true → a ≡ b
code_is gnil gnil e = refl
code_is gnil (gnum n) e = absurd cc
code_is gnil (gcons c d) e = absurd cc
code_is (gnum m) gnil e = absurd cc
code_is (gnum m) (gnum n) e = ap gnum (eqb-true m n e)
code_is (gnum m) (gcons c d) e = absurd cc
code_is (gcons a b) gnil e = absurd cc
code_is (gcons a b) (gnum n) e = absurd cc
code_is (gcons a b) (gcons c d) e = let p = and_parts (same_code a c) (same_code b d) e in ap₂ gcons (code_is a c p.0) (code_is b d p.1)

code_self : (a : Gv) → same_code a a ≡ true
code_self gnil = refl
code_self (gnum n) = eq-eqb n n refl
code_self (gcons a b) = and_true (same_code a a) (same_code b b) (code_self a) (code_self b)

pub same_is : {A : Type 0} (coded : Coded A) (x y : A) → is_same coded x y ≡ true → x ≡ y
same_is coded x y e = coded.inj x y (code_is (coded.code x) (coded.code y) e)

pub same_self : {A : Type 0} (coded : Coded A) (x : A) → is_same coded x x ≡ true
same_self coded x = code_self (coded.code x)
