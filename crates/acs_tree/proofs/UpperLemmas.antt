-- A text in upper case has no small letter, and one with none is its own in upper case.
use Rattle.std.proofs.Common.{◌≡◌, ◌≤◌, ℕ, Bool, true, false, List, [], ◌∷◌, length, map, refl, sym, subst, arith}
use Rattle.std.proofs.lemmas.Grind.{common_steps}
use Rattle.std.proofs.lemmas.List.Sums.{AllPass-from_list_all}
use Rattle.std.proofs.lemmas.Bool.Decides.{nat_tests}
use Rattle.std.specs.Prelude.{◌&&◌}
use Rattle.std.specs.Char.{to_ascii_uppercase}
use Rattle.std.specs.List.{list_all}
use Rattle.std.specs.Str.{str_to_ascii_uppercase}
use Rattle.acs_tree.specs.Ident.{is_upper_byte, IsIdent}

upper_byte : (c : ℕ) → is_upper_byte (to_ascii_uppercase c) ≡ true
upper_byte c = grind (arith, nat_tests)

all_upper : (bytes : List ℕ) → list_all is_upper_byte (map to_ascii_uppercase bytes) ≡ true
all_upper [] = refl
all_upper (b ∷ bytes) = rw (upper_byte b) (all_upper bytes)

pub upper_is_ident : (text bytes : List ℕ) → text ≡ str_to_ascii_uppercase bytes → length bytes ≤ 64 → IsIdent text
upper_is_ident text bytes e h =
    let fits : length (map to_ascii_uppercase bytes) ≤ 64 = grind (arith, common_steps) in
    subst IsIdent (sym e) (fits, AllPass-from_list_all is_upper_byte (map to_ascii_uppercase bytes) (all_upper bytes))

byte_stays : (b : ℕ) → is_upper_byte b ≡ true → to_ascii_uppercase b ≡ b
byte_stays b e = grind (arith, nat_tests)

both : (v w : Bool) → (v && w) ≡ true → (v ≡ true) × (w ≡ true)
both true w e = (refl, e)
both false w e = absurd (cc)

pub upper_stays : (text : List ℕ) → list_all is_upper_byte text ≡ true → str_to_ascii_uppercase text ≡ text
upper_stays [] e = refl
upper_stays (b ∷ text) e =
    let parts = both (is_upper_byte b) (list_all is_upper_byte text) e in
    let first : to_ascii_uppercase b ≡ b = byte_stays b parts.0 in
    let others : str_to_ascii_uppercase text ≡ text = upper_stays text parts.1 in
    rw (first, others) refl
