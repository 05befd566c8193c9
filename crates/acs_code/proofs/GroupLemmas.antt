-- A name that SET adds to the groups.
use Rattle.std.proofs.Common.{◌≡◌, ◌<◌, ◌&&◌, ℕ, Bool, true, false, List, length, refl, ap, ◌∙◌}
use Rattle.std.specs.Prelude.{IsTrue, Contains, Some, None, nat_lt, not, bytes_eq, if◌then◌else◌}
use Rattle.std.specs.List.{list_any}
use Rattle.std.proofs.lemmas.Bool.{lt-ltb}
use Rattle.std.proofs.lemmas.Cmp.{nat_list_eq_equiv}
use Rattle.std.proofs.lemmas.Map.Views.{list_any-from_Contains, Contains-from_any}
use Rattle.std.proofs.lemmas.Slice.Eq.{bytes_eq-Decides}
use Rattle.dsn_mask.specs.Name.{is_name, name_of}
use Rattle.acs_tree.specs.Setting.{is_new_group}

no_truth : (a b : Bool) → a && (b && false) ≡ false
no_truth true true = refl
no_truth true false = refl
no_truth false b = refl

pub held : (groups : List (List ℕ)) (name : List ℕ) → Contains groups name → is_new_group groups name ≡ false
held groups name among =
    ap (λ b. nat_lt (length groups) 15 && (is_name name && not b)) (list_any-from_Contains nat_list_eq_equiv name groups among) ∙ no_truth (nat_lt (length groups) 15) (is_name name)

is_one : (b : Bool) (text name : List ℕ) → (if b then Some text else None) ≡ Some name → b ≡ true
is_one true text name e = refl
is_one false text name e = cc

absent : (groups : List (List ℕ)) (name : List ℕ) (b : Bool) → list_any (bytes_eq name) groups ≡ b → (Contains groups name → ⊥) → b ≡ false
absent groups name true e h = absurd (h (Contains-from_any (λ x y same. (bytes_eq-Decides x y).0 same) name groups e))
absent groups name false e h = refl

pub added : (groups : List (List ℕ)) (text name : List ℕ) → name_of text ≡ Some name → length groups < 15 → (Contains groups text → ⊥) → is_new_group groups text ≡ true
added groups text name e less h =
    ap (λ b. b && (is_name text && not (list_any (bytes_eq text) groups))) (lt-ltb (length groups) 15 less)
    ∙ ap (λ b. b && not (list_any (bytes_eq text) groups)) (is_one (is_name text) text name e)
    ∙ ap not (absent groups text (list_any (bytes_eq text) groups) refl h)

pub not_false : IsTrue false → ⊥
not_false e = cc
