-- Names that are equal as bytes.
use Rattle.std.proofs.Common.{◌≡◌, ℕ, Bool, true, false, List, refl, sym, ◌∙◌}
use Rattle.std.specs.Prelude.{bytes_eq}
use Rattle.std.proofs.lemmas.Slice.Eq.{bytes_eq-Decides}

pub same-bytes : (a b : List ℕ) → bytes_eq a b ≡ true → a ≡ b
same-bytes a b is = (bytes_eq-Decides a b).0 is

pub bytes-self : (a : List ℕ) → bytes_eq a a ≡ true
bytes-self a = (bytes_eq-Decides a a).1 refl

pub bytes-same : (a b : List ℕ) → a ≡ b → bytes_eq a b ≡ true
bytes-same a b is = (bytes_eq-Decides a b).1 is

turned-at : (a b : List ℕ) (c : Bool) → bytes_eq b a ≡ c → bytes_eq a b ≡ false → bytes_eq b a ≡ false
turned-at a b true is off =
    let on : bytes_eq a b ≡ true = bytes-same a b (sym (same-bytes b a is)) in
    let now : true ≡ false = sym on ∙ off in absurd cc
turned-at a b false is off = is

-- what differs one way differs the other
pub bytes-turned : (a b : List ℕ) → bytes_eq a b ≡ false → bytes_eq b a ≡ false
bytes-turned a b off = turned-at a b _ refl off
