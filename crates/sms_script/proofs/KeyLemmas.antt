-- A key cut behind a name.
use Rattle.std.proofs.Common.{◌≡◌, ℕ, Bool, true, false, List, [], ◌∷◌, ◌++◌, length, take, drop, refl}
use Rattle.std.specs.Prelude.{◌==◌, ◌&&◌, bytes_eq}

grouped : (first : Bool) (second third : Bool) → (first && (second && third)) ≡ ((first && second) && third)
grouped true second third = refl
grouped false second third = refl

-- a text is two parts where its front is the one and what is behind it the other
pub key_is : (name key end : List ℕ) → bytes_eq key (name ++ end) ≡ (bytes_eq (take (length name) key) name && bytes_eq (drop (length name) key) end)
key_is [] key end = refl
key_is (byte ∷ name) [] end = refl
key_is (byte ∷ name) (other ∷ key) end = rw (key_is name key end) (grouped (other == byte) (bytes_eq (take (length name) key) name) (bytes_eq (drop (length name) key) end))
