-- A list of names with one more.
use Rattle.std.proofs.Common.{◌≡◌, ◌<◌, ◌+◌, ◌-◌, ℕ, suc, List, [], ◌∷◌, ◌++◌, length, take, refl, sym, inl, inr}
use Rattle.std.proofs.Common.{append_assoc, length-append, arith}
use Rattle.std.specs.Prelude.{Contains}
use Rattle.std.proofs.Math.ListN.{set}
use Rattle.std.proofs.Math.Seq.{take-append_seam, set-append_seam}
use Rattle.std.proofs.lemmas.List.Elements.{Contains-push_cases}
use Rattle.dsn_mask.specs.Names.{NoneTwice, AreFewAndOnce, filled}

-- the facts that the fields keep
kept : (names items : List (List ℕ)) (count : ℕ) → count ≡ length names → items ≡ filled names → AreFewAndOnce names
    → (count ≡ length (take count items)) × (items ≡ filled (take count items)) × AreFewAndOnce (take count items)
kept names items count counted same are =
    let front : take count items ≡ names = rw (counted, same) (take-append_seam names _) in
    (rw (front, counted) refl, rw (front, same) refl, rw front are)

put : (names : List (List ℕ)) (name : List ℕ) → length names < 15 → set (filled names) (length names) name ≡ filled (names ++ name ∷ [])
put names name less =
    let more : 15 - length names ≡ suc (15 - length (names ++ name ∷ [])) = rw length-append (omega arith) in
    rw (more, set-append_seam, append_assoc) refl

put_at : (items : List (List ℕ)) (count : ℕ) (name : List ℕ) (names : List (List ℕ)) → count ≡ length names → items ≡ filled names → count < 15 → set items count name ≡ filled (names ++ name ∷ [])
put_at items count name names counted same less =
    let short : length names < 15 = omega arith in
    rw (same, counted) (put names name short)

nothing : (name : List ℕ) → Contains [] name → ⊥
nothing name found = let less = found.1 in omega arith

at_front : (y name : List ℕ) (ys : List (List ℕ)) → name ≡ y → Contains (y ∷ ys) name
at_front y name ys same = (0, omega arith, sym same)

behind_front : (y name : List ℕ) (ys : List (List ℕ)) → Contains ys name → Contains (y ∷ ys) name
behind_front y name ys found = (suc found.0, (let less = found.1 in omega arith), found.2)

once_pushed : (names : List (List ℕ)) (name : List ℕ) → NoneTwice names → (Contains names name → ⊥) → NoneTwice (names ++ name ∷ [])
once_pushed [] name once new = (nothing name, tt)
once_pushed (y ∷ ys) name once new = (
  λ found. elim (Contains-push_cases ys name y found) [ inl old ↦ once.0 old | inr same ↦ new (at_front y name ys same) ],
  once_pushed ys name once.1 (λ found. new (behind_front y name ys found)),
)

pub pushed : (items : List (List ℕ)) (count : ℕ) (name : List ℕ) → count ≡ length (take count items) → items ≡ filled (take count items) → AreFewAndOnce (take count items)
    → count < 15 → (Contains (take count items) name → ⊥)
    → (count + 1 ≡ length (take (count + 1) (set items count name))) × (set items count name ≡ filled (take (count + 1) (set items count name))) × AreFewAndOnce (take (count + 1) (set items count name))
pushed items count name counted same are less new =
    let names : List (List ℕ) = take count items in
    let one_more : count + 1 ≡ length (names ++ name ∷ []) = rw length-append (omega arith) in
    let after : set items count name ≡ filled (names ++ name ∷ []) = put_at items count name names counted same less in
    kept (names ++ name ∷ []) _ _ one_more after (record { few = omega arith; once = once_pushed names name are.once new })
