-- A list in an array of a fixed size, with one more.
use Rattle.std.proofs.Common.{◌≡◌, ◌≤◌, ◌<◌, ◌+◌, ◌-◌, ℕ, suc, List, [], ◌∷◌, ◌++◌, length, take, refl, append_assoc}
use Rattle.std.proofs.Common.{length-append, arith}
use Rattle.std.proofs.Math.ListN.{set}
use Rattle.std.proofs.Math.Seq.{take-append_seam, set-append_seam}
use Rattle.acs_tree.specs.Inner.Lists.{filled}

module _ (size : ℕ) (filler : List ℕ) where
  kept : (xs items : List (List ℕ)) (count : ℕ) → count ≡ length xs → items ≡ filled size filler xs → length xs ≤ size
      → (count ≡ length (take count items)) × (items ≡ filled size filler (take count items)) × (length (take count items) ≤ size)
  kept xs items count counted same few =
      let front : take count items ≡ xs = rw (counted, same) (take-append_seam xs _) in
      (rw (front, counted) refl, rw (front, same) refl, rw front few)

  put : (xs : List (List ℕ)) (x : List ℕ) → length xs < size → set (filled size filler xs) (length xs) x ≡ filled size filler (xs ++ x ∷ [])
  put xs x less =
      let more : size - length xs ≡ suc (size - length (xs ++ x ∷ [])) = rw length-append (omega arith) in
      rw (more, set-append_seam, append_assoc) refl

  put_at : (items : List (List ℕ)) (count : ℕ) (x : List ℕ) (xs : List (List ℕ)) → count ≡ length xs → items ≡ filled size filler xs → count < size → set items count x ≡ filled size filler (xs ++ x ∷ [])
  put_at items count x xs counted same less =
      let short : length xs < size = omega arith in
      rw (same, counted) (put xs x short)

  pub pushed : (items : List (List ℕ)) (count : ℕ) (x : List ℕ) → count ≡ length (take count items) → items ≡ filled size filler (take count items) → length (take count items) < size
      → (count + 1 ≡ length (take (count + 1) (set items count x))) × (set items count x ≡ filled size filler (take (count + 1) (set items count x))) × (length (take (count + 1) (set items count x)) ≤ size)
  pushed items count x counted same less =
      let xs : List (List ℕ) = take count items in
      let one_more : count + 1 ≡ length (xs ++ x ∷ []) = rw length-append (omega arith) in
      let after : set items count x ≡ filled size filler (xs ++ x ∷ []) = put_at items count x xs counted same (omega arith) in
      kept (xs ++ x ∷ []) _ _ one_more after (omega (arith, one_more, counted, less))
