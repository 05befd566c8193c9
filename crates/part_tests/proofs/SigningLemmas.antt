-- A list of signed entries with one more.
use Rattle.std.proofs.Common.{◌≡◌, ℕ, Bool, true, false, if◌then◌else◌, List, [], ◌∷◌, ◌++◌, map, append-nil, refl, sym}
use Rattle.std.proofs.Common.{ap, ◌∙◌}
use Rattle.std.proofs.lemmas.List.{map-append}
use Rattle.turn_lock.specs.declared.signed.Signed.{Signed}
use Rattle.part_tests.specs.Signing.{signed, GrewBy}

pub grew : (added : Bool) (by entry : ℕ) (old new : List (ℕ × ℕ)) (seen : List (Signed ℕ)) → map signed old ≡ seen
    → new ≡ (if added then old ++ (by, entry) ∷ [] else old) → GrewBy by seen (map signed new)
grew true by entry old new seen was is =
    (signed (by, entry) ∷ [], ap (map signed) is ∙ map-append signed old ((by, entry) ∷ []) ∙ ap (λ xs. xs ++ signed (by, entry) ∷ []) was, (refl, tt))
grew false by entry old new seen was is = ([], ap (map signed) is ∙ was ∙ sym (append-nil seen), tt)
