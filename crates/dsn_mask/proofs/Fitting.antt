-- The tests of what a mask fits are the relations.
use Rattle.std.proofs.Common.{Bool, ◌≡◌, ◌≢◌, ℕ, true, false, List, [], ◌∷◌, refl, sym, ◌∙◌, subst}
use Rattle.std.specs.Prelude.{◌==◌, ◌||◌, ◌↔◌, IsTrue, if◌then◌else◌}
use Rattle.std.proofs.lemmas.Bool.{eqb-true}
use Rattle.dsn_mask.specs.Mask.{IsSuffix, whole, behind, PieceFits, no_bytes, any_bytes, any_byte, same_byte, two_stars}
use Rattle.dsn_mask.specs.Mask.{QualifiersFit, no_qualifiers, any_qualifiers, one_qualifier, MaskFits}
use Rattle.dsn_mask.specs.MaskTest.{passes_behind, passes_somewhere, takes_first, takes_byte, piece_fits, is_two_stars}
use Rattle.dsn_mask.specs.MaskTest.{qualifiers_fit, mask_fits}
use Rattle.dsn_mask.proofs.Faults.{both}
use Rattle.dsn_mask.proofs.Greedy.{left_of_or, right_of_or, by_either}
use Rattle.desk_common.proofs.WordLemmas.{agrees, differs}

not_both : false ≡ true → ⊥
not_both e = cc

-- suffixes

suffix_passes : {I : Type 0} (test : List I → Bool) {rest items : List I} → IsSuffix rest items → test rest ≡ true → passes_somewhere test items ≡ true
suffix_passes test {rest} whole e = left_of_or (test rest) (passes_behind test rest) e
suffix_passes test {items = items} (behind d) e = right_of_or (test items) (passes_behind test items) (suffix_passes test d e)

abbrev Found : {I : Type 0} → (List I → Bool) → List I → Type 0
Found {I} test items = (rest : List I) × IsSuffix rest items × (test rest ≡ true)

found_behind : {I : Type 0} (test : List I → Bool) (items : List I) → passes_behind test items ≡ true → Found test items
found_behind test [] e = absurd (not_both e)
found_behind test (x ∷ xs) e = by_either (test xs) (passes_behind test xs) e (λ h. (xs, behind whole, h)) (λ h. let d = found_behind test xs h in (d.0, behind d.1, d.2))

found : {I : Type 0} (test : List I → Bool) (items : List I) → passes_somewhere test items ≡ true → Found test items
found test items e = by_either (test items) (passes_behind test items) e (λ h. (items, whole, h)) (λ h. found_behind test items h)

-- pieces

pub piece_passes : {piece bytes : List ℕ} → PieceFits piece bytes → piece_fits piece bytes ≡ true
piece_passes no_bytes = refl
piece_passes (any_bytes {piece = piece} d f) = suffix_passes (piece_fits piece) d (piece_passes f)
piece_passes (any_byte f) = piece_passes f
piece_passes (same_byte {byte = byte} star percent f) = rw (differs byte 42 star, differs byte 37 percent, agrees byte byte refl) (piece_passes f)

-- a byte that is no star against another
taken : (p x : ℕ) (ps xs : List ℕ) (percent : Bool) → (p == 42) ≡ false → (p == 37) ≡ percent → (percent || (p == x)) ≡ true → PieceFits ps xs → PieceFits (p ∷ ps) (x ∷ xs)
taken p x ps xs true star e t f = subst (λ z. PieceFits (z ∷ ps) (x ∷ xs)) (sym (eqb-true p 37 e)) (any_byte f)
taken p x ps xs false star e t f =
    let same : p ≡ x = eqb-true p x t in
    subst (λ z. PieceFits (p ∷ ps) (z ∷ xs)) same (same_byte (λ h. absurd (not_both (sym star ∙ agrees p 42 h))) (λ h. absurd (not_both (sym e ∙ agrees p 37 h))) f)

of_symbol : (p : ℕ) (ps xs : List ℕ) (star : Bool) → (p == 42) ≡ star → (if star then passes_somewhere (piece_fits ps) xs else takes_first (takes_byte p) (piece_fits ps) xs) ≡ true
    → ((zs : List ℕ) → piece_fits ps zs ≡ true → PieceFits ps zs) → PieceFits (p ∷ ps) xs
of_symbol p ps xs true s e more = let d = found (piece_fits ps) xs e in subst (λ z. PieceFits (z ∷ ps) xs) (sym (eqb-true p 42 s)) (any_bytes d.1 (more d.0 d.2))
of_symbol p ps [] false s e more = absurd (not_both e)
of_symbol p ps (x ∷ xs) false s e more = let parts = both _ _ e in taken p x ps xs (p == 37) s refl parts.0 (more xs parts.1)

pub piece_of : (piece bytes : List ℕ) → piece_fits piece bytes ≡ true → PieceFits piece bytes
piece_of [] [] e = no_bytes
piece_of [] (x ∷ xs) e = absurd (not_both e)
piece_of (p ∷ ps) xs e = of_symbol p ps xs (p == 42) refl e (λ zs h. piece_of ps zs h)

pub piece_law : (piece bytes : List ℕ) (result : Bool) → result ≡ piece_fits piece bytes → IsTrue result ↔ PieceFits piece bytes
piece_law piece bytes true e = (λ h. piece_of piece bytes (sym e), λ f. refl)
piece_law piece bytes false e = (λ h. absurd (not_both h), λ f. absurd (not_both (e ∙ piece_passes f)))

-- qualifiers

pub are_stars : (p : List ℕ) → is_two_stars p ≡ true → p ≡ two_stars
are_stars [] e = absurd (not_both e)
are_stars (a ∷ []) e = absurd (not_both e)
are_stars (a ∷ b ∷ []) e = let parts = both _ _ e in rw (eqb-true a 42 parts.0, eqb-true b 42 parts.1) refl
are_stars (a ∷ b ∷ c ∷ rest) e = absurd (not_both e)

no_stars : (p : List ℕ) (stars : Bool) → is_two_stars p ≡ stars → p ≢ two_stars → is_two_stars p ≡ false
no_stars p true e other = absurd (other (are_stars p e))
no_stars p false e other = e

stars_pass : (p : List ℕ) → p ≡ two_stars → is_two_stars p ≡ true
stars_pass p e = rw e refl

pub qualifiers_pass : {pieces qualifiers : List (List ℕ)} → QualifiersFit pieces qualifiers → qualifiers_fit pieces qualifiers ≡ true
qualifiers_pass no_qualifiers = refl
qualifiers_pass (any_qualifiers {pieces = pieces} d f) = suffix_passes (qualifiers_fit pieces) d (qualifiers_pass f)
qualifiers_pass (one_qualifier {piece = piece} other t f) = rw (no_stars piece _ refl other, piece_passes t) (qualifiers_pass f)

of_piece : (p : List ℕ) (ps xs : List (List ℕ)) (stars : Bool) → is_two_stars p ≡ stars → (if stars then passes_somewhere (qualifiers_fit ps) xs else takes_first (piece_fits p) (qualifiers_fit ps) xs) ≡ true
    → ((zs : List (List ℕ)) → qualifiers_fit ps zs ≡ true → QualifiersFit ps zs) → QualifiersFit (p ∷ ps) xs
of_piece p ps xs true s e more = let d = found (qualifiers_fit ps) xs e in subst (λ z. QualifiersFit (z ∷ ps) xs) (sym (are_stars p s)) (any_qualifiers d.1 (more d.0 d.2))
of_piece p ps [] false s e more = absurd (not_both e)
of_piece p ps (x ∷ xs) false s e more = let parts = both _ _ e in one_qualifier (λ h. absurd (not_both (sym s ∙ stars_pass p h))) (piece_of p x parts.0) (more xs parts.1)

pub qualifiers_from : (pieces qualifiers : List (List ℕ)) → qualifiers_fit pieces qualifiers ≡ true → QualifiersFit pieces qualifiers
qualifiers_from [] [] e = no_qualifiers
qualifiers_from [] (x ∷ xs) e = absurd (not_both e)
qualifiers_from (p ∷ ps) xs e = of_piece p ps xs (is_two_stars p) refl e (λ zs h. qualifiers_from ps zs h)

pub mask_law : (mask value : List ℕ) (result : Bool) → result ≡ mask_fits mask value → IsTrue result ↔ MaskFits mask value
mask_law mask value true e = (λ h. qualifiers_from _ _ (sym e), λ f. refl)
mask_law mask value false e = (λ h. absurd (not_both h), λ f. absurd (not_both (e ∙ qualifiers_pass f)))
