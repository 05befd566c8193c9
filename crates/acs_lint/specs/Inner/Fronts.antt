-- What a walk of a mask over another sees at the front of what is left.
use Rattle.std.specs.Prelude.{◌≡◌, ℕ, Bool, true, false, List, [], ◌∷◌, option_copied}
use Rattle.dsn_mask.specs.Qualifiers.{qualifiers_left}
use Rattle.dsn_mask.specs.MaskTest.{fits_items, is_star, is_two_stars}
use Rattle.acs_trace.specs.Lint.{covers_byte, piece_covers, qualifier_covers}
use Rattle.acs_lint.specs.declared.piece_covering.ByteFront.{ByteFront}
use Rattle.acs_lint.specs.declared.piece_covering.ByteFront.TheVariants as bytes
use Rattle.acs_lint.specs.declared.mask_covering.QualifierFront.{QualifierFront}
use Rattle.acs_lint.specs.declared.mask_covering.QualifierFront.TheVariants as pieces

-- of a piece and another
abbrev pub IsByteFront : List ℕ → List ℕ → ByteFront → Type 0
IsByteFront piece other (bytes.Star rest) = (symbol : ℕ) × (is_star symbol ≡ true) × (piece ≡ symbol ∷ rest.now)
IsByteFront piece other (bytes.Pair rest others) =
    (symbol : ℕ) × (byte : ℕ) × (is_star symbol ≡ false) × (covers_byte symbol byte ≡ true) ×
    (piece ≡ symbol ∷ rest.now) × (other ≡ byte ∷ others.now)
IsByteFront piece other bytes.Ends = (piece ≡ []) × (other ≡ [])
IsByteFront piece other bytes.Stuck = piece_covers piece other ≡ false

-- the qualifiers of a mask cover others
abbrev pub qualifiers_cover : List (List ℕ) → List (List ℕ) → Bool
qualifiers_cover pieces others = fits_items is_two_stars qualifier_covers pieces others

-- of the qualifiers of a mask and those of another
abbrev pub IsQualifierFront : List (List ℕ) → List (List ℕ) → QualifierFront → Type 0
IsQualifierFront mask other (pieces.Stars rest) =
    (piece : List ℕ) × (is_two_stars piece ≡ true) × (mask ≡ piece ∷ qualifiers_left (option_copied rest))
IsQualifierFront mask other (pieces.Pair rest others) =
    (piece : List ℕ) × (qualifier : List ℕ) × (is_two_stars piece ≡ false) × (qualifier_covers piece qualifier ≡ true) ×
    (mask ≡ piece ∷ qualifiers_left (option_copied rest)) × (other ≡ qualifier ∷ qualifiers_left (option_copied others))
IsQualifierFront mask other pieces.Ends = (mask ≡ []) × (other ≡ [])
IsQualifierFront mask other pieces.Stuck = qualifiers_cover mask other ≡ false
