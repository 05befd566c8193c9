-- What a walk over a mask sees at the front of what is left.
use Rattle.std.specs.Prelude.{◌≡◌, ℕ, true, false, List, [], ◌∷◌, option_copied}
use Rattle.dsn_mask.specs.Qualifiers.{qualifiers_left}
use Rattle.dsn_mask.specs.MaskTest.{is_star, takes_byte, is_two_stars, piece_fits, qualifiers_fit}
use Rattle.dsn_mask.specs.declared.piece.ByteFront.{ByteFront}
use Rattle.dsn_mask.specs.declared.piece.ByteFront.TheVariants as bytes
use Rattle.dsn_mask.specs.declared.mask_walk.QualifierFront.{QualifierFront}
use Rattle.dsn_mask.specs.declared.mask_walk.QualifierFront.TheVariants as pieces

-- of a piece and bytes
abbrev pub IsByteFront : List ℕ → List ℕ → ByteFront → Type 0
IsByteFront piece text (bytes.Star rest) = (symbol : ℕ) × (is_star symbol ≡ true) × (piece ≡ symbol ∷ rest.now)
IsByteFront piece text (bytes.Pair rest others) =
    (symbol : ℕ) × (byte : ℕ) × (is_star symbol ≡ false) × (takes_byte symbol byte ≡ true) ×
    (piece ≡ symbol ∷ rest.now) × (text ≡ byte ∷ others.now)
IsByteFront piece text bytes.Ends = (piece ≡ []) × (text ≡ [])
IsByteFront piece text bytes.Stuck = piece_fits piece text ≡ false

-- of the qualifiers of a mask and those of a value
abbrev pub IsQualifierFront : List (List ℕ) → List (List ℕ) → QualifierFront → Type 0
IsQualifierFront mask value (pieces.Stars rest) =
    (piece : List ℕ) × (is_two_stars piece ≡ true) × (mask ≡ piece ∷ qualifiers_left (option_copied rest))
IsQualifierFront mask value (pieces.Pair rest others) =
    (piece : List ℕ) × (qualifier : List ℕ) × (is_two_stars piece ≡ false) × (piece_fits piece qualifier ≡ true) ×
    (mask ≡ piece ∷ qualifiers_left (option_copied rest)) × (value ≡ qualifier ∷ qualifiers_left (option_copied others))
IsQualifierFront mask value pieces.Ends = (mask ≡ []) × (value ≡ [])
IsQualifierFront mask value pieces.Stuck = qualifiers_fit mask value ≡ false
