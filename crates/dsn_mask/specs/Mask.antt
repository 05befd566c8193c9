-- What a mask fits (docs/manual/acs-language.md, "Masks").
use Rattle.std.specs.Prelude.{◌≢◌, ℕ, List, [], ◌∷◌}
use Rattle.desk_common.specs.Bytes.{star}
use Rattle.dsn_mask.specs.Qualifiers.{qualifiers_of}

-- what is left of a list from some place on
pub data IsSuffix {I : Type 0} : List I → List I → Type 0 where
  whole : {items : List I} → IsSuffix items items
  behind : {item : I} {rest items : List I} → IsSuffix rest items → IsSuffix rest (item ∷ items)

-- a piece against bytes: a star stands for zero or more bytes, `%` (37) for one, another byte for itself
pub data PieceFits : List ℕ → List ℕ → Type 0 where
  no_bytes : PieceFits [] []
  any_bytes : {piece rest bytes : List ℕ} → IsSuffix rest bytes → PieceFits piece rest → PieceFits (star ∷ piece) bytes
  any_byte : {byte : ℕ} {piece bytes : List ℕ} → PieceFits piece bytes → PieceFits (37 ∷ piece) (byte ∷ bytes)
  same_byte : {byte : ℕ} {piece bytes : List ℕ} → byte ≢ star → byte ≢ 37 → PieceFits piece bytes →
      PieceFits (byte ∷ piece) (byte ∷ bytes)

-- the qualifier `**`
abbrev pub two_stars : List ℕ
two_stars = star ∷ star ∷ []

-- the qualifiers of a mask against those of a value: `**` stands for zero or more of them, another piece for one that
-- it fits
pub data QualifiersFit : List (List ℕ) → List (List ℕ) → Type 0 where
  no_qualifiers : QualifiersFit [] []
  any_qualifiers : {pieces rest qualifiers : List (List ℕ)} → IsSuffix rest qualifiers → QualifiersFit pieces rest →
      QualifiersFit (two_stars ∷ pieces) qualifiers
  one_qualifier : {piece qualifier : List ℕ} {pieces qualifiers : List (List ℕ)} → piece ≢ two_stars →
      PieceFits piece qualifier → QualifiersFit pieces qualifiers →
      QualifiersFit (piece ∷ pieces) (qualifier ∷ qualifiers)

-- a mask against a value, both split at their full stops
abbrev pub MaskFits : List ℕ → List ℕ → Type 0
MaskFits mask value = QualifiersFit (qualifiers_of mask) (qualifiers_of value)

-- a simple mask is one piece over the whole value, in which a full stop stands for itself
abbrev pub SimpleFits : List ℕ → List ℕ → Type 0
SimpleFits simple value = PieceFits simple value
