-- Why a text is no data set name.
use Rattle.std.specs.Prelude.{◌≡◌, ◌≤◌, ◌<◌, ◌+◌, ℕ, false, List, [], ◌∷◌, length, slice_index}
use Rattle.desk_common.specs.Exact.{Place, IsFirst}
use Rattle.desk_common.specs.Limits.{most_name_bytes, most_value_bytes}
use Rattle.dsn_mask.specs.Name.{is_initial}
use Rattle.dsn_mask.specs.Qualifiers.{qualifiers_of}
use Rattle.dsn_mask.specs.DataSetName.{is_qualifier_byte}
use Rattle.dsn_mask.specs.declared.name_err.NameErr.{NameErr}
use Rattle.dsn_mask.specs.declared.name_err.NameErr.TheVariants.{Empty, TooLong, BadQualifier, BadByte}

-- a fault of the qualifier that begins at a place and has a number, with the place where it is met
pub data QualifierFault (start number : ℕ) (qualifier : List ℕ) : ℕ → NameErr → Type 0 where
  empty : qualifier ≡ [] → QualifierFault start number qualifier start (BadQualifier number)
  ninth_byte : most_name_bytes < length qualifier →
      QualifierFault start number qualifier (start + most_name_bytes) (BadQualifier number)
  bad_first : 0 < length qualifier → is_initial (slice_index qualifier 0) ≡ false →
      QualifierFault start number qualifier start (BadByte start)
  bad_later : {i : ℕ} → 0 < i → i < length qualifier → is_qualifier_byte (slice_index qualifier i) ≡ false →
      QualifierFault start number qualifier (start + i) (BadByte (start + i))

-- a fault of one of the qualifiers, each a full stop behind the one before
pub data NameFault : ℕ → ℕ → List (List ℕ) → ℕ → NameErr → Type 0 where
  here : {start number place : ℕ} {qualifier : List ℕ} {others : List (List ℕ)} {err : NameErr} →
      QualifierFault start number qualifier place err → NameFault start number (qualifier ∷ others) place err
  behind : {start number place : ℕ} {qualifier : List ℕ} {others : List (List ℕ)} {err : NameErr} →
      NameFault (start + length qualifier + 1) (number + 1) others place err →
      NameFault start number (qualifier ∷ others) place err

-- the order of the refusals
abbrev pub rank : NameErr → ℕ
rank Empty = 1
rank TooLong = 2
rank (BadQualifier number) = 3
rank (BadByte at) = 4

-- the place that stands beside a fault, and the rank of the fault there
abbrev pub place_of : ℕ × NameErr → Place
place_of found = record { at = found.0; rank = rank found.1 }

-- the first of all faults of the qualifiers
pub record IsFirstAmong (start number : ℕ) (qualifiers : List (List ℕ)) (err : NameErr) : Type 0 where
  pub place : ℕ
  pub is : IsFirst (λ (found : ℕ × NameErr). NameFault start number qualifiers found.0 found.1) place_of (place, err)

-- the first fault of a text
abbrev pub IsFirstNameFault : List ℕ → NameErr → Type 0
IsFirstNameFault bytes Empty = bytes ≡ []
IsFirstNameFault bytes TooLong = most_value_bytes < length bytes
IsFirstNameFault bytes (BadQualifier number) =
    (1 ≤ length bytes) × (length bytes ≤ most_value_bytes) ×
    IsFirstAmong 0 1 (qualifiers_of bytes) (BadQualifier number)
IsFirstNameFault bytes (BadByte at) =
    (1 ≤ length bytes) × (length bytes ≤ most_value_bytes) × IsFirstAmong 0 1 (qualifiers_of bytes) (BadByte at)

-- the first of all faults of one qualifier
pub record IsFirstIn (start number : ℕ) (qualifier : List ℕ) (err : NameErr) : Type 0 where
  pub place : ℕ
  pub is :
      IsFirst (λ (found : ℕ × NameErr). QualifierFault start number qualifier found.0 found.1) place_of (place, err)
