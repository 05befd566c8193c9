-- Why a text is no mask (docs/manual/acs-language.md, "Masks").
use Rattle.std.specs.Prelude.{◌≡◌, ◌<◌, ◌+◌, ◌-◌, ◌==◌, ◌&&◌, ◌||◌, ℕ, zero, suc, Bool, true, false, not, List, []}
use Rattle.std.specs.Prelude.{length, nat_le, nat_lt, slice_index, Option, None, Some, is_none, if◌then◌else◌}
use Rattle.desk_common.specs.Exact.{Place, IsFirst}
use Rattle.desk_common.specs.Limits.{most_word_bytes}
use Rattle.desk_common.specs.Bytes.{full_stop, star}
use Rattle.dsn_mask.specs.MaskText.{is_mask_byte}
use Rattle.dsn_mask.specs.declared.mask_err.MaskErr.{MaskErr}
use Rattle.dsn_mask.specs.declared.mask_err.MaskErr.TheVariants.{Empty, TooLong, ThreeStars, StarsNotAlone, BadByte}
use Rattle.dsn_mask.specs.declared.mask_err.MaskErr.TheVariants.{EmptyPiece}

-- a star stands at the place
abbrev pub is_star_at : List ℕ → ℕ → Bool
is_star_at bytes at = slice_index bytes at == star

-- so many bytes before the place stands a star
abbrev pub is_star_before : List ℕ → ℕ → ℕ → Bool
is_star_before bytes at back = nat_le back at && is_star_at bytes (at - back)

-- the third star of a run
abbrev pub is_third_star : List ℕ → ℕ → Bool
is_third_star bytes at =
    is_star_at bytes at && (is_star_before bytes at 1 && (is_star_before bytes at 2 && not (is_star_before bytes at 3)))

-- the first star of a run of exactly two
abbrev pub is_first_of_two : List ℕ → ℕ → Bool
is_first_of_two bytes at =
    is_star_at bytes at && (is_star_at bytes (at + 1) &&
    (not (is_star_at bytes (at + 2)) && not (is_star_before bytes at 1)))

-- at the text's front or behind a full stop
abbrev pub opens_qualifier : List ℕ → ℕ → Bool
opens_qualifier bytes at = at == 0 || slice_index bytes (at - 1) == full_stop

-- at the text's end or before a full stop
abbrev pub closes_qualifier : List ℕ → ℕ → Bool
closes_qualifier bytes at = at == length bytes || slice_index bytes at == full_stop

-- two stars that may not stand there; in a dotted text they may be a whole qualifier
abbrev pub is_misplaced_pair : Bool → List ℕ → ℕ → Bool
is_misplaced_pair dotted bytes at =
    is_first_of_two bytes at && not (dotted && (opens_qualifier bytes at && closes_qualifier bytes (at + 2)))

-- a byte that no mask has
abbrev pub is_bad_byte_at : List ℕ → ℕ → Bool
is_bad_byte_at bytes at = nat_lt at (length bytes) && not (is_mask_byte (slice_index bytes at))

-- a full stop that opens the text, follows another or ends the text
abbrev pub is_stray_stop : List ℕ → ℕ → Bool
is_stray_stop bytes at = slice_index bytes at == full_stop && (opens_qualifier bytes at || at + 1 == length bytes)

-- a fault of a text that is to be a mask (dotted) or a simple mask
abbrev pub IsFault : Bool → List ℕ → MaskErr → Type 0
IsFault dotted bytes Empty = bytes ≡ []
IsFault dotted bytes TooLong = most_word_bytes < length bytes
IsFault dotted bytes (ThreeStars at) = is_third_star bytes at ≡ true
IsFault dotted bytes (StarsNotAlone at) = is_misplaced_pair dotted bytes at ≡ true
IsFault dotted bytes (BadByte at) = is_bad_byte_at bytes at ≡ true
IsFault dotted bytes (EmptyPiece at) = (dotted && is_stray_stop bytes at) ≡ true

-- where a fault is met, and its rank there; an empty or too long text has it at the front, before all others
abbrev pub place_of : MaskErr → Place
place_of Empty = record { at = 0; rank = 1 }
place_of TooLong = record { at = 0; rank = 2 }
place_of (ThreeStars at) = record { at = at; rank = 3 }
place_of (StarsNotAlone at) = record { at = at; rank = 4 }
place_of (BadByte at) = record { at = at; rank = 5 }
place_of (EmptyPiece at) = record { at = at; rank = 6 }

-- the first fault of a text that is to be a mask (dotted) or a simple mask
abbrev pub IsFirstFault : Bool → List ℕ → MaskErr → Type 0
IsFirstFault dotted bytes err = IsFirst (IsFault dotted bytes) place_of err

-- the first fault of a text that is to be a mask
abbrev pub IsFirstMaskFault : List ℕ → MaskErr → Type 0
IsFirstMaskFault bytes err = IsFirstFault true bytes err

-- the first fault of a text that is to be a simple mask
abbrev pub IsFirstSimpleFault : List ℕ → MaskErr → Type 0
IsFirstSimpleFault bytes err = IsFirstFault false bytes err

-- the same as tests

-- the fault of the first of four tests that holds, at this place
abbrev pub fault_by : Bool → Bool → Bool → Bool → ℕ → Option MaskErr
fault_by third pair bad stray at =
    if third then Some (ThreeStars at) else if pair then Some (StarsNotAlone at)
    else if bad then Some (BadByte at) else if stray then Some (EmptyPiece at) else None

-- the fault at a place, if any
abbrev pub fault_at : Bool → List ℕ → ℕ → Option MaskErr
fault_at dotted bytes at =
    fault_by (is_third_star bytes at) (is_misplaced_pair dotted bytes at) (is_bad_byte_at bytes at)
    (dotted && is_stray_stop bytes at) at

-- no fault at the first so many places
abbrev pub is_clear_below : Bool → List ℕ → ℕ → Bool
is_clear_below dotted bytes zero = true
is_clear_below dotted bytes (suc at) = is_clear_below dotted bytes at && is_none (fault_at dotted bytes at)

-- at least one byte, no more than a mask may have, and no fault at any place
abbrev pub has_no_fault : Bool → List ℕ → Bool
has_no_fault dotted bytes =
    nat_le 1 (length bytes) && (nat_le (length bytes) most_word_bytes && is_clear_below dotted bytes (length bytes))
