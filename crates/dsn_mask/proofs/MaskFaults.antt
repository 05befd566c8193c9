-- Faults of the texts of masks, and the first of them.
use Rattle.std.proofs.Common.{Bool, ◌≡◌, ◌≤◌, ◌<◌, ℕ, zero, suc, true, false, List, length, get_or, refl, sym, ◌∙◌, ap}
use Rattle.std.proofs.Common.{subst, arith, inl, inr}
use Rattle.std.specs.Prelude.{◌&&◌, ◌==◌, is_none, Option, Some, None, if◌then◌else◌}
use Rattle.std.proofs.lemmas.Bool.{leb-true, ltb-true, eqb-true}
use Rattle.std.proofs.lemmas.List.{get_or_past}
use Rattle.desk_common.specs.Exact.{NotBehind}
use Rattle.desk_common.proofs.ExactLemmas.{first_at_one}
use Rattle.dsn_mask.specs.MaskFault.{is_third_star, is_misplaced_pair, is_bad_byte_at, is_stray_stop, IsFault, place_of}
use Rattle.dsn_mask.specs.MaskFault.{IsFirstFault, fault_by, fault_at, is_clear_below, has_no_fault}
use Rattle.dsn_mask.specs.declared.mask_err.MaskErr.{MaskErr}
use Rattle.dsn_mask.specs.declared.mask_err.MaskErr.TheVariants.{Empty, TooLong, ThreeStars, StarsNotAlone, BadByte}
use Rattle.dsn_mask.specs.declared.mask_err.MaskErr.TheVariants.{EmptyPiece}
use Rattle.dsn_mask.proofs.Faults.{both, order_of}

same_some : {x y : MaskErr} → Some x ≡ Some y → x ≡ y
same_some e = cc

-- which error the tests of a place choose
abbrev Chosen : Bool → Bool → Bool → Bool → ℕ → MaskErr → Type 0
Chosen third pair bad stray at Empty = ⊥
Chosen third pair bad stray at TooLong = ⊥
Chosen third pair bad stray at (ThreeStars k) = (k ≡ at) × (third ≡ true)
Chosen third pair bad stray at (StarsNotAlone k) = (k ≡ at) × (third ≡ false) × (pair ≡ true)
Chosen third pair bad stray at (BadByte k) = (k ≡ at) × (third ≡ false) × (pair ≡ false) × (bad ≡ true)
Chosen third pair bad stray at (EmptyPiece k) = (k ≡ at) × (third ≡ false) × (pair ≡ false) × (bad ≡ false) × (stray ≡ true)

chosen : (a b c d : Bool) (at : ℕ) (err : MaskErr) → fault_by a b c d at ≡ Some err → Chosen a b c d at err
chosen true b c d at err e = subst (Chosen true b c d at) (same_some e) (refl, refl)
chosen false true c d at err e = subst (Chosen false true c d at) (same_some e) (refl, refl, refl)
chosen false false true d at err e = subst (Chosen false false true d at) (same_some e) (refl, refl, refl, refl)
chosen false false false true at err e = subst (Chosen false false false true at) (same_some e) (refl, refl, refl, refl, refl)
chosen false false false false at err e = absurd (cc)

-- an error whose test passes
abbrev Named : Bool → Bool → Bool → Bool → MaskErr → Type 0
Named third pair bad stray Empty = ⊥
Named third pair bad stray TooLong = ⊥
Named third pair bad stray (ThreeStars k) = third ≡ true
Named third pair bad stray (StarsNotAlone k) = pair ≡ true
Named third pair bad stray (BadByte k) = bad ≡ true
Named third pair bad stray (EmptyPiece k) = stray ≡ true

not_both : false ≡ true → ⊥
not_both e = cc

none_named : (a b c d : Bool) (at : ℕ) (err : MaskErr) → fault_by a b c d at ≡ None → Named a b c d err → ⊥
none_named true b c d at err e named = absurd (cc)
none_named false true c d at err e named = absurd (cc)
none_named false false true d at err e named = absurd (cc)
none_named false false false true at err e named = absurd (cc)
none_named false false false false at Empty e named = named
none_named false false false false at TooLong e named = named
none_named false false false false at (ThreeStars k) e named = not_both named
none_named false false false false at (StarsNotAlone k) e named = not_both named
none_named false false false false at (BadByte k) e named = not_both named
none_named false false false false at (EmptyPiece k) e named = not_both named

-- the lowest number whose test passes
abbrev lowest : Bool → Bool → Bool → ℕ
lowest third pair bad = if third then 3 else if pair then 4 else if bad then 5 else 6

chosen_number : (a b c d : Bool) (at : ℕ) (err : MaskErr) → Chosen a b c d at err → (place_of err).rank ≡ lowest a b c
chosen_number a b c d at Empty m = absurd m
chosen_number a b c d at TooLong m = absurd m
chosen_number a b c d at (ThreeStars k) m = rw m.1 refl
chosen_number a b c d at (StarsNotAlone k) m = rw (m.1, m.2) refl
chosen_number a b c d at (BadByte k) m = rw (m.1, m.2, m.3) refl
chosen_number a b c d at (EmptyPiece k) m = rw (m.1, m.2, m.3) refl

lowest_four : (a c : Bool) → lowest a true c ≤ 4
lowest_four true c = omega arith
lowest_four false c = omega arith

lowest_five : (a b : Bool) → lowest a b true ≤ 5
lowest_five true b = omega arith
lowest_five false true = omega arith
lowest_five false false = omega arith

lowest_six : (a b c : Bool) → lowest a b c ≤ 6
lowest_six true b c = omega arith
lowest_six false true c = omega arith
lowest_six false false true = omega arith
lowest_six false false false = omega arith

named_least : (a b c d : Bool) (err : MaskErr) → Named a b c d err → lowest a b c ≤ (place_of err).rank
named_least a b c d Empty named = absurd named
named_least a b c d TooLong named = absurd named
named_least a b c d (ThreeStars k) named = rw named (omega arith)
named_least a b c d (StarsNotAlone k) named = rw named (lowest_four a c)
named_least a b c d (BadByte k) named = rw named (lowest_five a b)
named_least a b c d (EmptyPiece k) named = lowest_six a b c

chosen_place : (a b c d : Bool) (at : ℕ) (err : MaskErr) → Chosen a b c d at err → (place_of err).at ≡ at
chosen_place a b c d at Empty m = absurd m
chosen_place a b c d at TooLong m = absurd m
chosen_place a b c d at (ThreeStars k) m = m.0
chosen_place a b c d at (StarsNotAlone k) m = m.0
chosen_place a b c d at (BadByte k) m = m.0
chosen_place a b c d at (EmptyPiece k) m = m.0

-- the tests of a text at a place

abbrev ChosenAt : Bool → List ℕ → ℕ → MaskErr → Type 0
ChosenAt dotted bytes at err = Chosen (is_third_star bytes at) (is_misplaced_pair dotted bytes at) (is_bad_byte_at bytes at) (dotted && is_stray_stop bytes at) at err

abbrev NamedAt : Bool → List ℕ → ℕ → MaskErr → Type 0
NamedAt dotted bytes at err = Named (is_third_star bytes at) (is_misplaced_pair dotted bytes at) (is_bad_byte_at bytes at) (dotted && is_stray_stop bytes at) err

along : (test : ℕ → Bool) (k at : ℕ) → k ≡ at → test at ≡ true → test k ≡ true
along test k at same e = ap test same ∙ e

fault_is : (dotted : Bool) (bytes : List ℕ) (at : ℕ) (err : MaskErr) → ChosenAt dotted bytes at err → IsFault dotted bytes err
fault_is dotted bytes at Empty m = absurd m
fault_is dotted bytes at TooLong m = absurd m
fault_is dotted bytes at (ThreeStars k) m = along (is_third_star bytes) k at m.0 m.1
fault_is dotted bytes at (StarsNotAlone k) m = along (is_misplaced_pair dotted bytes) k at m.0 m.2
fault_is dotted bytes at (BadByte k) m = along (is_bad_byte_at bytes) k at m.0 m.3
fault_is dotted bytes at (EmptyPiece k) m = along (λ n. dotted && is_stray_stop bytes n) k at m.0 m.4

-- a text of 1 to 64 bytes has only faults at places
named_at : (dotted : Bool) (bytes : List ℕ) (at : ℕ) (err : MaskErr) → 1 ≤ length bytes → length bytes ≤ 64 → IsFault dotted bytes err → (place_of err).at ≡ at → NamedAt dotted bytes at err
named_at dotted bytes at Empty some short fault same = let none : length bytes ≡ 0 = rw fault refl in omega arith
named_at dotted bytes at TooLong some short fault same = omega arith
named_at dotted bytes at (ThreeStars k) some short fault same = along (is_third_star bytes) at k (sym same) fault
named_at dotted bytes at (StarsNotAlone k) some short fault same = along (is_misplaced_pair dotted bytes) at k (sym same) fault
named_at dotted bytes at (BadByte k) some short fault same = along (is_bad_byte_at bytes) at k (sym same) fault
named_at dotted bytes at (EmptyPiece k) some short fault same = along (λ n. dotted && is_stray_stop bytes n) at k (sym same) fault

pub no_fault_there : (dotted : Bool) (bytes : List ℕ) (at : ℕ) (err : MaskErr) → 1 ≤ length bytes → length bytes ≤ 64 → fault_at dotted bytes at ≡ None → IsFault dotted bytes err → (place_of err).at ≡ at → ⊥
no_fault_there dotted bytes at err some short none fault same = none_named _ _ _ _ at err none (named_at dotted bytes at err some short fault same)

-- places without a fault

none_of : (found : Option MaskErr) → is_none found ≡ true → found ≡ None
none_of None e = refl
none_of (Some err) e = absurd (not_both e)

pub clear_there : (dotted : Bool) (bytes : List ℕ) (n k : ℕ) → is_clear_below dotted bytes n ≡ true → k < n → fault_at dotted bytes k ≡ None
clear_there dotted bytes zero k clear less = absurd (omega arith)
clear_there dotted bytes (suc n) k clear less =
    let parts = both (is_clear_below dotted bytes n) (is_none (fault_at dotted bytes n)) clear in
    elim (order_of n k) [
      | inl more ↦ let same : k ≡ n = omega arith in ap (fault_at dotted bytes) same ∙ none_of _ parts.1
      | inr before ↦ clear_there dotted bytes n k parts.0 before
    ]

pub false_if : (b : Bool) → (b ≡ true → ⊥) → b ≡ false
false_if true no_way = absurd (no_way refl)
false_if false no_way = refl

not_clear : (dotted : Bool) (bytes : List ℕ) (at : ℕ) (err : MaskErr) → at < length bytes → fault_at dotted bytes at ≡ Some err → has_no_fault dotted bytes ≡ false
not_clear dotted bytes at err less found =
    false_if _ (λ clear. let none = clear_there dotted bytes (length bytes) at (both _ _ (both _ _ clear).1).1 less in absurd (cc))

-- the first fault

comes_first : (dotted : Bool) (bytes : List ℕ) (at : ℕ) (err other : MaskErr) → 1 ≤ length bytes → length bytes ≤ 64 → is_clear_below dotted bytes at ≡ true → ChosenAt dotted bytes at err → IsFault dotted bytes other → NotBehind (place_of err) (place_of other)
comes_first dotted bytes at err other some short clear m fault =
    let place : (place_of err).at ≡ at = chosen_place _ _ _ _ at err m in
    let least : (place_of other).at ≡ at → (place_of err).rank ≤ (place_of other).rank = λ same. subst (λ n. n ≤ (place_of other).rank) (sym (chosen_number _ _ _ _ at err m)) (named_least _ _ _ _ other (named_at dotted bytes at other some short fault same)) in (
      elim (order_of at ((place_of other).at)) [ inl later ↦ omega arith | inr before ↦ absurd (no_fault_there dotted bytes ((place_of other).at) other some short (clear_there dotted bytes at ((place_of other).at) clear before) fault refl) ],
      λ same. least (sym same ∙ place),
    )

pub first_is : (dotted : Bool) (bytes : List ℕ) (at : ℕ) (err : MaskErr) → 1 ≤ length bytes → length bytes ≤ 64 → at < length bytes → is_clear_below dotted bytes at ≡ true → Some err ≡ fault_at dotted bytes at
    → (has_no_fault dotted bytes ≡ false) × IsFirstFault dotted bytes err
first_is dotted bytes at err some short less clear found =
    let m = chosen _ _ _ _ at err (sym found) in
    (not_clear dotted bytes at err less (sym found), record { met = fault_is dotted bytes at err m; first = λ other fault. comes_first dotted bytes at err other some short clear m fault })

-- a text with no fault at its places has none

pub byte_within : (bytes : List ℕ) (k n : ℕ) → 0 < n → (get_or bytes k 0 == n) ≡ true → k < length bytes
byte_within bytes k n some e =
    elim (order_of (length bytes) k) [ inr less ↦ less | inl past ↦ let none : get_or bytes k 0 ≡ 0 = get_or_past bytes k 0 past in let same : get_or bytes k 0 ≡ n = eqb-true _ _ e in absurd (omega arith) ]

place_within : (dotted : Bool) (bytes : List ℕ) (err : MaskErr) → 1 ≤ length bytes → length bytes ≤ 64 → IsFault dotted bytes err → (place_of err).at < length bytes
place_within dotted bytes Empty some short fault = some
place_within dotted bytes TooLong some short fault = some
place_within dotted bytes (ThreeStars k) some short fault = byte_within bytes k 42 (omega arith) (both _ _ fault).0
place_within dotted bytes (StarsNotAlone k) some short fault = byte_within bytes k 42 (omega arith) (both _ _ (both _ _ fault).0).0
place_within dotted bytes (BadByte k) some short fault = ltb-true _ _ (both _ _ fault).0
place_within dotted bytes (EmptyPiece k) some short fault = byte_within bytes k 46 (omega arith) (both _ _ (both _ _ fault).1).0

pub no_fault : (dotted : Bool) (bytes : List ℕ) → has_no_fault dotted bytes ≡ true → (err : MaskErr) → IsFault dotted bytes err → ⊥
no_fault dotted bytes clear err fault =
    let parts = both _ _ clear in
    let others = both _ _ parts.1 in
    let some : 1 ≤ length bytes = leb-true _ _ parts.0 in
    let short : length bytes ≤ 64 = leb-true _ _ others.0 in
    no_fault_there dotted bytes ((place_of err).at) err some short (clear_there dotted bytes (length bytes) ((place_of err).at) others.1 (place_within dotted bytes err some short fault)) fault refl

-- one text has one first fault

-- the error with a number and a place
error_of : ℕ → ℕ → MaskErr
error_of number at = if number == 1 then Empty else if number == 2 then TooLong else if number == 3 then ThreeStars at else if number == 4 then StarsNotAlone at else if number == 5 then BadByte at else EmptyPiece at

error_back : (err : MaskErr) → error_of ((place_of err).rank) ((place_of err).at) ≡ err
unfolding error_of
error_back Empty = refl
error_back TooLong = refl
error_back (ThreeStars k) = refl
error_back (StarsNotAlone k) = refl
error_back (BadByte k) = refl
error_back (EmptyPiece k) = refl

same_error : (a b : MaskErr) → (place_of a).rank ≡ (place_of b).rank → (place_of a).at ≡ (place_of b).at → a ≡ b
same_error a b number place = sym (error_back a) ∙ ap (λ n. error_of n ((place_of a).at)) number ∙ ap (error_of ((place_of b).rank)) place ∙ error_back b

pub one_first : (dotted : Bool) (bytes : List ℕ) (a b : MaskErr) → IsFirstFault dotted bytes a → IsFirstFault dotted bytes b → a ≡ b
one_first dotted bytes a b f g =
    let same = first_at_one f g in
    same_error a b same.1 same.0

-- what reading a text answers

pub short_enough : (dotted : Bool) (bytes : List ℕ) → has_no_fault dotted bytes ≡ true → length bytes ≤ 64
short_enough dotted bytes clear = leb-true _ _ (both _ _ (both _ _ clear).1).0

pub no_first : (dotted : Bool) (bytes : List ℕ) → has_no_fault dotted bytes ≡ true → (err : MaskErr) → IsFirstFault dotted bytes err → ⊥
no_first dotted bytes clear err first = no_fault dotted bytes clear err first.met
