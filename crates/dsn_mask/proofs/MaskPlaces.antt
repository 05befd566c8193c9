-- Faults at places, and what each byte of a text stands before.
use Rattle.std.proofs.Common.{Bool, ◌≡◌, ◌≤◌, ◌<◌, ◌+◌, ◌-◌, ℕ, suc, true, false, List, [], ◌∷◌, length, get_or, drop}
use Rattle.std.proofs.Common.{refl, sym, ◌∙◌, ap, arith, inl, inr}
use Rattle.std.specs.Prelude.{◌&&◌, ◌||◌, ◌==◌, not, nat_lt}
use Rattle.std.proofs.Math.Seq.{drop-cons}
use Rattle.std.proofs.lemmas.Bool.{leb-true, le-leb, lt-ltb, ltb-true, eqb-true}
use Rattle.std.proofs.lemmas.List.{length-drop, get_or_past}
use Rattle.dsn_mask.specs.MaskFault.{is_star_at, opens_qualifier, closes_qualifier, is_stray_stop, IsFault}
use Rattle.dsn_mask.specs.MaskFault.{has_no_fault, IsFirstFault}
use Rattle.desk_common.specs.Words.{begins_with_star}
use Rattle.dsn_mask.specs.MaskText.{is_mask_byte, is_mask, is_simple}
use Rattle.dsn_mask.specs.declared.mask_err.MaskErr.{MaskErr}
use Rattle.dsn_mask.specs.declared.mask_err.MaskErr.TheVariants.{Empty, TooLong, ThreeStars, StarsNotAlone, BadByte}
use Rattle.dsn_mask.specs.declared.mask_err.MaskErr.TheVariants.{EmptyPiece}
use Rattle.dsn_mask.proofs.Faults.{both, order_of}
use Rattle.dsn_mask.proofs.Greedy.{by_either, left_of_or, right_of_or}
use Rattle.dsn_mask.proofs.MaskFaults.{byte_within, no_fault, false_if}
use Rattle.dsn_mask.proofs.MaskTexts.{is_close, head_is_good, is_good, good_mask, good_piece}
use Rattle.desk_common.proofs.WordLemmas.{agrees, differs}
use Rattle.dsn_mask.proofs.StarRuns.{are_whole, PairsAreWhole, pairs_whole, no_run_faults}

no_way : true ≡ false → ⊥
no_way e = cc

and_no : (v : Bool) → (v && false) ≡ false
and_no true = refl
and_no false = refl

and_true : (a b : Bool) → a ≡ true → b ≡ true → (a && b) ≡ true
and_true a b e h = rw (e, h) refl

not_true : (b : Bool) → b ≡ false → not b ≡ true
not_true b e = rw e refl

is_false : (b : Bool) → not b ≡ true → b ≡ false
is_false true e = sym e
is_false false e = refl

-- the byte at a place may stand there
abbrev pub is_good_at : Bool → List ℕ → ℕ → Bool
is_good_at dotted bytes k =
    is_mask_byte (get_or bytes k 0) && (not (dotted && (get_or bytes k 0 == 46 && opens_qualifier bytes k)) && (not (is_star_at bytes k && is_star_at bytes (k + 1)) || are_whole dotted bytes k))

-- what stands at a place

less_at : (bytes : List ℕ) (n b : ℕ) (bs : List ℕ) → drop n bytes ≡ b ∷ bs → n < length bytes
less_at bytes n b bs e =
    let some : length (drop n bytes) ≡ suc (length bs) = ap length e in
    let left : length (drop n bytes) ≡ length bytes - n = length-drop n bytes in
    omega arith

cut_at : (bytes : List ℕ) (n b : ℕ) (bs : List ℕ) → drop n bytes ≡ b ∷ bs → (get_or bytes n 0 ≡ b) × (drop (suc n) bytes ≡ bs)
cut_at bytes n b bs e =
    let both_are : get_or bytes n 0 ∷ drop (suc n) bytes ≡ b ∷ bs = sym (drop-cons bytes n 0 (less_at bytes n b bs e)) ∙ e in
    (cc, cc)

past_at : (bytes : List ℕ) (n : ℕ) → drop n bytes ≡ [] → length bytes ≤ n
past_at bytes n e =
    let none : length (drop n bytes) ≡ 0 = ap length e in
    let left : length (drop n bytes) ≡ length bytes - n = length-drop n bytes in
    omega arith

star_next : (bytes : List ℕ) (m : ℕ) (bs : List ℕ) → drop m bytes ≡ bs → is_star_at bytes m ≡ begins_with_star bs
star_next bytes m [] e = rw (get_or_past bytes m 0 (past_at bytes m e)) refl
star_next bytes m (s ∷ r) e = ap (λ z. z == 42) (cut_at bytes m s r e).0

closes_at : (bytes : List ℕ) (m : ℕ) (r : List ℕ) → m ≤ length bytes → drop m bytes ≡ r → closes_qualifier bytes m ≡ is_close r
closes_at bytes m [] within e =
    let past = past_at bytes m e in
    let same : m ≡ length bytes = omega arith in
    rw (agrees m (length bytes) same) refl
closes_at bytes m (x ∷ r) within e =
    let less = less_at bytes m x r e in
    let other : m ≡ length bytes → ⊥ = λ same. omega arith in
    rw (differs m (length bytes) other, (cut_at bytes m x r e).0) refl

opens_next : (bytes : List ℕ) (n b : ℕ) (bs : List ℕ) → drop n bytes ≡ b ∷ bs → opens_qualifier bytes (suc n) ≡ (b == 46)
opens_next bytes n b bs e =
    let some : suc n ≡ 0 → ⊥ = λ none. omega arith in
    let back : suc n - 1 ≡ n = omega arith in
    rw (differs (suc n) 0 some, back, (cut_at bytes n b bs e).0) refl

third_same : (a w v : Bool) → (not (a && false) || w) ≡ (not (a && false) || v)
third_same true w v = refl
third_same false w v = refl

head_at : (dotted : Bool) (bytes : List ℕ) (n b : ℕ) (bs : List ℕ) → drop n bytes ≡ b ∷ bs → head_is_good dotted (opens_qualifier bytes n) b bs ≡ is_good_at dotted bytes n
head_at dotted bytes n b [] e =
    let cut = cut_at bytes n b [] e in
    let one : n + 1 ≡ suc n = omega arith in
    let next : is_star_at bytes (n + 1) ≡ false = ap (is_star_at bytes) one ∙ star_next bytes (suc n) [] cut.1 in
    rw (next, cut.0) (ap (λ z. is_mask_byte b && (not (dotted && (b == 46 && opens_qualifier bytes n)) && z)) (third_same (b == 42) _ _))
head_at dotted bytes n b (s ∷ r) e =
    let cut = cut_at bytes n b (s ∷ r) e in
    let one : n + 1 ≡ suc n = omega arith in
    let two : n + 2 ≡ suc (suc n) = omega arith in
    let less = less_at bytes (suc n) s r cut.1 in
    let next : is_star_at bytes (n + 1) ≡ (s == 42) = ap (is_star_at bytes) one ∙ star_next bytes (suc n) (s ∷ r) cut.1 in
    let closes : closes_qualifier bytes (n + 2) ≡ is_close r = ap (closes_qualifier bytes) two ∙ closes_at bytes (suc (suc n)) r less (cut_at bytes (suc n) s r cut.1).1 in
    rw (next, closes, cut.0) refl

-- all places

abbrev pub AllGood : Bool → List ℕ → ℕ → Type 0
AllGood dotted bytes n = ((k : ℕ) → n ≤ k → k < length bytes → is_good_at dotted bytes k ≡ true) × ((dotted && opens_qualifier bytes (length bytes)) ≡ false)

pub good_from : (dotted : Bool) (bytes : List ℕ) (rest : List ℕ) (n : ℕ) → drop n bytes ≡ rest → n ≤ length bytes → AllGood dotted bytes n → is_good dotted (opens_qualifier bytes n) rest ≡ true
good_from dotted bytes [] n e within h =
    let past = past_at bytes n e in
    let same : n ≡ length bytes = omega arith in
    not_true _ (ap (λ z. dotted && opens_qualifier bytes z) same ∙ h.1)
good_from dotted bytes (b ∷ bs) n e within h =
    let less = less_at bytes n b bs e in
    let cut = cut_at bytes n b bs e in
    let more = good_from dotted bytes bs (suc n) cut.1 less (λ k far near. h.0 k (omega arith) near, h.1) in
    and_true _ _ (head_at dotted bytes n b bs e ∙ h.0 n (omega arith) less) (ap (λ z. is_good dotted z bs) (sym (opens_next bytes n b bs e)) ∙ more)

pub all_good : (dotted : Bool) (bytes : List ℕ) (rest : List ℕ) (n : ℕ) → drop n bytes ≡ rest → n ≤ length bytes → is_good dotted (opens_qualifier bytes n) rest ≡ true → AllGood dotted bytes n
all_good dotted bytes [] n e within good =
    let past = past_at bytes n e in
    let same : length bytes ≡ n = omega arith in
    (λ k far near. absurd (omega arith), ap (λ z. dotted && opens_qualifier bytes z) same ∙ is_false _ good)
all_good dotted bytes (b ∷ bs) n e within good =
    let less = less_at bytes n b bs e in
    let cut = cut_at bytes n b bs e in
    let parts = both (head_is_good dotted (opens_qualifier bytes n) b bs) (is_good dotted (b == 46) bs) good in
    let more = all_good dotted bytes bs (suc n) cut.1 less (ap (λ z. is_good dotted z bs) (opens_next bytes n b bs e) ∙ parts.1) in (
      λ k far near. elim (order_of k n) [
        | inl low ↦ let same : k ≡ n = omega arith in ap (is_good_at dotted bytes) same ∙ sym (head_at dotted bytes n b bs e) ∙ parts.0
        | inr high ↦ more.0 k high near
      ],
      more.1,
    )

-- no fault, and good bytes

abbrev NoFault : Bool → List ℕ → Type 0
NoFault dotted bytes = (err : MaskErr) → IsFault dotted bytes err → ⊥

not_false : (b : Bool) → (not b ≡ true → ⊥) → b ≡ true
not_false true h = refl
not_false false h = absurd (h refl)

and_is : (a b : Bool) → (a ≡ true → b ≡ true → ⊥) → (a && b) ≡ false
and_is true true h = absurd (h refl refl)
and_is true false h = refl
and_is false b h = refl

third_whole : (a w : Bool) → a ≡ true → (not a || w) ≡ true → w ≡ true
third_whole true w e h = h
third_whole false w e h = absurd (no_way (sym e))

third_good : (a w : Bool) → (a ≡ true → w ≡ true) → (not a || w) ≡ true
third_good true w h = h refl
third_good false w h = refl

not_both : (b : Bool) → b ≡ true → not b ≡ true → ⊥
not_both true e h = no_way (sym h)
not_both false e h = no_way (sym e)

not_empty : (bytes : List ℕ) → (bytes ≡ [] → ⊥) → 1 ≤ length bytes
not_empty [] h = absurd (h refl)
not_empty (b ∷ bs) h = omega arith

short_or : (n : ℕ) → (64 < n → ⊥) → n ≤ 64
short_or n h = elim (order_of n 64) [ inl less ↦ less | inr more ↦ absurd (h more) ]

-- two stars side by side are a whole qualifier
whole_pairs : (dotted : Bool) (bytes : List ℕ) → AllGood dotted bytes 0 → PairsAreWhole dotted bytes
whole_pairs dotted bytes good k a b =
    let near = byte_within bytes k 42 (omega arith) a in
    let byte = both (is_mask_byte (get_or bytes k 0)) _ (good.0 k (omega arith) near) in
    let place = both (not (dotted && (get_or bytes k 0 == 46 && opens_qualifier bytes k))) _ byte.1 in
    third_whole _ _ (and_true _ _ a b) place.1

good_places : (dotted : Bool) (bytes : List ℕ) → NoFault dotted bytes → AllGood dotted bytes 0
good_places dotted bytes h =
    let whole : PairsAreWhole dotted bytes = pairs_whole dotted bytes (λ k m. h (ThreeStars k) m, λ k m. h (StarsNotAlone k) m) in
    let some : 1 ≤ length bytes = not_empty bytes (λ none. h Empty none) in (
      λ k far near. and_true _ _ (not_false _ (λ bad. h (BadByte k) (and_true _ _ (lt-ltb k (length bytes) near) bad)))
          (and_true _ _ (not_true _ (and_is _ _ (λ d m. let parts = both (get_or bytes k 0 == 46) (opens_qualifier bytes k) m in h (EmptyPiece k) (and_true _ _ d (and_true _ _ parts.0 (left_of_or _ _ parts.1))))))
          (third_good _ _ (λ m. let stars = both (is_star_at bytes k) (is_star_at bytes (k + 1)) m in whole k stars.0 stars.1))),
      and_is _ _ (λ d m. by_either (length bytes == 0) (get_or bytes (length bytes - 1) 0 == 46) m
          (λ none. let zero_is : length bytes ≡ 0 = eqb-true _ _ none in omega arith)
          (λ stop. let last : (length bytes - 1) + 1 ≡ length bytes = omega arith in
          h (EmptyPiece (length bytes - 1)) (and_true _ _ d (and_true _ _ stop (right_of_or _ _ (agrees _ _ last)))))),
    )

no_fault_there : (dotted : Bool) (bytes : List ℕ) → 1 ≤ length bytes → length bytes ≤ 64 → AllGood dotted bytes 0 → NoFault dotted bytes
no_fault_there dotted bytes some short good Empty fault = let none : length bytes ≡ 0 = ap length fault in omega arith
no_fault_there dotted bytes some short good TooLong fault = omega arith
no_fault_there dotted bytes some short good (ThreeStars k) fault = (no_run_faults dotted bytes (whole_pairs dotted bytes good)).0 k fault
no_fault_there dotted bytes some short good (StarsNotAlone k) fault = (no_run_faults dotted bytes (whole_pairs dotted bytes good)).1 k fault
no_fault_there dotted bytes some short good (BadByte k) fault =
    let parts = both (nat_lt k (length bytes)) (not (is_mask_byte (get_or bytes k 0))) fault in
    let byte = both (is_mask_byte (get_or bytes k 0)) _ (good.0 k (omega arith) (ltb-true _ _ parts.0)) in
    not_both _ byte.0 parts.1
no_fault_there dotted bytes some short good (EmptyPiece k) fault =
    let parts = both dotted (is_stray_stop bytes k) fault in
    let stop = both (get_or bytes k 0 == 46) (opens_qualifier bytes k || k + 1 == length bytes) parts.1 in
    let near = byte_within bytes k 46 (omega arith) stop.0 in
    let byte = both (is_mask_byte (get_or bytes k 0)) _ (good.0 k (omega arith) near) in
    let place = both (not (dotted && (get_or bytes k 0 == 46 && opens_qualifier bytes k))) _ byte.1 in
    by_either (opens_qualifier bytes k) (k + 1 == length bytes) stop.1
    (λ opens. not_both _ (and_true _ _ parts.0 (and_true _ _ stop.0 opens)) place.0)
    (λ last.
    let ends : length bytes - 1 ≡ k = (let same : k + 1 ≡ length bytes = eqb-true _ _ last in omega arith) in
    let opens : opens_qualifier bytes (length bytes) ≡ true = right_of_or _ _ (ap (λ z. get_or bytes z 0 == 46) ends ∙ stop.0) in
    no_way (sym (and_true _ _ parts.0 opens) ∙ good.1))

lengths_of : (bytes : List ℕ) (dotted : Bool) → NoFault dotted bytes → (1 ≤ length bytes) × (length bytes ≤ 64)
lengths_of bytes dotted h = (not_empty bytes (λ none. h Empty none), short_or (length bytes) (λ long. h TooLong long))

mask_from : (bytes : List ℕ) → NoFault true bytes → is_mask bytes ≡ true
mask_from bytes h =
    let lengths = lengths_of bytes true h in
    and_true _ _ (le-leb 1 (length bytes) lengths.0) (and_true _ _ (le-leb (length bytes) 64 lengths.1) (sym (good_mask bytes) ∙ good_from true bytes bytes 0 refl (omega arith) (good_places true bytes h)))

mask_back : (bytes : List ℕ) → is_mask bytes ≡ true → NoFault true bytes
mask_back bytes m =
    let some = both _ _ m in
    let short = both _ _ some.1 in
    no_fault_there true bytes (leb-true _ _ some.0) (leb-true _ _ short.0) (all_good true bytes bytes 0 refl (omega arith) (good_mask bytes ∙ short.1))

simple_from : (bytes : List ℕ) → NoFault false bytes → is_simple bytes ≡ true
simple_from bytes h =
    let lengths = lengths_of bytes false h in
    and_true _ _ (le-leb 1 (length bytes) lengths.0) (and_true _ _ (le-leb (length bytes) 64 lengths.1) (sym (good_piece true bytes) ∙ good_from false bytes bytes 0 refl (omega arith) (good_places false bytes h)))

simple_back : (bytes : List ℕ) → is_simple bytes ≡ true → NoFault false bytes
simple_back bytes m =
    let some = both _ _ m in
    let short = both _ _ some.1 in
    no_fault_there false bytes (leb-true _ _ some.0) (leb-true _ _ short.0) (all_good false bytes bytes 0 refl (omega arith) (good_piece true bytes ∙ short.1))

-- what reading a text answers

pub mask_text : (bytes : List ℕ) → has_no_fault true bytes ≡ true → is_mask bytes ≡ true
mask_text bytes clear = mask_from bytes (no_fault true bytes clear)

pub no_mask : (bytes : List ℕ) (err : MaskErr) → IsFirstFault true bytes err → is_mask bytes ≡ false
no_mask bytes err first = false_if _ (λ mask. mask_back bytes mask err first.met)

pub simple_text : (bytes : List ℕ) → has_no_fault false bytes ≡ true → is_simple bytes ≡ true
simple_text bytes clear = simple_from bytes (no_fault false bytes clear)

pub no_simple : (bytes : List ℕ) (err : MaskErr) → IsFirstFault false bytes err → is_simple bytes ≡ false
no_simple bytes err first = false_if _ (λ simple. simple_back bytes simple err first.met)

pub not_both_ways : (b : Bool) → b ≡ false → b ≡ true → ⊥
not_both_ways b e h = no_way (sym h ∙ e)
