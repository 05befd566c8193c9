-- Two stars side by side, and the faults of runs of stars.
use Rattle.std.proofs.Common.{Bool, ◌≡◌, ◌≤◌, ◌<◌, ◌+◌, ◌-◌, ℕ, zero, suc, true, false, List, length, get_or, refl, sym}
use Rattle.std.proofs.Common.{◌∙◌, ap, arith}
use Rattle.std.specs.Prelude.{◌&&◌, ◌==◌, not, nat_le}
use Rattle.std.proofs.lemmas.Bool.{leb-true, le-leb, eqb-true}
use Rattle.dsn_mask.specs.MaskFault.{is_star_at, is_star_before, is_third_star, is_first_of_two, opens_qualifier}
use Rattle.dsn_mask.specs.MaskFault.{closes_qualifier, is_misplaced_pair}
use Rattle.dsn_mask.proofs.Faults.{both}
use Rattle.dsn_mask.proofs.Greedy.{by_either}
use Rattle.dsn_mask.proofs.MaskFaults.{byte_within, false_if}

no_way : true ≡ false → ⊥
no_way e = cc

-- the two bytes from the place on are a whole qualifier of a dotted text
abbrev pub are_whole : Bool → List ℕ → ℕ → Bool
are_whole dotted bytes k = dotted && (opens_qualifier bytes k && closes_qualifier bytes (k + 2))

abbrev pub PairsAreWhole : Bool → List ℕ → Type 0
PairsAreWhole dotted bytes = (k : ℕ) → is_star_at bytes k ≡ true → is_star_at bytes (k + 1) ≡ true → are_whole dotted bytes k ≡ true

abbrev pub NoRunFaults : Bool → List ℕ → Type 0
NoRunFaults dotted bytes = ((k : ℕ) → is_third_star bytes k ≡ true → ⊥) × ((k : ℕ) → is_misplaced_pair dotted bytes k ≡ true → ⊥)

-- how far back
before_shift : (bytes : List ℕ) (j : ℕ) → is_star_before bytes (j + 2) 3 ≡ is_star_before bytes j 1
before_shift bytes zero = refl
before_shift bytes (suc i) =
    let a : (suc i + 2) - 3 ≡ i = omega arith in
    let b : suc i - 1 ≡ i = omega arith in
    rw (a, b, le-leb 3 (suc i + 2) (omega arith), le-leb 1 (suc i) (omega arith)) refl

before_one : (bytes : List ℕ) (j : ℕ) → is_star_before bytes (j + 1) 1 ≡ is_star_at bytes j
before_one bytes j =
    let a : (j + 1) - 1 ≡ j = omega arith in
    rw (a, le-leb 1 (j + 1) (omega arith)) refl

third_is : (a b c d : Bool) → a ≡ true → b ≡ true → c ≡ true → d ≡ false → (a && (b && (c && not d))) ≡ true
third_is a b c d p q r s = rw (p, q, r, s) refl

third_at : (bytes : List ℕ) (j : ℕ) → is_star_at bytes j ≡ true → is_star_at bytes (j + 1) ≡ true → is_star_at bytes (j + 2) ≡ true → is_star_before bytes j 1 ≡ false → is_third_star bytes (j + 2) ≡ true
third_at bytes j a b c d =
    let one : (j + 2) - 1 ≡ j + 1 = omega arith in
    let two : (j + 2) - 2 ≡ j = omega arith in
    third_is _ _ _ _ c (rw (one, le-leb 1 (j + 2) (omega arith)) b) (rw (two, le-leb 2 (j + 2) (omega arith)) a) (before_shift bytes j ∙ d)

-- a star before two others makes a run of three
star_step : (bytes : List ℕ) (j : ℕ) → ((n : ℕ) → is_third_star bytes n ≡ true → ⊥) → is_star_at bytes (suc j) ≡ true → is_star_at bytes (suc j + 1) ≡ true
    → (is_star_at bytes j ≡ true → is_star_at bytes (j + 1) ≡ true → is_star_before bytes j 1 ≡ false) → (v : Bool) → is_star_at bytes j ≡ v → is_star_before bytes (suc j) 1 ≡ false
star_step bytes j h a b none true e =
    let one : j + 1 ≡ suc j = omega arith in
    let two : j + 2 ≡ suc j + 1 = omega arith in
    let next : is_star_at bytes (j + 1) ≡ true = ap (is_star_at bytes) one ∙ a in
    absurd (h (j + 2) (third_at bytes j e next (ap (is_star_at bytes) two ∙ b) (none e next)))
star_step bytes j h a b none false e =
    let back : suc j - 1 ≡ j = omega arith in
    rw (back, le-leb 1 (suc j) (omega arith)) e

none_before : (bytes : List ℕ) (k : ℕ) → ((n : ℕ) → is_third_star bytes n ≡ true → ⊥) → is_star_at bytes k ≡ true → is_star_at bytes (k + 1) ≡ true → is_star_before bytes k 1 ≡ false
none_before bytes zero h a b = refl
none_before bytes (suc j) h a b = star_step bytes j h a b (λ c d. none_before bytes j h c d) (is_star_at bytes j) refl

two_are : (a b c d : Bool) → a ≡ true → b ≡ true → c ≡ false → d ≡ false → (a && (b && (not c && not d))) ≡ true
two_are a b c d p q r s = rw (p, q, r, s) refl

whole_if : (pair whole : Bool) → pair ≡ true → ((pair && not whole) ≡ true → ⊥) → whole ≡ true
whole_if pair true e h = refl
whole_if pair false e h = absurd (h (rw e refl))

pub pairs_whole : (dotted : Bool) (bytes : List ℕ) → NoRunFaults dotted bytes → PairsAreWhole dotted bytes
pairs_whole dotted bytes h k a b =
    let before : is_star_before bytes k 1 ≡ false = none_before bytes k h.0 a b in
    let more : (k + 1) + 1 ≡ k + 2 = omega arith in
    let after : is_star_at bytes (k + 2) ≡ false = false_if _ (λ c. no_way (sym (before_one bytes k ∙ a) ∙ none_before bytes (k + 1) h.0 b (ap (is_star_at bytes) more ∙ c))) in
    whole_if (is_first_of_two bytes k) (are_whole dotted bytes k) (two_are _ _ _ _ a b after before) (h.1 k)

star_closes : (bytes : List ℕ) (k : ℕ) → is_star_at bytes k ≡ true → closes_qualifier bytes k ≡ true → ⊥
star_closes bytes k star closes =
    let is : get_or bytes k 0 ≡ 42 = eqb-true _ _ star in
    let less : k < length bytes = byte_within bytes k 42 (omega arith) star in
    by_either (k == length bytes) (get_or bytes k 0 == 46) closes
    (λ e. let same : k ≡ length bytes = eqb-true _ _ e in omega arith)
    (λ e. let same : get_or bytes k 0 ≡ 46 = eqb-true _ _ e in omega arith)

no_third : (dotted : Bool) (bytes : List ℕ) → PairsAreWhole dotted bytes → (k : ℕ) → is_third_star bytes k ≡ true → ⊥
no_third dotted bytes h k m =
    let a = both (is_star_at bytes k) _ m in
    let b = both (is_star_before bytes k 1) _ a.1 in
    let c = both (is_star_before bytes k 2) _ b.1 in
    let one = both (nat_le 1 k) (is_star_at bytes (k - 1)) b.0 in
    let two = both (nat_le 2 k) (is_star_at bytes (k - 2)) c.0 in
    let far : 2 ≤ k = leb-true 2 k two.0 in
    let next : (k - 2) + 1 ≡ k - 1 = omega arith in
    let back : (k - 2) + 2 ≡ k = omega arith in
    let whole = h (k - 2) two.1 (ap (is_star_at bytes) next ∙ one.1) in
    let ends = both (opens_qualifier bytes (k - 2)) (closes_qualifier bytes ((k - 2) + 2)) (both dotted _ whole).1 in
    star_closes bytes k a.0 (ap (closes_qualifier bytes) (sym back) ∙ ends.1)

not_whole : (w : Bool) → w ≡ true → not w ≡ true → ⊥
not_whole true e h = no_way (sym h)
not_whole false e h = no_way (sym e)

no_pair : (dotted : Bool) (bytes : List ℕ) → PairsAreWhole dotted bytes → (k : ℕ) → is_misplaced_pair dotted bytes k ≡ true → ⊥
no_pair dotted bytes h k m =
    let a = both (is_first_of_two bytes k) (not (are_whole dotted bytes k)) m in
    let b = both (is_star_at bytes k) _ a.0 in
    let c = both (is_star_at bytes (k + 1)) _ b.1 in
    not_whole _ (h k b.0 c.0) a.1

pub no_run_faults : (dotted : Bool) (bytes : List ℕ) → PairsAreWhole dotted bytes → NoRunFaults dotted bytes
no_run_faults dotted bytes h = (no_third dotted bytes h, no_pair dotted bytes h)
