-- A text with no fault is a mask by its qualifiers.
use Rattle.std.proofs.Common.{Bool, ◌≡◌, ℕ, true, false, List, [], ◌∷◌, refl, sym, ◌∙◌, ap}
use Rattle.std.specs.Prelude.{◌&&◌, ◌||◌, ◌==◌, not, if◌then◌else◌}
use Rattle.std.specs.List.{list_all}
use Rattle.std.proofs.lemmas.Bool.{eqb-true}
use Rattle.desk_common.specs.Words.{onto}
use Rattle.dsn_mask.specs.Qualifiers.{qualifiers_of}
use Rattle.dsn_mask.specs.MaskTest.{is_empty, is_two_stars}
use Rattle.desk_common.specs.Words.{begins_with_star}
use Rattle.dsn_mask.specs.MaskText.{is_mask_byte, are_stars_apart, is_piece, is_mask_qualifier}
use Rattle.dsn_mask.proofs.Fitting.{are_stars}
use Rattle.dsn_mask.proofs.Split.{qualifiers_of-some}

no_way : true ≡ false → ⊥
no_way e = cc

abbrev pub is_close : List ℕ → Bool
is_close [] = true
is_close (byte ∷ bytes) = byte == 46

-- behind a second star a qualifier ends
abbrev pub closes_second : List ℕ → Bool
closes_second [] = true
closes_second (star ∷ bytes) = is_close bytes

-- the first byte may stand before the others
abbrev pub head_is_good : Bool → Bool → ℕ → List ℕ → Bool
head_is_good dotted opens byte bytes =
    is_mask_byte byte && (not (dotted && (byte == 46 && opens)) && (not (byte == 42 && begins_with_star bytes) || (dotted && (opens && closes_second bytes))))

-- each byte may stand before the others; opens says that a qualifier begins here
abbrev pub is_good : Bool → Bool → List ℕ → Bool
is_good dotted opens [] = not (dotted && opens)
is_good dotted opens (byte ∷ bytes) = head_is_good dotted opens byte bytes && is_good dotted (byte == 46) bytes

-- one piece

one_byte : (m a x y : Bool) → ((m && (true && (not a || false))) && (x && y)) ≡ ((m && x) && (not a && y))
one_byte true true true y = refl
one_byte true true false y = refl
one_byte true false true y = refl
one_byte true false false y = refl
one_byte false a x y = refl

pub good_piece : (opens : Bool) (bytes : List ℕ) → is_good false opens bytes ≡ is_piece bytes
good_piece opens [] = refl
good_piece opens (b ∷ bs) = ap (λ z. head_is_good false opens b bs && z) (good_piece (b == 46) bs) ∙ one_byte (is_mask_byte b) (b == 42 && begins_with_star bs) (list_all is_mask_byte bs) (are_stars_apart bs)

-- qualifiers

-- what is left of a qualifier, and the others
abbrev rest_is_good : List (List ℕ) → Bool
rest_is_good [] = true
rest_is_good (q ∷ qs) = is_piece q && list_all is_mask_qualifier qs

abbrev first_of : List (List ℕ) → List ℕ
first_of [] = []
first_of (q ∷ qs) = q

abbrev others_of : List (List ℕ) → List (List ℕ)
others_of [] = []
others_of (q ∷ qs) = qs

parts_of : (qs : List (List ℕ)) → is_empty qs ≡ false → qs ≡ first_of qs ∷ others_of qs
parts_of [] e = absurd (no_way e)
parts_of (q ∷ qs) e = refl

onto_is : (b : ℕ) (qs : List (List ℕ)) → is_empty qs ≡ false → onto b qs ≡ (b ∷ first_of qs) ∷ others_of qs
onto_is b [] e = absurd (no_way e)
onto_is b (q ∷ qs) e = refl

star_no_stop : (s : ℕ) → (s == 46) ≡ true → (s == 42) ≡ false
star_no_stop s e = let same : s ≡ 46 = eqb-true s 46 e in rw same refl

-- the first qualifier begins as the text does
begins_if : (s : ℕ) (r : List ℕ) (stop : Bool) → (s == 46) ≡ stop → begins_with_star (first_of (if stop then [] ∷ qualifiers_of r else onto s (qualifiers_of r))) ≡ (s == 42)
begins_if s r true e = sym (star_no_stop s e)
begins_if s r false e = ap (λ z. begins_with_star (first_of z)) (onto_is s (qualifiers_of r) (qualifiers_of-some r))

begins_same : (bs : List ℕ) → begins_with_star (first_of (qualifiers_of bs)) ≡ begins_with_star bs
begins_same [] = refl
begins_same (s ∷ r) = begins_if s r (s == 46) refl

-- the first qualifier is empty where the text closes
empty_if : (s : ℕ) (r : List ℕ) (stop : Bool) → (s == 46) ≡ stop → is_empty (first_of (if stop then [] ∷ qualifiers_of r else onto s (qualifiers_of r))) ≡ stop
empty_if s r true e = refl
empty_if s r false e = ap (λ z. is_empty (first_of z)) (onto_is s (qualifiers_of r) (qualifiers_of-some r))

empty_same : (bs : List ℕ) → is_empty (first_of (qualifiers_of bs)) ≡ is_close bs
empty_same [] = refl
empty_same (s ∷ r) = empty_if s r (s == 46) refl

and_yes : (v : Bool) → v ≡ (v && true)
and_yes true = refl
and_yes false = refl

and_no : (v : Bool) → false ≡ (v && false)
and_no true = refl
and_no false = refl

two_of : (b s : ℕ) (q : List ℕ) → is_two_stars (b ∷ s ∷ q) ≡ ((b == 42 && s == 42) && is_empty q)
two_of b s [] = and_yes (b == 42 && s == 42)
two_of b s (x ∷ q) = and_no (b == 42 && s == 42)

none_two : (a c : Bool) → false ≡ ((a && false) && c)
none_two true c = refl
none_two false c = refl

two_if : (b s : ℕ) (r : List ℕ) (stop : Bool) → (s == 46) ≡ stop → is_two_stars (b ∷ first_of (if stop then [] ∷ qualifiers_of r else onto s (qualifiers_of r))) ≡ ((b == 42 && s == 42) && is_close r)
two_if b s r true e = rw (star_no_stop s e) (none_two (b == 42) (is_close r))
two_if b s r false e =
    ap (λ z. is_two_stars (b ∷ first_of z)) (onto_is s (qualifiers_of r) (qualifiers_of-some r)) ∙ two_of b s (first_of (qualifiers_of r)) ∙ ap (λ z. (b == 42 && s == 42) && z) (empty_same r)

two_same : (b : ℕ) (bs : List ℕ) → is_two_stars (b ∷ first_of (qualifiers_of bs)) ≡ ((b == 42 && begins_with_star bs) && closes_second bs)
two_same b [] = none_two (b == 42) true
two_same b (s ∷ r) = two_if b s r (s == 46) refl

cut_pair : (m x y o : Bool) → ((m && (true && (false || false))) && ((x && y) && o)) ≡ (((m && x) && (false && y)) && o)
cut_pair true true y o = refl
cut_pair true false y o = refl
cut_pair false x y o = refl

cut_other : (m x y o : Bool) → ((m && (true && true)) && ((x && y) && o)) ≡ (((m && x) && (true && y)) && o)
cut_other true true true o = refl
cut_other true true false o = refl
cut_other true false y o = refl
cut_other false x y o = refl

both_stars : (b : ℕ) (q : List ℕ) (o : Bool) → is_two_stars (b ∷ q) ≡ true → ((is_mask_byte b && (true && (false || true))) && (is_piece q && o)) ≡ (is_mask_qualifier (b ∷ q) && o)
both_stars b q o e =
    let same : b ∷ q ≡ 42 ∷ 42 ∷ [] = are_stars (b ∷ q) e in
    let byte : b ≡ 42 = cc in
    let rest : q ≡ 42 ∷ [] = cc in
    rw (rest, byte) refl

-- a first byte and the rest of a qualifier
qualifier_step : (b : ℕ) (q : List ℕ) (a c o : Bool) → is_two_stars (b ∷ q) ≡ (a && c) → (b == 42 && begins_with_star q) ≡ a
    → ((is_mask_byte b && (true && (not a || (true && (true && c))))) && (is_piece q && o)) ≡ (is_mask_qualifier (b ∷ q) && o)
qualifier_step b q true true o two same = both_stars b q o two
qualifier_step b q true false o two same = rw (two, same) (cut_pair (is_mask_byte b) (list_all is_mask_byte q) (are_stars_apart q) o)
qualifier_step b q false c o two same = rw (two, same) (cut_other (is_mask_byte b) (list_all is_mask_byte q) (are_stars_apart q) o)

rest_step : (b : ℕ) (q : List ℕ) (a c o : Bool) → (b == 42 && begins_with_star q) ≡ a → ((is_mask_byte b && (true && (not a || (true && (false && c))))) && (is_piece q && o)) ≡ (is_piece (b ∷ q) && o)
rest_step b q true c o same = rw same (cut_pair (is_mask_byte b) (list_all is_mask_byte q) (are_stars_apart q) o)
rest_step b q false c o same = rw same (cut_other (is_mask_byte b) (list_all is_mask_byte q) (are_stars_apart q) o)

abbrev qualifiers_are_good : Bool → List (List ℕ) → Bool
qualifiers_are_good true qs = list_all is_mask_qualifier qs
qualifiers_are_good false qs = rest_is_good qs

no_stop : (opens : Bool) (b : ℕ) (bs : List ℕ) → (b == 46) ≡ false → head_is_good true opens b bs ≡ (is_mask_byte b && (true && (not (b == 42 && begins_with_star bs) || (true && (opens && closes_second bs)))))
no_stop opens b bs e = ap (λ z. is_mask_byte b && (not (true && (z && opens)) && (not (b == 42 && begins_with_star bs) || (true && (opens && closes_second bs))))) e

-- a first byte before the qualifiers of the others
onto_step : (opens : Bool) (b : ℕ) (bs : List ℕ) → (b == 46) ≡ false
    → (head_is_good true opens b bs && rest_is_good (first_of (qualifiers_of bs) ∷ others_of (qualifiers_of bs))) ≡ qualifiers_are_good opens ((b ∷ first_of (qualifiers_of bs)) ∷ others_of (qualifiers_of bs))
onto_step true b bs e =
    ap (λ z. z && rest_is_good (first_of (qualifiers_of bs) ∷ others_of (qualifiers_of bs))) (no_stop true b bs e)
    ∙ qualifier_step b (first_of (qualifiers_of bs)) (b == 42 && begins_with_star bs) (closes_second bs) (list_all is_mask_qualifier (others_of (qualifiers_of bs))) (two_same b bs) (ap (λ z. b == 42 && z) (begins_same bs))
onto_step false b bs e =
    ap (λ z. z && rest_is_good (first_of (qualifiers_of bs) ∷ others_of (qualifiers_of bs))) (no_stop false b bs e)
    ∙ rest_step b (first_of (qualifiers_of bs)) (b == 42 && begins_with_star bs) (closes_second bs) (list_all is_mask_qualifier (others_of (qualifiers_of bs))) (ap (λ z. b == 42 && z) (begins_same bs))

stop_step : (opens : Bool) (b : ℕ) (bs : List ℕ) → b ≡ 46 → (head_is_good true opens b bs && list_all is_mask_qualifier (qualifiers_of bs)) ≡ qualifiers_are_good opens ([] ∷ qualifiers_of bs)
stop_step true b bs same = rw same refl
stop_step false b bs same = rw same refl

good_step : (opens : Bool) (b : ℕ) (bs : List ℕ) (stop : Bool) → (b == 46) ≡ stop → is_good true stop bs ≡ qualifiers_are_good stop (qualifiers_of bs)
    → (head_is_good true opens b bs && is_good true stop bs) ≡ qualifiers_are_good opens (if stop then [] ∷ qualifiers_of bs else onto b (qualifiers_of bs))
good_step opens b bs true e good = ap (λ z. head_is_good true opens b bs && z) good ∙ stop_step opens b bs (eqb-true b 46 e)
good_step opens b bs false e good =
    let some = qualifiers_of-some bs in
    ap (λ z. head_is_good true opens b bs && z) (good ∙ ap rest_is_good (parts_of (qualifiers_of bs) some)) ∙ onto_step opens b bs e ∙ ap (qualifiers_are_good opens) (sym (onto_is b (qualifiers_of bs) some))

good_is : (opens : Bool) (bs : List ℕ) → is_good true opens bs ≡ qualifiers_are_good opens (qualifiers_of bs)
good_is true [] = refl
good_is false [] = refl
good_is opens (b ∷ bs) = good_step opens b bs (b == 46) refl (good_is (b == 46) bs)

pub good_mask : (bs : List ℕ) → is_good true true bs ≡ list_all is_mask_qualifier (qualifiers_of bs)
good_mask bs = good_is true bs
