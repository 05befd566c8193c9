-- Finding a text among sorted ones by halving.
use Rattle.std.proofs.Common.{◌≡◌, ◌≤◌, ◌<◌, ◌+◌, ◌-◌, ◌*◌, ◌^◌, ℕ, suc, Bool, true, false, List, [], ◌∷◌, ◌++◌, length}
use Rattle.std.proofs.Common.{map, take, drop, get_or, refl, sym, subst, ap, ◌∙◌, arith, Ordering, Less, Equal, Greater}
use Rattle.std.proofs.Common.{le_trans, mul-le-mul_left, mul_assoc, pow-suc}
use Rattle.std.specs.Prelude.{◌||◌, All, IsPermutation, IsSorted, IsSortedBy, Some, bytes_eq}
use Rattle.std.specs.List.{list_any}
use Rattle.std.specs.List.Sorted.{IsNonDecreasingBy}
use Rattle.std.specs.Ordering.{nat_cmp, ordering_index, is_eq, is_lt}
use Rattle.std.specs.Cmp.Lexicographic.{slice_cmp, nat_list_cmp_total, texts_ties}
use Rattle.std.proofs.lemmas.List.{take-append-drop, get_or-take, get_or-drop, get_or_default, take_more, length-take}
use Rattle.std.proofs.lemmas.List.{length-drop, length-map, map-append, get_or-map, append-nil}
use Rattle.std.proofs.lemmas.Option.{slice_get-get_or}
use Rattle.std.proofs.lemmas.List.Folds.{list_any-append, list_any_none, list_any_at}
use Rattle.std.proofs.lemmas.List.Sorted.{searchable_from_sorted, list_any-IsPermutation, length_permutation}
use Rattle.std.proofs.lemmas.List.Sorted.{IsPermutation-map, ranks_by}
use Rattle.std.specs.Cmp.{IsStrictWeakOrder}
use Rattle.dsn_mask.specs.Filter.{entry_fits}
use Rattle.dsn_mask.specs.Quoted.{AreFew, AreSortedPlaces, AreSortedTexts, fits_as_mask, is_quoted, text_at, text_in}
use Rattle.dsn_mask.specs.Quoted.{texts_of}
use Rattle.dsn_mask.specs.declared.entry.Entry.{Entry}
use Rattle.dsn_mask.specs.declared.entry.Entry.TheVariants.{Quoted, Dots, Plain}

-- the texts of the quoted entries

texts_of-append : (xs ys : List Entry) → texts_of (xs ++ ys) ≡ texts_of xs ++ texts_of ys
texts_of-append [] ys = refl
texts_of-append (Quoted literal ∷ xs) ys = ap (λ more. literal ∷ more) (texts_of-append xs ys)
texts_of-append (Dots mask ∷ xs) ys = texts_of-append xs ys
texts_of-append (Plain simple ∷ xs) ys = texts_of-append xs ys

pub more_texts : (xs : List Entry) (i : ℕ) (entry : Entry) → i < length xs → entry ≡ get_or xs i entry → texts_of (take (i + 1) xs) ≡ texts_of (take i xs) ++ texts_of (entry ∷ [])
more_texts xs i entry less e =
    ap texts_of (take_more xs i entry less) ∙ texts_of-append (take i xs) (get_or xs i entry ∷ []) ∙ ap (λ x. texts_of (take i xs) ++ texts_of (x ∷ [])) (sym e)

quoted_text : (entry : Entry) → is_quoted entry ≡ true → texts_of (entry ∷ []) ≡ text_in (Some entry) ∷ []
quoted_text (Quoted literal) e = refl
quoted_text (Dots mask) e = absurd (cc)
quoted_text (Plain simple) e = absurd (cc)

no_text : (entry : Entry) → is_quoted entry ≡ false → texts_of (entry ∷ []) ≡ []
no_text (Quoted literal) e = absurd (cc)
no_text (Dots mask) e = refl
no_text (Plain simple) e = refl

module _ (entries : List Entry) (place : ℕ) (entry : Entry) (inside : place < length entries) (is : entry ≡ get_or entries place entry) (old : List ℕ) (before : map (text_at entries) old ≡ texts_of (take place entries)) where
  pub place_kept : {new : List ℕ} → is_quoted entry ≡ true → new ≡ old ++ place ∷ [] → map (text_at entries) new ≡ texts_of (take (place + 1) entries)
  place_kept quoted pushed =
      let there : text_at entries place ≡ text_in (Some entry) = ap text_in (slice_get-get_or entries place entry inside ∙ ap Some (sym is)) in
      ap (map (text_at entries)) pushed ∙ map-append (text_at entries) old (place ∷ []) ∙ ap (λ xs. xs ++ text_at entries place ∷ []) before ∙ ap (λ x. texts_of (take place entries) ++ x ∷ []) there
      ∙ ap (λ xs. texts_of (take place entries) ++ xs) (sym (quoted_text entry quoted)) ∙ sym (more_texts entries place entry inside is)

  pub place_passed : is_quoted entry ≡ false → map (text_at entries) old ≡ texts_of (take (place + 1) entries)
  place_passed masked =
      before ∙ sym (append-nil (texts_of (take place entries))) ∙ ap (λ xs. texts_of (take place entries) ++ xs) (sym (no_text entry masked)) ∙ sym (more_texts entries place entry inside is)

-- sorted places

pub sorted_texts_of : (entries : List Entry) (places : List ℕ) → IsSortedBy (λ one other. is_lt (slice_cmp nat_cmp (text_at entries one) (text_at entries other))) places → IsSorted (slice_cmp nat_cmp) (map (text_at entries) places)
sorted_texts_of entries places s k d from less =
    let long : length (map (text_at entries) places) ≡ length places = length-map places (text_at entries) in
    let inside : k + 1 < length places = omega (arith, less, long) in
    subst (λ x. is_lt (slice_cmp nat_cmp x (get_or (map (text_at entries) places) k d)) ≡ false) (sym (get_or-map (text_at entries) places (k + 1) 0 d inside))
    (subst (λ x. is_lt (slice_cmp nat_cmp (text_at entries (get_or places (k + 1) 0)) x) ≡ false) (sym (get_or-map (text_at entries) places k 0 d (omega (arith, inside)))) (s k 0 from inside))

pub sorted_by_texts : (entries : List Entry) → IsStrictWeakOrder (λ one other. is_lt (slice_cmp nat_cmp (text_at entries one) (text_at entries other)))
sorted_by_texts entries = ranks_by nat_list_cmp_total (text_at entries)

pub places_of : (entries : List Entry) {places sorted : List ℕ} → map (text_at entries) places ≡ texts_of entries → IsPermutation places sorted → IsSorted (slice_cmp nat_cmp) (map (text_at entries) sorted) → AreSortedPlaces entries sorted
places_of entries {places} {sorted} all same up = (subst (λ xs. IsPermutation xs (map (text_at entries) sorted)) all (IsPermutation-map (text_at entries) places sorted same), up)

pub text_there : (entries : List Entry) (rest : List ℕ) (at d : ℕ) → at < length rest → {text : List ℕ} → text ≡ text_at entries (get_or rest at d) → text ≡ get_or (map (text_at entries) rest) at text
text_there entries rest at d inside {text} e = e ∙ sym (get_or-map (text_at entries) rest at d text inside)

pub held_texts : {entries held : List Entry} {places there : List ℕ} → held ≡ entries → there ≡ places → map (text_at held) there ≡ map (text_at entries) places
held_texts {entries} {held} {places} {there} e f = ap (λ xs. map (text_at xs) there) e ∙ ap (map (text_at entries)) f

pub places_few : (entries : List Entry) (places : List ℕ) (comparisons : ℕ) → 2 ^ comparisons ≤ 2 * length places + 1 → 2 ^ comparisons ≤ 2 * length (map (text_at entries) places) + 1
places_few entries places comparisons few = subst (λ n. 2 ^ comparisons ≤ 2 * n + 1) (sym (length-map places (text_at entries))) few

-- an entry fits as a quoted one or as a mask

quoted_first : (b t m : Bool) → (b || (t || m)) ≡ ((b || t) || m)
quoted_first true t m = refl
quoted_first false t m = refl

mask_first : (b t m : Bool) → (b || (t || m)) ≡ (t || (b || m))
mask_first true true m = refl
mask_first true false m = refl
mask_first false t m = refl

pub fits_either : (value : List ℕ) (entries : List Entry) → list_any (entry_fits value) entries ≡ (list_any (λ text. bytes_eq text value) (texts_of entries) || list_any (fits_as_mask value) entries)
fits_either value [] = refl
fits_either value (Quoted literal ∷ entries) = ap (λ b. bytes_eq literal value || b) (fits_either value entries) ∙ quoted_first (bytes_eq literal value) _ _
fits_either value (Dots mask ∷ entries) = ap (λ b. entry_fits value (Dots mask) || b) (fits_either value entries) ∙ mask_first (entry_fits value (Dots mask)) _ _
fits_either value (Plain simple ∷ entries) = ap (λ b. entry_fits value (Plain simple) || b) (fits_either value entries) ∙ mask_first (entry_fits value (Plain simple)) _ _

-- sorted texts

abbrev pub Rises : List ℕ → List (List ℕ) → Type 0
Rises value texts = IsNonDecreasingBy (λ text. ordering_index (slice_cmp nat_cmp text value)) texts

pub rises : (value : List ℕ) (entries : List Entry) (texts : List (List ℕ)) → AreSortedTexts entries texts → Rises value texts
rises value entries texts s = searchable_from_sorted nat_list_cmp_total (λ text. text) texts value s.1

pub fits_sorted : (value : List ℕ) (entries : List Entry) (texts : List (List ℕ)) → AreSortedTexts entries texts
    → list_any (entry_fits value) entries ≡ (list_any (λ text. bytes_eq text value) texts || list_any (fits_as_mask value) entries)
fits_sorted value entries texts s = fits_either value entries ∙ ap (λ b. b || list_any (fits_as_mask value) entries) (list_any-IsPermutation (λ text. bytes_eq text value) (texts_of entries) texts s.0)

pub few_sorted : (comparisons : ℕ) (entries : List Entry) (texts : List (List ℕ)) → AreSortedTexts entries texts → 2 ^ comparisons ≤ 2 * length texts + 1 → AreFew comparisons entries
few_sorted comparisons entries texts s few = subst (λ n. 2 ^ comparisons ≤ 2 * n + 1) (length_permutation (texts_of entries) texts s.0) few

-- what is found among the texts, or else among the masks

or_left : (b m : Bool) → b ≡ true → (b || m) ≡ b
or_left true m e = refl
or_left false m e = absurd (cc)

or_right : (b m : Bool) → b ≡ false → (b || m) ≡ m
or_right true m e = absurd (cc)
or_right false m e = refl

module _ (value : List ℕ) {entries view : List Entry} {texts held : List (List ℕ)} (is : entries ≡ view) (here : held ≡ texts) (sorted : AreSortedTexts entries texts) where
  pub held_rise : Rises value held
  held_rise = subst (Rises value) (sym here) (rises value entries texts sorted)

  pub held_few : (comparisons : ℕ) → 2 ^ comparisons ≤ 2 * length held + 1 → AreFew comparisons view
  held_few comparisons few = subst (AreFew comparisons) is (few_sorted comparisons entries texts sorted (subst (λ xs. 2 ^ comparisons ≤ 2 * length xs + 1) here few))

  held_fits : (found : Bool) → found ≡ list_any (λ text. bytes_eq text value) held → list_any (entry_fits value) view ≡ (found || list_any (fits_as_mask value) entries)
  held_fits found e =
      ap (list_any (entry_fits value)) (sym is) ∙ fits_sorted value entries texts sorted
      ∙ ap (λ b. b || list_any (fits_as_mask value) entries) (sym (e ∙ ap (list_any (λ text. bytes_eq text value)) here))

  pub held_found : (found : Bool) → found ≡ list_any (λ text. bytes_eq text value) held → found ≡ true → found ≡ list_any (entry_fits value) view
  held_found found e is_found = sym (held_fits found e ∙ or_left found _ is_found)

  pub held_masks : (found masks : Bool) (all : List Entry) → found ≡ list_any (λ text. bytes_eq text value) held → found ≡ false → all ≡ entries → masks ≡ list_any (fits_as_mask value) all
      → masks ≡ list_any (entry_fits value) view
  held_masks found masks all e not_found same m = m ∙ ap (list_any (fits_as_mask value)) same ∙ sym (held_fits found e ∙ or_right found _ not_found)

-- a text that stands before or behind the value is another one

is_other : (text value : List ℕ) (order : Ordering) → slice_cmp nat_cmp text value ≡ order → is_eq order ≡ false → bytes_eq text value ≡ false
is_other text value order e f = texts_ties text value ∙ ap is_eq e ∙ f

is_same : (text value : List ℕ) → slice_cmp nat_cmp text value ≡ Equal → bytes_eq text value ≡ true
is_same text value e = texts_ties text value ∙ ap is_eq e

less_at_most : (order : Ordering) → ordering_index order ≤ 0 → is_eq order ≡ false
less_at_most Less h = refl
less_at_most Equal h = absurd (omega (arith, h))
less_at_most Greater h = refl

greater_at_least : (order : Ordering) → 2 ≤ ordering_index order → is_eq order ≡ false
greater_at_least Less h = refl
greater_at_least Equal h = absurd (omega (arith, h))
greater_at_least Greater h = refl

module _ (value : List ℕ) (texts : List (List ℕ)) (up : Rises value texts) (at : ℕ) (text : List ℕ) (inside : at < length texts) (is : text ≡ get_or texts at text) where
  same : List ℕ → Bool
  same other = bytes_eq other value

  order_there : (order : Ordering) → slice_cmp nat_cmp text value ≡ order → (d : List ℕ) → ordering_index (slice_cmp nat_cmp (get_or texts at text) value) ≡ ordering_index order
  order_there order e d = ap (λ x. ordering_index (slice_cmp nat_cmp x value)) (sym is) ∙ ap ordering_index e

  pub found_there : slice_cmp nat_cmp text value ≡ Equal → list_any (λ other. bytes_eq other value) texts ≡ true
  found_there e = list_any_at (λ other. bytes_eq other value) texts at text inside (ap (λ x. bytes_eq x value) (sym is) ∙ is_same text value e)

  low_before : slice_cmp nat_cmp text value ≡ Less → (i : ℕ) (d : List ℕ) → i ≤ at → bytes_eq (get_or texts i d) value ≡ false
  low_before e i d below =
      is_other (get_or texts i d) value _ refl (less_at_most _ (subst (λ n. ordering_index (slice_cmp nat_cmp (get_or texts i d) value) ≤ n) (ap (λ x. ordering_index (slice_cmp nat_cmp x value)) (get_or_default texts at d text inside) ∙ order_there Less e text) (up i at d below inside)))

  none_low : slice_cmp nat_cmp text value ≡ Less → All (λ other. bytes_eq other value ≡ false) (take (at + 1) texts)
  none_low e i d less =
      let below : i < at + 1 = omega (arith, less, length-take (at + 1) texts, inside) in
      subst (λ x. bytes_eq x value ≡ false) (sym (get_or-take (at + 1) texts i d below)) (low_before e i d (omega (arith, below)))

  pub skips_low : slice_cmp nat_cmp text value ≡ Less → list_any (λ other. bytes_eq other value) texts ≡ list_any (λ other. bytes_eq other value) (drop (at + 1) texts)
  skips_low e =
      ap (list_any (λ other. bytes_eq other value)) (sym (take-append-drop (at + 1) texts)) ∙ list_any-append (λ other. bytes_eq other value) (take (at + 1) texts) (drop (at + 1) texts)
      ∙ ap (λ b. b || list_any (λ other. bytes_eq other value) (drop (at + 1) texts)) (list_any_none (λ other. bytes_eq other value) (take (at + 1) texts) (none_low e))

  high_behind : slice_cmp nat_cmp text value ≡ Greater → (i : ℕ) (d : List ℕ) → at ≤ i → i < length texts → bytes_eq (get_or texts i d) value ≡ false
  high_behind e i d above less =
      is_other (get_or texts i d) value _ refl (greater_at_least _ (subst (λ n. n ≤ ordering_index (slice_cmp nat_cmp (get_or texts i d) value)) (ap (λ x. ordering_index (slice_cmp nat_cmp x value)) (get_or_default texts at d text inside) ∙ order_there Greater e text) (up at i d above less)))

  none_high : slice_cmp nat_cmp text value ≡ Greater → All (λ other. bytes_eq other value ≡ false) (drop at texts)
  none_high e i d less =
      let within : at + i < length texts = omega (arith, less, length-drop at texts) in
      subst (λ x. bytes_eq x value ≡ false) (sym (get_or-drop at texts i d)) (high_behind e (at + i) d (omega arith) within)

  or_none : (b : Bool) → (b || false) ≡ b
  or_none true = refl
  or_none false = refl

  pub skips_high : slice_cmp nat_cmp text value ≡ Greater → list_any (λ other. bytes_eq other value) texts ≡ list_any (λ other. bytes_eq other value) (take at texts)
  skips_high e =
      ap (list_any (λ other. bytes_eq other value)) (sym (take-append-drop at texts)) ∙ list_any-append (λ other. bytes_eq other value) (take at texts) (drop at texts)
      ∙ ap (λ b. list_any (λ other. bytes_eq other value) (take at texts) || b) (list_any_none (λ other. bytes_eq other value) (drop at texts) (none_high e)) ∙ or_none _

-- what halving takes: so many are left of all, after the steps from the start to now

abbrev pub Halved : ℕ → ℕ → ℕ → ℕ → Type 0
Halved start now left all = (start ≤ now) × (2 ^ (now - start) * left ≤ all) × (2 ^ (now - start) ≤ 2 * all + 1)

pub halved_start : (start all : ℕ) → Halved start start all all
halved_start start all =
    let none : start - start ≡ 0 = omega arith in
    (omega arith, subst (λ s. 2 ^ s * all ≤ all) (sym none) (omega arith), subst (λ s. 2 ^ s ≤ 2 * all + 1) (sym none) (omega arith))

abbrev Cheap : ℕ → ℕ → ℕ → Type 0
Cheap s left all = (2 ^ s * left ≤ all) × (2 ^ s ≤ 2 * all + 1)

cheap_next : (s some left all : ℕ) → 1 ≤ some → 2 * left ≤ some → 2 ^ s * some ≤ all → Cheap (suc s) left all
cheap_next s some left all one half most =
    let e : 2 ^ suc s ≡ 2 ^ s * 2 = pow-suc 2 s in
    let a : 2 ^ s * (2 * left) ≤ 2 ^ s * some = mul-le-mul_left (2 ^ s) half in
    let b : 2 ^ s * 2 * left ≡ 2 ^ s * (2 * left) = mul_assoc (2 ^ s) 2 left in
    let c : 2 ^ s * 1 ≤ 2 ^ s * some = mul-le-mul_left (2 ^ s) one in
    (subst (λ x. x * left ≤ all) (sym e) (subst (λ x. x ≤ all) (sym b) (le_trans a most)), subst (λ x. x ≤ 2 * all + 1) (sym e) (omega (arith, c, most)))

pub halved_next : {start now next some all : ℕ} (left : ℕ) → next ≡ now + 1 → 1 ≤ some → 2 * left ≤ some → Halved start now some all → Halved start next left all
halved_next {start} {now} {next} {some} {all} left e one half h =
    let s : next - start ≡ suc (now - start) = omega (arith, e, h.0) in
    let c = cheap_next (now - start) some left all one half h.1 in
    (omega (arith, e, h.0), subst (λ x. 2 ^ x * left ≤ all) (sym s) c.0, subst (λ x. 2 ^ x ≤ 2 * all + 1) (sym s) c.1)
