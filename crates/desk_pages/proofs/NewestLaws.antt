-- The last entries of a journal, one after the other.
use Rattle.std.proofs.Common.{◌≡◌, ◌∙◌, ◌++◌, ◌∷◌, ◌+◌, ◌<◌, ◌≤◌, ℕ, List, [], ap, sym, arith, length, length-append, get_or, take, map, append_assoc, append-nil}
use Rattle.std.specs.Prelude.{reverse}
use Rattle.std.proofs.lemmas.List.{take_more, take_all, take-append-le, reverse-append, length-map, map-append}
use Rattle.sms_construct.specs.declared.entry.Entry.{Entry}
use Rattle.desk_pages.specs.Listing.{most_shown}
use Rattle.desk_pages.specs.Newest.{newest}

-- some of the last entries were found, and so many are left
pub record AreNewest {X : Type 0} (f : X → Entry) (journal : List Entry) (left : ℕ) (found : List X) : Type 0 where
  pub whole : map f found ++ reverse (take left journal) ≡ reverse journal
  pub within : left ≤ length journal
  pub few : length found ≤ most_shown

pub newest_none : {X : Type 0} (f : X → Entry) (journal : List Entry) → AreNewest f journal (length journal) []
newest_none f journal = record { whole = ap reverse (take_all (length journal) journal (omega arith)); within = omega arith; few = omega arith }

-- one more was found
pub length_pushed : {X : Type 0} (x : X) (found found' : List X) → found' ≡ found ++ x ∷ [] → length found' ≡ length found + 1
length_pushed x found found' is = ap (λ l. length l) is ∙ length-append found (x ∷ [])

-- the last of a front comes first when it is turned
turned : (journal : List Entry) (n : ℕ) (entry : Entry) → n < length journal → entry ≡ get_or journal n entry → reverse (take (n + 1) journal) ≡ entry ∷ reverse (take n journal)
turned journal n entry less is =
    ap reverse (take_more journal n entry less ∙ ap (λ e. take n journal ++ e ∷ []) (sym is)) ∙ reverse-append (take n journal) (entry ∷ [])

pub newest_more : {X : Type 0} (f : X → Entry) (journal : List Entry) (left left' : ℕ) (found found' : List X) (x : X) → AreNewest f journal left found → left ≡ left' + 1 → found' ≡ found ++ x ∷ [] → f x ≡ get_or journal left' (f x) → (length found ≡ most_shown → ⊥) → AreNewest f journal left' found'
newest_more f journal left left' found found' x h one is there apart =
    let less : left' < length journal = omega (arith, h.within, one) in
    let step : reverse (take left journal) ≡ f x ∷ reverse (take left' journal) = ap (λ n. reverse (take n journal)) one ∙ turned journal left' (f x) less there in
    let pushed : map f found' ≡ map f found ++ f x ∷ [] = ap (λ l. map f l) is ∙ map-append f found (x ∷ []) in
    record {
      whole = ap (λ l. l ++ reverse (take left' journal)) pushed ∙ append_assoc (map f found) (f x ∷ []) (reverse (take left' journal)) ∙ ap (λ l. map f found ++ l) (sym step) ∙ h.whole;
      within = omega (arith, h.within, one);
      few = omega (arith, h.few, apart, ap (λ l. length l) is, length-append found (x ∷ []));
    }

-- the page is full
pub newest_full : {X : Type 0} (f : X → Entry) (journal : List Entry) (left : ℕ) (found : List X) → AreNewest f journal left found → length found ≡ most_shown → map f found ≡ newest journal
newest_full f journal left found h full =
    let rest = reverse (take left journal) in
    let long : length (map f found) ≡ most_shown = length-map found f ∙ full in
    sym (take_all most_shown (map f found) (omega (arith, long))) ∙ sym (take-append-le most_shown (map f found) rest (omega (arith, long))) ∙ ap (λ l. take most_shown l) h.whole

-- none is left
pub newest_all : {X : Type 0} (f : X → Entry) (journal : List Entry) (left : ℕ) (found : List X) → AreNewest f journal left found → left ≡ 0 → map f found ≡ newest journal
newest_all f journal left found h none =
    let whole : map f found ≡ reverse journal = sym (append-nil (map f found)) ∙ ap (λ n. map f found ++ reverse (take n journal)) (sym none) ∙ h.whole in
    sym (take_all most_shown (map f found) (omega (arith, h.few, length-map found f))) ∙ ap (λ l. take most_shown l) whole
