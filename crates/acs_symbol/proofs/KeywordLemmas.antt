-- A word is looked for among the keywords of its length, as it stands where it has no small letter.
use Rattle.std.proofs.Common.{◌≡◌, ℕ, Bool, true, false, List, [], ◌∷◌, length, refl, sym, ap, ◌∙◌, arith}
use Rattle.std.proofs.Common.{◌⊎◌, inl, inr, subst}
use Rattle.std.specs.Prelude.{◌==◌, ◌&&◌, bytes_eq, if◌then◌else◌}
use Rattle.std.specs.List.{list_all}
use Rattle.std.specs.Str.{str_to_ascii_uppercase}
use Rattle.dsn_mask.specs.Name.{is_digit}
use Rattle.acs_tree.specs.Ident.{is_upper_byte}
use Rattle.acs_tree.proofs.UpperLemmas.{upper_stays}
use Rattle.acs_symbol.specs.declared.symbol.WordKind.{WordKind}
use Rattle.acs_symbol.specs.declared.symbol.WordKind.TheVariants.{Number, Other}
use Rattle.std.proofs.lemmas.Bool.Decides.{nat_tests}
use Rattle.std.proofs.lemmas.Slice.Eq.{bytes_eq-Decides}
use Rattle.acs_symbol.specs.Symbols.{outer_words, inner_words, comparisons, listed, number_kind, word_kind}
use Rattle.acs_symbol.specs.Inner.Keywords.{sized, kind_among}

apart : (text other : List ℕ) (b : Bool) → bytes_eq text other ≡ b → (length other == length text) ≡ false → b ≡ false
apart text other true e h = grind (arith, nat_tests, ap length ((bytes_eq-Decides text other).0 e))
apart text other false e h = refl

one_row : {A : Type 0} (row : List ℕ × A) (kept rows : List (List ℕ × A)) (text : List ℕ) (other : A) (b : Bool) → (length row.0 == length text) ≡ b → listed kept text other ≡ listed rows text other → listed (if b then row ∷ kept else kept) text other ≡ listed (row ∷ rows) text other
one_row row kept rows text other true e h = ap (λ found. if bytes_eq text row.0 then row.1 else found) h
one_row row kept rows text other false e h = h ∙ ap (λ b. if b then row.1 else listed rows text other) (sym (apart text row.0 (bytes_eq text row.0) refl e))

sized_listed : {A : Type 0} (rows : List (List ℕ × A)) (text : List ℕ) (other : A) → listed (sized (length text) rows) text other ≡ listed rows text other
sized_listed [] text other = refl
sized_listed {A} (row ∷ rows) text other = one_row row (sized (length text) rows) rows text other (length row.0 == length text) refl (sized_listed rows text other)

of_its_length : (text : List ℕ) → kind_among (length text) text ≡ word_kind text
unfolding kind_among
of_its_length text =
    sized_listed outer_words text (listed (sized (length text) inner_words) text (listed (sized (length text) comparisons) text (number_kind text)))
    ∙ ap (λ kind. listed outer_words text kind)
    (sized_listed inner_words text (listed (sized (length text) comparisons) text (number_kind text))
    ∙ ap (λ kind. listed inner_words text kind) (sized_listed comparisons text (number_kind text)))

-- what a word can be is found among the keywords of its length
pub among_its_length : (text : List ℕ) (count : ℕ) → length text ≡ count → kind_among count text ≡ word_kind text
among_its_length text count e = ap (λ n. kind_among n text) (sym e) ∙ of_its_length text

-- a word with no small letter is what it is as it stands
pub kind_stays : (text : List ℕ) → list_all is_upper_byte text ≡ true → word_kind (str_to_ascii_uppercase text) ≡ word_kind text
kind_stays text e = ap (λ z. word_kind z) (upper_stays text e)

both : (v w : Bool) → (v && w) ≡ true → (v ≡ true) × (w ≡ true)
both true w e = (refl, e)
both false w e = absurd (cc)

-- each text of a table has no small letter
abbrev all_upper : List (List ℕ × WordKind) → Bool
all_upper rows = list_all (λ (row : List ℕ × WordKind). list_all is_upper_byte row.0) rows

found_by : (row : List ℕ × WordKind) (text : List ℕ) (found rest last : WordKind) (b : Bool) → bytes_eq text row.0 ≡ b → list_all is_upper_byte row.0 ≡ true
    → (list_all is_upper_byte text ≡ true) ⊎ (rest ≡ last) → (list_all is_upper_byte text ≡ true) ⊎ ((if b then found else rest) ≡ last)
found_by row text found rest last true e u h = inl (subst (λ z. list_all is_upper_byte z ≡ true) (sym ((bytes_eq-Decides text row.0).0 e)) u)
found_by row text found rest last false e u h = h

-- what is found in such a table has no small letter
found_upper : (rows : List (List ℕ × WordKind)) (text : List ℕ) (last : WordKind) → all_upper rows ≡ true → (list_all is_upper_byte text ≡ true) ⊎ (listed rows text last ≡ last)
found_upper [] text last h = inr refl
found_upper (row ∷ rows) text last h =
    let parts = both (list_all is_upper_byte row.0) (all_upper rows) h in
    found_by row text row.1 (listed rows text last) last (bytes_eq text row.0) refl parts.0 (found_upper rows text last parts.1)

digit_upper : (b : ℕ) → is_digit b ≡ true → is_upper_byte b ≡ true
digit_upper b e = grind (arith, nat_tests)

digits_upper : (text : List ℕ) → list_all is_digit text ≡ true → list_all is_upper_byte text ≡ true
digits_upper [] e = refl
digits_upper (b ∷ text) e =
    let parts = both (is_digit b) (list_all is_digit text) e in
    rw (digit_upper b parts.0) (digits_upper text parts.1)

number_upper : (text : List ℕ) (b : Bool) → list_all is_digit text ≡ b → (list_all is_upper_byte text ≡ true) ⊎ ((if b then Number else Other) ≡ Other)
number_upper text true e = inl (digits_upper text e)
number_upper text false e = inr refl

then_same : {A : Type 0} {x y z : WordKind} → A ⊎ (x ≡ y) → A ⊎ (y ≡ z) → A ⊎ (x ≡ z)
then_same (inl a) q = inl a
then_same (inr p) (inl a) = inl a
then_same (inr p) (inr q) = inr (p ∙ q)

upper_or_other : (text : List ℕ) → (list_all is_upper_byte text ≡ true) ⊎ (word_kind text ≡ Other)
upper_or_other text =
    then_same (found_upper outer_words text (listed inner_words text (listed comparisons text (number_kind text))) refl)
    (then_same (found_upper inner_words text (listed comparisons text (number_kind text)) refl)
    (then_same (found_upper comparisons text (number_kind text) refl) (number_upper text (list_all is_digit text) refl)))

stays_by : (text : List ℕ) (kind : WordKind) → word_kind text ≡ kind → (kind ≡ Other → ⊥) → (list_all is_upper_byte text ≡ true) ⊎ (word_kind text ≡ Other) → kind ≡ word_kind (str_to_ascii_uppercase text)
stays_by text kind e named (inl u) = sym (kind_stays text u ∙ e)
stays_by text kind e named (inr o) = absurd (named (sym e ∙ o))

-- a keyword or a number is what it is as it stands
pub keyword_stays : (text : List ℕ) (kind : WordKind) → word_kind text ≡ kind → (kind ≡ Other → ⊥) → kind ≡ word_kind (str_to_ascii_uppercase text)
keyword_stays text kind e named = stays_by text kind e named (upper_or_other text)
