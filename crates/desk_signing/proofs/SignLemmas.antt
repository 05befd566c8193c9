-- One more entry of the signed list.
use Rattle.std.proofs.Common.{◌≡◌, ℕ, zero, suc, ◌+◌, ◌<◌, List, [], ◌∷◌, ◌++◌, length, Some, None}
use Rattle.std.proofs.Common.{append_assoc, eq-eqb, refl, sym, ap, ◌∙◌, arith}
use Rattle.std.proofs.lemmas.List.Elements.{All-nil, All-cons}
use Rattle.sms_construct.specs.declared.entry.Entry.{Entry}
use Rattle.turn_lock.specs.declared.signed.Signed.{Signed}
use Rattle.turn_lock.specs.Views.{AreUnsigned, IsMine, IsUnsigned, StartsWith, made_by}
use Rattle.turn_lock.proofs.StepLemmas.{made_more}
use Rattle.desk_law.specs.State.{Opening}
use Rattle.desk_signing.specs.declared.event.Event.{Event}
use Rattle.desk_signing.specs.declared.event.Event.TheVariants.{Began, Made}
use Rattle.desk_signing.specs.Signing.{by_seat, entries_in, entry_in, events, made, opening_in, sign, signed}

sign_unsigned : (before : ℕ) (js : List Entry) → AreUnsigned (sign before js [])
sign_unsigned before [] = All-nil IsUnsigned
sign_unsigned zero (j ∷ js) = All-cons IsUnsigned (made None j) (sign zero js []) refl (sign_unsigned zero js)
sign_unsigned (suc b) (j ∷ js) = All-cons IsUnsigned (made None j) (sign b js []) refl (sign_unsigned b js)

-- no seat made an entry of a new desk
pub signed_unsigned : (o : Opening) (mark before : ℕ) (js : List Entry) → AreUnsigned (signed o mark before js [])
signed_unsigned o mark before js = All-cons IsUnsigned _ (sign before js []) refl (sign_unsigned before js)

sign_push : (before : ℕ) (js : List Entry) (ns : List ℕ) (e : Entry) (n : ℕ) → length js ≡ before + length ns
    → sign before (js ++ e ∷ []) (ns ++ n ∷ []) ≡ sign before js ns ++ made (Some n) e ∷ []
sign_push zero [] [] e n h = refl
sign_push zero [] (m ∷ ms) e n h = absurd (omega arith)
sign_push (suc b) [] ns e n h = absurd (omega arith)
sign_push zero (x ∷ xs) [] e n h = absurd (omega arith)
sign_push zero (x ∷ xs) (m ∷ ms) e n h = ap (λ es. made (Some m) x ∷ es) (sign_push zero xs ms e n (omega arith))
sign_push (suc b) (x ∷ xs) ns e n h = ap (λ es. made None x ∷ es) (sign_push b xs ns e n (omega arith))

-- one more entry, with the number of its seat
pub signed_push : (o : Opening) (mark before : ℕ) (js : List Entry) (ns : List ℕ) (e : Entry) (n : ℕ) → length js ≡ before + length ns
    → signed o mark before (js ++ e ∷ []) (ns ++ n ∷ []) ≡ signed o mark before js ns ++ by_seat n (e ∷ [])
signed_push o mark before js ns e n h = ap (λ es. record { by = None; entry = Began o mark before } ∷ es) (sign_push before js ns e n h)

sign_entries : (before : ℕ) (js : List Entry) (ns : List ℕ) → entries_in (sign before js ns) ≡ js
sign_entries before [] ns = refl
sign_entries zero (j ∷ js) [] = ap (λ es. j ∷ es) (sign_entries zero js [])
sign_entries zero (j ∷ js) (n ∷ ns) = ap (λ es. j ∷ es) (sign_entries zero js ns)
sign_entries (suc b) (j ∷ js) ns = ap (λ es. j ∷ es) (sign_entries b js ns)

-- the entries of the signed list are the journal
pub signed_entries : (o : Opening) (mark before : ℕ) (js : List Entry) (ns : List ℕ) → entries_in (signed o mark before js ns) ≡ js
signed_entries o mark before js ns = sign_entries before js ns

pub entries_append : (xs ys : List (Signed Event)) → entries_in (xs ++ ys) ≡ entries_in xs ++ entries_in ys
entries_append [] ys = refl
entries_append (x ∷ xs) ys = ap (λ es. entry_in x.entry ++ es) (entries_append xs ys) ∙ sym (append_assoc (entry_in x.entry) (entries_in xs) (entries_in ys))

pub by_seat_entries : (n : ℕ) (es : List Entry) → entries_in (by_seat n es) ≡ es
by_seat_entries n [] = refl
by_seat_entries n (e ∷ es) = ap (λ xs. e ∷ xs) (by_seat_entries n es)

-- what the seat adds is its own
pub by_seat_mine : (n : ℕ) (es : List Entry) → IsMine n (by_seat n es)
by_seat_mine n [] = tt
by_seat_mine n (e ∷ es) = (refl, by_seat_mine n es)

pub made_by_seat : (n : ℕ) (es : List Entry) → made_by n (by_seat n es) ≡ events es
made_by_seat n [] = refl
made_by_seat n (e ∷ es) = rw (eq-eqb n n refl) (ap (λ xs. Made e ∷ xs) (made_by_seat n es))

-- what the seat made grows by what it adds
pub mine_more : (n : ℕ) (list : List (Signed Event)) (es : List Entry) → made_by n (list ++ by_seat n es) ≡ made_by n list ++ events es
mine_more n list es = made_more n list (by_seat n es) ∙ ap (λ xs. made_by n list ++ xs) (made_by_seat n es)

-- a list that goes on has the same opening
pub opening-starts : (list seen : List (Signed Event)) → StartsWith list seen → 0 < length seen → opening_in list ≡ opening_in seen
opening-starts list [] starts some = absurd (omega arith)
opening-starts list (e ∷ seen) starts some = ap opening_in starts.1

-- and its entries go on
pub entries-starts : (list seen : List (Signed Event)) → (starts : StartsWith list seen) → entries_in list ≡ entries_in seen ++ entries_in starts.0
entries-starts list seen starts = ap entries_in starts.1 ∙ entries_append seen starts.0
