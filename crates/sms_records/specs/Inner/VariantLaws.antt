-- What the forms of enums promise.
use Rattle.std.proofs.Common.{◌≡◌, ℕ, zero, suc, ◌+◌, ◌≤◌, List, [], ◌∷◌, ◌++◌, length, Option, Some, None, refl, sym}
use Rattle.std.proofs.Common.{ap, subst, ◌∙◌, arith}
use Rattle.std.specs.Prelude.{slice_get}
use Rattle.sms_records.specs.Form.{Form, Takes, IsExact, IsReadable, byte_at, made, variants, variant_at, made_at}
use Rattle.sms_records.specs.Form.{bare_at, IsVariant, AreVariants}
use Rattle.sms_records.specs.Inner.FormLaws.{AreBytes-rest, bind_some, some_is, seen_as}

-- a thing, and those behind it
infixr 30 ◌also◌
abbrev pub ◌also◌ : {A B : Type 0} → A → B → A × B
first also others = (first, others)

pub variant_exact : {P T : Type 0} (write : T → List ℕ) (tag : ℕ) (payload : Form P) (make : P → T) → IsExact payload
    → ((p : P) → write (make p) ≡ tag ∷ payload.write p) → IsVariant write tag (made_at payload make)
unfolding made_at
variant_exact write tag payload make exact written bytes rest x fits e =
    let a = bind_some (payload.read bytes) (λ p. Some (make p.0, p.1)) (x, rest) e in
    let t = exact bytes a.0.1 a.0.0 (AreBytes-rest tag bytes fits) a.1 in
    let whole : Takes (tag ∷ bytes) (write (make a.0.0)) a.0.1 = record {
      parts = ap (λ (w : List ℕ). tag ∷ w) t.parts ∙ ap (λ (w : List ℕ). w ++ a.0.1) (sym (written a.0.0));
      rest_fits = t.rest_fits;
    } in
    subst (λ (p : _ × List ℕ). Takes (tag ∷ bytes) (write p.0) p.1) (some_is (make a.0.0, a.0.1) (x, rest) a.2) whole

found-variant : {T : Type 0} (write : T → List ℕ) (tag at k : ℕ) (readers : List (List ℕ → Option (T × List ℕ)))
    (reader : List ℕ → Option (T × List ℕ)) → AreVariants write at readers → slice_get readers k ≡ Some reader
    → at + k ≡ tag → IsVariant write tag reader
found-variant write tag at k [] reader all e is = absurd cc
found-variant write tag at zero (first ∷ others) reader all e is =
    let same : at ≡ tag = omega (arith, is) in
    subst (λ (r : _). IsVariant write tag r) (some_is first reader e)
    (subst (λ (t : ℕ). IsVariant write t first) same all.0)
found-variant write tag at (suc k) (first ∷ others) reader all e is =
    found-variant write tag (suc at) k others reader all.1 e (omega (arith, is))

pub variants_exact : {T : Type 0} (write : T → List ℕ) (readers : List (List ℕ → Option (T × List ℕ)))
    → AreVariants write 0 readers → IsExact (variants write readers)
unfolding variant_at
variants_exact write readers all [] rest x fits e = absurd cc
variants_exact write readers all (tag ∷ bytes) rest x fits e =
    let a = bind_some (slice_get readers tag) (λ reader. reader bytes) (x, rest) e in
    found-variant write tag 0 tag readers a.0 all a.1 (omega arith) bytes rest x fits a.2

pub variant_readable : {P T : Type 0} (write : T → List ℕ) (readers : List (List ℕ → Option (T × List ℕ))) (tag : ℕ)
    (payload : Form P) (make : P → T) (p : P) → IsReadable payload p → write (make p) ≡ tag ∷ payload.write p
    → slice_get readers tag ≡ Some (made_at payload make) → IsReadable (variants write readers) (make p)
unfolding variant_at made_at
variant_readable write readers tag payload make p again written at rest =
    ap (variant_at readers) (ap (λ (t : List ℕ). t ++ rest) written) ∙ rw (at, again rest) refl

pub bare_exact : {T : Type 0} (write : T → List ℕ) (tag : ℕ) (x : T) → write x ≡ tag ∷ []
    → IsVariant write tag (bare_at x)
bare_exact write tag x written bytes rest y fits e =
    let whole : Takes (tag ∷ bytes) (write x) bytes = record {
      parts = ap (λ (w : List ℕ). w ++ bytes) (sym written);
      rest_fits = AreBytes-rest tag bytes fits;
    } in
    subst (λ (p : _ × List ℕ). Takes (tag ∷ bytes) (write p.0) p.1) (some_is (x, bytes) (y, rest) e) whole

pub bare_readable : {T : Type 0} (write : T → List ℕ) (readers : List (List ℕ → Option (T × List ℕ))) (tag : ℕ)
    (x : T) → write x ≡ tag ∷ [] → slice_get readers tag ≡ Some (bare_at x) → IsReadable (variants write readers) x
unfolding variant_at
bare_readable write readers tag x written at rest = ap (variant_at readers) (ap (λ (t : List ℕ). t ++ rest) written)
    ∙ rw at refl

pub past_readers : {T : Type 0} (readers : List (List ℕ → Option (T × List ℕ))) (tag : ℕ) → length readers ≤ tag
    → slice_get readers tag ≡ None
past_readers [] tag le = refl
past_readers (reader ∷ readers) zero le = absurd (omega (arith, le))
past_readers (reader ∷ readers) (suc tag) le = past_readers readers tag (omega (arith, le))

pub variant_again : {P T : Type 0} (write : T → List ℕ) (readers : List (List ℕ → Option (T × List ℕ))) (tag : ℕ)
    (payload : Form P) (make : P → T) (p : P) (x : T)
    → slice_get readers tag ≡ Some (made_at payload make) → write (make p) ≡ tag ∷ payload.write p → x ≡ make p
    → IsReadable payload p → IsReadable (variants write readers) x
variant_again write readers tag payload make p x at written is again =
    seen_as (variants write readers) x (make p) is
    (variant_readable write readers tag payload make p again written at)

pub bare_again : {T : Type 0} (write : T → List ℕ) (readers : List (List ℕ → Option (T × List ℕ))) (tag : ℕ)
    (made x : T) → write made ≡ tag ∷ [] → slice_get readers tag ≡ Some (bare_at made) → x ≡ made
    → IsReadable (variants write readers) x
bare_again write readers tag made x written at is =
    seen_as (variants write readers) x made is (bare_readable write readers tag made written at)

pub variant_past : {T : Type 0} (readers : List (List ℕ → Option (T × List ℕ))) (bytes : List ℕ) (tag : ℕ)
    (rest : List ℕ) → byte_at bytes ≡ Some (tag, rest) → length readers ≤ tag → variant_at readers bytes ≡ None
unfolding variant_at
variant_past readers bytes tag rest first le = rw (first, past_readers readers tag le) refl

pub as_written : {T : Type 0} (write : T → List ℕ) (old new : List ℕ) (x made : T) → x ≡ made → new ≡ old ++ write made
    → new ≡ old ++ write x
as_written write old new x made is written = written ∙ ap (λ (y : _). old ++ write y) (sym is)
