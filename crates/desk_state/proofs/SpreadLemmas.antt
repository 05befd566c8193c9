-- On how many volumes extents lie, gone over one by one.
use Rattle.std.proofs.Common.{◌≡◌, ◌<◌, ℕ, ◌+◌, Bool, true, false, cond, List, [], ◌∷◌, ◌++◌, length, map, get_or, take}
use Rattle.std.proofs.Common.{drop, refl, sym, ap, ◌∙◌, subst, arith}
use Rattle.std.specs.Prelude.{◌||◌, bytes_eq}
use Rattle.std.proofs.lemmas.List.{take_more, drop_more}
use Rattle.sms_construct.specs.declared.extent.Extent.{Extent}
use Rattle.desk_law.specs.Extents.{is_among, is_used, volumes_after}
use Rattle.desk_law.proofs.ByteLemmas.{same-bytes}

-- the volumes of extents, as they come
abbrev pub serials : List Extent → List (List ℕ)
serials es = map (λ e. e.volser) es

among-serials : (v : List ℕ) (es : List Extent) → is_among v (serials es) ≡ is_used v es
among-serials v [] = refl
among-serials v (e ∷ es) = ap (λ b. bytes_eq e.volser v || b) (among-serials v es)

or-apart : (a b c : Bool) → ((a || b) || c) ≡ (a || (b || c))
or-apart true b c = refl
or-apart false b c = refl

used-append : (v : List ℕ) (a b : List Extent) → is_used v (a ++ b) ≡ (is_used v a || is_used v b)
used-append v [] b = refl
used-append v (e ∷ a) b = ap (λ t. bytes_eq e.volser v || t) (used-append v a b) ∙ sym (or-apart (bytes_eq e.volser v) (is_used v a) (is_used v b))

-- the same volumes were seen
seen-at : (a b : List (List ℕ)) (e : Extent) (es : List Extent) (t : Bool) → is_among e.volser a ≡ t → is_among e.volser b ≡ t → volumes_after a es ≡ volumes_after b es → volumes_after (e.volser ∷ a) es ≡ volumes_after (e.volser ∷ b) es
    → volumes_after a (e ∷ es) ≡ volumes_after b (e ∷ es)
seen-at a b e es true in_a in_b stay more = rw (in_a, in_b) stay
seen-at a b e es false in_a in_b stay more = rw (in_a, in_b) (ap (λ (l : List (List ℕ)). e.volser ∷ l) more)

same-seen : (a b : List (List ℕ)) (es : List Extent) → ((v : List ℕ) → is_among v a ≡ is_among v b) → volumes_after a es ≡ volumes_after b es
same-seen a b [] same = refl
same-seen a b (e ∷ es) same =
    seen-at a b e es _ refl (sym (same e.volser)) (same-seen a b es same) (same-seen (e.volser ∷ a) (e.volser ∷ b) es (λ v. ap (λ t. bytes_eq e.volser v || t) (same v)))

or-seen : (v : List ℕ) (e : Extent) (es : List Extent) (b : Bool) → bytes_eq e.volser v ≡ b → is_used e.volser es ≡ true → is_used v es ≡ (is_used v es || (b || false))
or-seen v e es true on used =
    let here : is_used v es ≡ true = subst (λ n. is_used n es ≡ true) (same-bytes e.volser v on) used in rw here refl
or-seen v e es false on used = or-none (is_used v es)
  where
    or-none : (t : Bool) → t ≡ (t || false)
    or-none true = refl
    or-none false = refl

or-new : (t b : Bool) → (b || t) ≡ (t || (b || false))
or-new true true = refl
or-new true false = refl
or-new false true = refl
or-new false false = refl

counted-at : (front : List Extent) (e : Extent) (rest : List Extent) (b : Bool) → is_used e.volser front ≡ b
    → length (volumes_after (serials front) (e ∷ rest)) ≡ cond b 0 1 + length (volumes_after (serials (front ++ e ∷ [])) rest)
counted-at front e rest true used =
    let here : is_among e.volser (serials front) ≡ true = among-serials e.volser front ∙ used in
    let same = same-seen (serials front) (serials (front ++ e ∷ [])) rest (λ v.
    among-serials v front ∙ (or-seen v e front _ refl used ∙ sym (among-serials v (front ++ e ∷ []) ∙ used-append v front (e ∷ [])))) in
    rw here (omega (arith, ap (λ (l : List (List ℕ)). length l) same))
counted-at front e rest false used =
    let here : is_among e.volser (serials front) ≡ false = among-serials e.volser front ∙ used in
    let same = same-seen (e.volser ∷ serials front) (serials (front ++ e ∷ [])) rest (λ v.
    ap (λ t. bytes_eq e.volser v || t) (among-serials v front) ∙ (or-new (is_used v front) (bytes_eq e.volser v) ∙ sym (among-serials v (front ++ e ∷ []) ∙ used-append v front (e ∷ [])))) in
    rw here (omega (arith, ap (λ (l : List (List ℕ)). length l) same))

-- the volumes that are still to be counted, with one extent gone over
pub counted-more : (es : List Extent) (i : ℕ) (e : Extent) (b : Bool) → i < length es → e ≡ get_or es i e → is_used e.volser (take i es) ≡ b
    → length (volumes_after (serials (take i es)) (drop i es)) ≡ cond b 0 1 + length (volumes_after (serials (take (i + 1) es)) (drop (i + 1) es))
counted-more es i e b lt read used =
    let front : take (i + 1) es ≡ take i es ++ e ∷ [] = take_more es i e lt ∙ ap (λ (x : Extent). take i es ++ x ∷ []) (sym read) in
    let rest : drop i es ≡ e ∷ drop (i + 1) es = drop_more es i e lt ∙ ap (λ (x : Extent). x ∷ drop (i + 1) es) (sym read) in
    ap (λ (l : List Extent). length (volumes_after (serials (take i es)) l)) rest
    ∙ (counted-at (take i es) e (drop (i + 1) es) b used
    ∙ ap (λ (l : List Extent). cond b 0 1 + length (volumes_after (serials l) (drop (i + 1) es))) (sym front))
