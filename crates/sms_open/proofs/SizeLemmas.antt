-- How many extents lie on a volume.
use Rattle.std.proofs.Common.{◌≡◌, ◌≤◌, ◌<◌, ◌+◌, ℕ, zero, suc, Bool, true, false, cond, List, [], ◌∷◌, length, take}
use Rattle.std.proofs.Common.{get_or, refl, sym, ap, ◌∙◌, arith}
use Rattle.std.specs.Prelude.{bytes_eq}
use Rattle.sms_construct.specs.declared.extent.Extent.{Extent}
use Rattle.desk_law.proofs.ByteLemmas.{bytes-self, same-bytes}
use Rattle.desk_law.proofs.CountLemmas.{count-append, count-cons, count_on}
use Rattle.sms_open.specs.Inner.Targets.{number_on}
use Rattle.sms_open.proofs.EachLemmas.{take-end, take-one}

count-more : (v : List ℕ) (es : List Extent) (i : ℕ) (e : Extent) → i < length es → e ≡ get_or es i e → count_on v (take (i + 1) es) ≡ count_on v (take i es) + cond (bytes_eq e.volser v) 1 0
count-more v es i e less is = rw (take-one es i e less is) (omega (arith, count-append v (take i es) (e ∷ []), count-cons v e []))

pub count-front : (v : List ℕ) (es : List Extent) (i : ℕ) → count_on v (take i es) ≤ count_on v es
count-front v [] zero = omega arith
count-front v [] (suc i) = omega arith
count-front v (e ∷ es) zero = omega arith
count-front v (e ∷ es) (suc i) = omega (arith, count-cons v e (take i es), count-cons v e es, count-front v es i)

counted-at : (v w : List ℕ) (old seen count : ℕ) (b : Bool) → bytes_eq w v ≡ b → old ≡ seen → (w ≡ v → count ≡ seen) → cond (bytes_eq w v) (count + 1) old ≡ seen + cond (bytes_eq w v) 1 0
counted-at v w old seen count true on is own = let one : count ≡ seen = own (same-bytes w v on) in rw on (omega (arith, one))
counted-at v w old seen count false on is own = rw on (omega (arith, is))

-- one extent more on its volume
pub counted-more : (v : List ℕ) (es : List Extent) (i : ℕ) (e : Extent) (old new : List (List ℕ × ℕ)) (count : ℕ) → i < length es → e ≡ get_or es i e
    → ((w : List ℕ) → number_on w old ≡ count_on w (take i es)) → count ≡ number_on e.volser old → number_on v new ≡ cond (bytes_eq e.volser v) (count + 1) (number_on v old)
    → number_on v new ≡ count_on v (take (i + 1) es)
counted-more v es i e old new count less is counted count_is put =
    put ∙ counted-at v e.volser (number_on v old) (count_on v (take i es)) count _ refl (counted v) (λ same. count_is ∙ (counted e.volser ∙ ap (λ (w : List ℕ). count_on w (take i es)) same))
    ∙ sym (count-more v es i e less is)

few-at : (b : Bool) (count old : ℕ) → count < 16 → old ≤ 16 → cond b (count + 1) old ≤ 16
few-at true count old less few = omega (arith, less)
few-at false count old less few = few

pub few-more : (v w : List ℕ) (old new : List (List ℕ × ℕ)) (count : ℕ) → count < 16 → number_on v old ≤ 16 → number_on v new ≡ cond (bytes_eq w v) (count + 1) (number_on v old) → number_on v new ≤ 16
few-more v w old new count less few put = rw put (few-at (bytes_eq w v) count (number_on v old) less few)

-- the seventeenth extent on a volume
pub too-many : (es : List Extent) (i : ℕ) (e : Extent) → i < length es → e ≡ get_or es i e → 16 ≤ count_on e.volser (take i es) → ((v : List ℕ) → count_on v es ≤ 16) → ⊥
too-many es i e less is many few =
    let one : cond (bytes_eq e.volser e.volser) 1 zero ≡ suc zero = rw (bytes-self e.volser) refl in
    let own = few e.volser in
    omega (arith, many, one, own, count-more e.volser es i e less is, count-front e.volser es (i + 1))

pub few-end : (v : List ℕ) (es : List Extent) (i : ℕ) (numbers : List (List ℕ × ℕ)) → length es ≤ i → number_on v numbers ≡ count_on v (take i es) → number_on v numbers ≤ 16 → count_on v es ≤ 16
few-end v es i numbers past counted few = let all : count_on v (take i es) ≡ count_on v es = ap (count_on v) (take-end es i past) in omega (arith, all, counted, few)

-- on each volume there are at most as many as in all
pub count-most : (v : List ℕ) (es : List Extent) → count_on v es ≤ length es
count-most v [] = omega arith
count-most v (e ∷ es) = count-most-at (bytes_eq e.volser v) (count_on v es) (length es) (count_on v (e ∷ es)) (count-cons v e es) (count-most v es)
  where
    count-most-at : (b : Bool) (n m k : ℕ) → k ≡ cond b 1 0 + n → n ≤ m → k ≤ suc m
    count-most-at true n m k is less = omega (arith, is, less)
    count-most-at false n m k is less = omega (arith, is, less)
