-- On how many volumes extents lie.
use Rattle.std.proofs.Common.{◌≡◌, ◌≤◌, ℕ, zero, suc, ◌+◌, Bool, true, false, cond, List, [], ◌∷◌, ◌++◌, length, refl}
use Rattle.std.proofs.Common.{sym, ap, ◌∙◌, subst, arith, inl, inr}
use Rattle.std.specs.Prelude.{◌⊎◌, bytes_eq}
use Rattle.sms_construct.specs.declared.extent.Extent.{Extent}
use Rattle.track_ledger.specs.declared.piece.Piece.{Piece}
use Rattle.desk_law.specs.Extents.{extents_at, is_among, is_used, volumes_after}
use Rattle.desk_law.proofs.ByteLemmas.{bytes-self, same-bytes}
use Rattle.desk_law.proofs.CountLemmas.{count_on, count-cons}

-- how many volumes there are, without those seen before
abbrev pub spread_after : List (List ℕ) → List Extent → ℕ
spread_after seen es = length (volumes_after seen es)

suc-none : (n : ℕ) → n ≡ 0 → suc n ≤ 1
suc-none n e = omega arith

suc-more : (a b : ℕ) → a ≤ b + 1 → suc a ≤ suc b + 1
suc-more a b le = omega arith

among-cons-at : (v other : List ℕ) (others : List (List ℕ)) (b : Bool) → bytes_eq other v ≡ b → is_among v others ≡ true → is_among v (other ∷ others) ≡ true
among-cons-at v other others true is there = rw is refl
among-cons-at v other others false is there = rw is there

among-cons : (v other : List ℕ) (others : List (List ℕ)) → is_among v others ≡ true → is_among v (other ∷ others) ≡ true
among-cons v other others there = among-cons-at v other others _ refl there

among-head : (v other : List ℕ) (others : List (List ℕ)) → bytes_eq other v ≡ true → is_among v (other ∷ others) ≡ true
among-head v other others is = rw is refl

-- pieces of a volume that was seen add none
spread-seen : (w : List ℕ) (pieces : List Piece) (seen : List (List ℕ)) → is_among w seen ≡ true → spread_after seen (extents_at w pieces) ≡ 0
spread-seen w [] seen is = refl
spread-seen w (p ∷ pieces) seen is = rw is (spread-seen w pieces seen is)

spread-one-at : (w : List ℕ) (p : Piece) (pieces : List Piece) (seen : List (List ℕ)) (b : Bool) → is_among w seen ≡ b → spread_after seen (extents_at w (p ∷ pieces)) ≤ 1
spread-one-at w p pieces seen true is =
    let rest = spread-seen w pieces seen is in rw is (omega (arith, rest))
spread-one-at w p pieces seen false is =
    let rest = spread-seen w pieces (w ∷ seen) (among-head w w seen (bytes-self w)) in rw is (suc-none _ rest)

pub spread-one : (w : List ℕ) (pieces : List Piece) (seen : List (List ℕ)) → spread_after seen (extents_at w pieces) ≤ 1
spread-one w [] seen = omega arith
spread-one w (p ∷ pieces) seen = spread-one-at w p pieces seen _ refl

spread-more-at : (w : List ℕ) (pieces : List Piece) (e : Extent) (es : List Extent) (seen : List (List ℕ)) (b : Bool) → is_among e.volser seen ≡ b
    → ((others : List (List ℕ)) → spread_after others (es ++ extents_at w pieces) ≤ spread_after others es + 1)
    → spread_after seen ((e ∷ es) ++ extents_at w pieces) ≤ spread_after seen (e ∷ es) + 1
spread-more-at w pieces e es seen true is rest = rw is (rest seen)
spread-more-at w pieces e es seen false is rest = rw is (suc-more _ _ (rest (e.volser ∷ seen)))

-- pieces of one volume add at most one
pub spread-more : (w : List ℕ) (pieces : List Piece) (es : List Extent) (seen : List (List ℕ)) → spread_after seen (es ++ extents_at w pieces) ≤ spread_after seen es + 1
spread-more w pieces [] seen = omega (arith, spread-one w pieces seen)
spread-more w pieces (e ∷ es) seen = spread-more-at w pieces e es seen _ refl (λ others. spread-more w pieces es others)

-- the volume was seen, or one of the extents lies on it
used-step : (w : List ℕ) (e : Extent) (es : List Extent) (seen : List (List ℕ)) (b : Bool) → bytes_eq e.volser w ≡ b → (is_among w seen ≡ true) ⊎ (is_used w (e ∷ es) ≡ true)
    → (is_among w (e.volser ∷ seen) ≡ true) ⊎ (is_used w es ≡ true)
used-step w e es seen b is (inl there) = inl (among-cons w e.volser seen there)
used-step w e es seen true is (inr there) = inl (among-head w e.volser seen is)
used-step w e es seen false is (inr there) = inr (rw is at there)

used-stay : (w : List ℕ) (e : Extent) (es : List Extent) (seen : List (List ℕ)) (b : Bool) → bytes_eq e.volser w ≡ b → is_among e.volser seen ≡ true → (is_among w seen ≡ true) ⊎ (is_used w (e ∷ es) ≡ true)
    → (is_among w seen ≡ true) ⊎ (is_used w es ≡ true)
used-stay w e es seen b is here (inl there) = inl there
used-stay w e es seen true is here (inr there) = inl (subst (λ n. is_among n seen ≡ true) (same-bytes e.volser w is) here)
used-stay w e es seen false is here (inr there) = inr (rw is at there)

spread-same-at : (w : List ℕ) (pieces : List Piece) (e : Extent) (es : List Extent) (seen : List (List ℕ)) (b : Bool) → is_among e.volser seen ≡ b → (is_among w seen ≡ true) ⊎ (is_used w (e ∷ es) ≡ true)
    → ((others : List (List ℕ)) → (is_among w others ≡ true) ⊎ (is_used w es ≡ true) → spread_after others (es ++ extents_at w pieces) ≡ spread_after others es)
    → spread_after seen ((e ∷ es) ++ extents_at w pieces) ≡ spread_after seen (e ∷ es)
spread-same-at w pieces e es seen true is there rest = rw is (rest seen (used-stay w e es seen _ refl is there))
spread-same-at w pieces e es seen false is there rest = rw is (ap suc (rest (e.volser ∷ seen) (used-step w e es seen _ refl there)))

none-used : (w : List ℕ) (seen : List (List ℕ)) → (is_among w seen ≡ true) ⊎ (is_used w [] ≡ true) → is_among w seen ≡ true
none-used w seen (inl there) = there
none-used w seen (inr there) = absurd cc

-- pieces of a volume on which extents lie add none
pub spread-same : (w : List ℕ) (pieces : List Piece) (es : List Extent) (seen : List (List ℕ)) → (is_among w seen ≡ true) ⊎ (is_used w es ≡ true) → spread_after seen (es ++ extents_at w pieces) ≡ spread_after seen es
spread-same w pieces [] seen there = spread-seen w pieces seen (none-used w seen there)
spread-same w pieces (e ∷ es) seen there = spread-same-at w pieces e es seen _ refl there (λ others h. spread-same w pieces es others h)

-- A volume on which none lies.

tail-off : (w other : List ℕ) (others : List (List ℕ)) (b : Bool) → bytes_eq other w ≡ b → is_among w (other ∷ others) ≡ false → (bytes_eq other w ≡ false) × (is_among w others ≡ false)
tail-off w other others true is off =
    let now : true ≡ false = rw is at off in absurd cc
tail-off w other others false is off = (is, rw is at off)

head-off : (w v : List ℕ) (seen : List (List ℕ)) (b : Bool) → bytes_eq v w ≡ b → is_among v seen ≡ true → is_among w seen ≡ false → bytes_eq v w ≡ false
head-off w v seen true is there off =
    let now : is_among w seen ≡ true = subst (λ n. is_among n seen ≡ true) (same-bytes v w is) there in
    let bad : true ≡ false = sym now ∙ off in absurd cc
head-off w v seen false is there off = is

cons-off : (w v : List ℕ) (seen : List (List ℕ)) → bytes_eq v w ≡ false → is_among w seen ≡ false → is_among w (v ∷ seen) ≡ false
cons-off w v seen is off = rw is off

off-count : (w : List ℕ) (e : Extent) (es : List Extent) → bytes_eq e.volser w ≡ false → count_on w es ≡ 0 → count_on w (e ∷ es) ≡ 0
off-count w e es is rest =
    let here : cond (bytes_eq e.volser w) 1 zero ≡ zero = rw is refl in omega (arith, count-cons w e es, here, rest)

free-at : (w : List ℕ) (e : Extent) (es : List Extent) (seen : List (List ℕ)) (b : Bool) → is_among e.volser seen ≡ b → is_among w seen ≡ false → is_among w (volumes_after seen (e ∷ es)) ≡ false
    → ((others : List (List ℕ)) → is_among w others ≡ false → is_among w (volumes_after others es) ≡ false → count_on w es ≡ 0) → count_on w (e ∷ es) ≡ 0
free-at w e es seen true is off found rest =
    let now : is_among w (volumes_after seen es) ≡ false = rw is at found in
    off-count w e es (head-off w e.volser seen _ refl is off) (rest seen off now)
free-at w e es seen false is off found rest =
    let now : is_among w (e.volser ∷ volumes_after (e.volser ∷ seen) es) ≡ false = rw is at found in
    let both = tail-off w e.volser (volumes_after (e.volser ∷ seen) es) _ refl now in
    off-count w e es both.0 (rest (e.volser ∷ seen) (cons-off w e.volser seen both.0 off) both.1)

pub free-volume : (w : List ℕ) (es : List Extent) (seen : List (List ℕ)) → is_among w seen ≡ false → is_among w (volumes_after seen es) ≡ false → count_on w es ≡ 0
free-volume w [] seen off found = refl
free-volume w (e ∷ es) seen off found = free-at w e es seen _ refl off found (λ others a b. free-volume w es others a b)
