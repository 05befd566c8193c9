-- Extents gone over one by one.
use Rattle.std.proofs.Common.{◌≡◌, ◌≤◌, ◌<◌, ℕ, ◌+◌, ◌-◌, Bool, true, false, cond, List, [], ◌∷◌, ◌++◌, length, get_or}
use Rattle.std.proofs.Common.{take, refl, sym, ap, ◌∙◌, arith}
use Rattle.std.specs.Prelude.{bytes_eq, nat_lt}
use Rattle.std.specs.List.{AllByRecursion}
use Rattle.std.proofs.Math.Nat.{lt-div-mul-add}
use Rattle.std.proofs.lemmas.Bool.Decides.{nat_tests}
use Rattle.std.proofs.lemmas.List.{take_more}
use Rattle.std.proofs.lemmas.List.Sums.{sum_by_more, sum_by-cons}
use Rattle.desk_common.specs.Limits.{border}
use Rattle.sms_construct.specs.Quantities.{rounded_up}
use Rattle.sms_construct.specs.declared.extent.Extent.{Extent}
use Rattle.sms_construct.specs.declared.volume.VolumeDef.{VolumeDef}
use Rattle.desk_law.specs.Extents.{front_tracks, length_kept, multiple_at, pieces_on}
use Rattle.desk_law.specs.Lawful.{IsInside}
use Rattle.desk_state.specs.Inner.Sums.{tracks_in}
use Rattle.desk_law.proofs.CountLemmas.{count-append}
use Rattle.desk_law.proofs.FrontLemmas.{cut_to, rounded-some}
use Rattle.sms_volumes.specs.Changing.{IsCutTo, IsFront}

count-one-at : (v : List ℕ) (e : Extent) (b : Bool) → bytes_eq e.volser v ≡ b → length (pieces_on v (e ∷ [])) ≡ cond b 1 0
count-one-at v e true is = rw is refl
count-one-at v e false is = rw is refl

-- the extents on a volume with one extent more
pub count-more : (v : List ℕ) (es : List Extent) (i : ℕ) (e : Extent) → i < length es → e ≡ get_or es i e
    → length (pieces_on v (take (i + 1) es)) ≡ length (pieces_on v (take i es)) + cond (bytes_eq e.volser v) 1 0
count-more v es i e lt read =
    let more : take (i + 1) es ≡ take i es ++ e ∷ [] = take_more es i e lt ∙ ap (λ (x : Extent). take i es ++ x ∷ []) (sym read) in
    let sum : length (pieces_on v (take (i + 1) es)) ≡ length (pieces_on v (take i es)) + length (pieces_on v (e ∷ [])) =
    ap (λ (l : List Extent). length (pieces_on v l)) more ∙ count-append v (take i es) (e ∷ []) in
    omega (arith, sum, count-one-at v e _ refl)

-- the tracks with one extent more
pub tracks-more : (es : List Extent) (i : ℕ) (e : Extent) → i < length es → e ≡ get_or es i e → tracks_in (take (i + 1) es) ≡ tracks_in (take i es) + e.length
tracks-more es i e lt read =
    let more = sum_by_more (λ (x : Extent). x.length) es i e lt in
    let same : (get_or es i e).length ≡ e.length = ap (λ (x : Extent). x.length) (sym read) in
    omega (arith, more, same)

-- A front has no more.

front-length-at : (keep : ℕ) (e : Extent) (es : List Extent) (b : Bool) → nat_lt 0 keep ≡ b → length (front_tracks (keep - e.length) es) ≤ length es → length (front_tracks keep (e ∷ es)) ≤ length (e ∷ es)
front-length-at keep e es true some rest = rw some (omega (arith, rest))
front-length-at keep e es false some rest = rw some (omega arith)

pub front-length : (keep : ℕ) (es : List Extent) → length (front_tracks keep es) ≤ length es
front-length keep [] = omega arith
front-length keep (e ∷ es) = front-length-at keep e es _ refl (front-length (keep - e.length) es)

kept-less : (keep : ℕ) (e : Extent) → length_kept keep e ≤ e.length
kept-less keep e = grind arith

front-tracks-at : (keep : ℕ) (e : Extent) (es : List Extent) (b : Bool) → nat_lt 0 keep ≡ b → tracks_in (front_tracks (keep - e.length) es) ≤ tracks_in es → tracks_in (front_tracks keep (e ∷ es)) ≤ tracks_in (e ∷ es)
front-tracks-at keep e es true some rest =
    let one = sum_by-cons (λ (x : Extent). x.length) (cut_to keep e) (front_tracks (keep - e.length) es) in
    let all = sum_by-cons (λ (x : Extent). x.length) e es in
    rw some (omega (arith, rest, one, all, kept-less keep e))
front-tracks-at keep e es false some rest = rw some (omega arith)

pub front-tracks : (keep : ℕ) (es : List Extent) → tracks_in (front_tracks keep es) ≤ tracks_in es
front-tracks keep [] = omega arith
front-tracks keep (e ∷ es) = front-tracks-at keep e es _ refl (front-tracks (keep - e.length) es)

-- What is kept is a front.

multiple-some-at : (track : ℕ) (b : Bool) → nat_lt track border ≡ b → 0 < multiple_at track
multiple-some-at track true is = rw is (omega arith)
multiple-some-at track false is = rw is (omega arith)

rounded-more : (multiple tracks : ℕ) → 0 < multiple → tracks ≤ rounded_up multiple tracks
rounded-more multiple tracks some =
    let less = lt-div-mul-add {a = tracks + (multiple - 1)} {b = multiple} some in omega (arith, less, some)

-- an extent is kept whole where all its tracks are to be kept
pub kept-whole : (keep : ℕ) (e : Extent) → e.length ≤ keep → length_kept keep e ≡ e.length
kept-whole keep e all =
    let more = rounded-more (multiple_at e.start) keep (multiple-some-at e.start _ refl) in grind (arith, more, all)

cut-is : (keep : ℕ) (e : Extent) → 0 < keep → 0 < e.length → IsCutTo (cut_to keep e) e
cut-is keep e some long =
    let more = rounded-some (multiple_at e.start) keep (multiple-some-at e.start _ refl) some in
    record { volser = refl; start = refl; some = omega (arith, more, long); less = kept-less keep e }

front-put : (keep : ℕ) (e : Extent) (es front : List Extent) → 0 < keep → 0 < e.length → ((x : Extent) (xs : List Extent) → front ≡ x ∷ xs → e.length ≤ keep) → IsFront front es → IsFront (cut_to keep e ∷ front) (e ∷ es)
front-put keep e es [] some long whole rest = cut-is keep e some long
front-put keep e es (x ∷ xs) some long whole rest = (ap (λ n. record e { length = n }) (kept-whole keep e (whole x xs refl)), rest)

front-more-at : (keep : ℕ) (e : Extent) (es : List Extent) (x : Extent) (xs : List Extent) (b : Bool) → nat_lt 0 keep ≡ b → front_tracks keep (e ∷ es) ≡ x ∷ xs → 0 < keep
front-more-at keep e es x xs true is at = grind (arith, nat_tests)
front-more-at keep e es x xs false is at =
    let none : ◌≡◌ {A = List Extent} [] (x ∷ xs) = rw is at at in absurd cc

front-more : (keep : ℕ) (es : List Extent) (x : Extent) (xs : List Extent) → front_tracks keep es ≡ x ∷ xs → 0 < keep
front-more keep [] x xs at = absurd cc
front-more keep (e ∷ es) x xs at = front-more-at keep e es x xs _ refl at

front-is-at : (keep : ℕ) (e : Extent) (es : List Extent) (b : Bool) → nat_lt 0 keep ≡ b → 0 < e.length → IsFront (front_tracks (keep - e.length) es) es → IsFront (front_tracks keep (e ∷ es)) (e ∷ es)
front-is-at keep e es true is long rest =
    let some : 0 < keep = grind (arith, nat_tests) in
    rw is (front-put keep e es (front_tracks (keep - e.length) es) some long (λ x xs at. let more = front-more (keep - e.length) es x xs at in omega (arith, more)) rest)
front-is-at keep e es false is long rest = rw is tt

pub front-is : (volumes : List VolumeDef) (keep : ℕ) (es : List Extent) → AllByRecursion (IsInside volumes) es → IsFront (front_tracks keep es) es
front-is volumes keep [] inside = tt
front-is volumes keep (e ∷ es) inside = front-is-at keep e es _ refl inside.0.0 (front-is volumes (keep - e.length) es inside.1)
