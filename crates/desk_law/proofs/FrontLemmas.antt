-- The first tracks of a data set.
use Rattle.std.proofs.Common.{◌≡◌, ◌≤◌, ◌<◌, ℕ, suc, ◌+◌, ◌-◌, ◌/◌, ◌%◌, Bool, true, false, cond, List, [], ◌∷◌, length}
use Rattle.std.proofs.Common.{refl, ap, arith, inl, inr}
use Rattle.std.specs.Prelude.{bytes_eq, min, nat_lt}
use Rattle.std.specs.List.{AllByRecursion}
use Rattle.std.proofs.Math.Nat.{lt-div-mul-add, mul-mod_left}
use Rattle.std.proofs.lemmas.Bool.Decides.{nat_tests}
use Rattle.desk_common.specs.Limits.{border}
use Rattle.sms_construct.specs.Quantities.{rounded_up, tracks_in_managed}
use Rattle.sms_construct.specs.declared.extent.Extent.{Extent}
use Rattle.sms_construct.specs.declared.volume.VolumeDef.{VolumeDef}
use Rattle.track_ledger.proofs.GrantLemmas.{once-in-part}
use Rattle.desk_law.specs.Extents.{front_tracks, is_among, length_kept, multiple_at, piece_of, pieces_on}
use Rattle.desk_law.specs.Lawful.{IsInside, LiesInPart}
use Rattle.desk_law.proofs.CountLemmas.{count_on, count-cons, once_of, sum_on, sum-cons, times_on, times-is}
use Rattle.desk_law.proofs.SpreadLemmas.{spread_after}

-- an extent of which so many tracks are kept
abbrev pub cut_to : ℕ → Extent → Extent
cut_to keep e = record e { length = length_kept keep e }

cut-part : (b : Bool) (keep : ℕ) (e : Extent) (t : ℕ) → cond b (once_of t (piece_of (cut_to keep e))) 0 ≤ cond b (once_of t (piece_of e)) 0
cut-part true keep e t = once-in-part (piece_of (cut_to keep e)) (piece_of e) t (omega arith) (omega arith)
cut-part false keep e t = omega arith

front-sum-at : (t : ℕ) (v : List ℕ) (keep : ℕ) (e : Extent) (es : List Extent) (b : Bool) → nat_lt 0 keep ≡ b → sum_on (once_of t) v (front_tracks (keep - e.length) es) ≤ sum_on (once_of t) v es
    → sum_on (once_of t) v (front_tracks keep (e ∷ es)) ≤ sum_on (once_of t) v (e ∷ es)
front-sum-at t v keep e es true is rest =
    rw is (omega (arith, sum-cons (once_of t) v (cut_to keep e) (front_tracks (keep - e.length) es), sum-cons (once_of t) v e es, rest, cut-part (bytes_eq e.volser v) keep e t))
front-sum-at t v keep e es false is rest = rw is (omega arith)

front-sum : (t : ℕ) (v : List ℕ) (keep : ℕ) (es : List Extent) → sum_on (once_of t) v (front_tracks keep es) ≤ sum_on (once_of t) v es
front-sum t v keep [] = omega arith
front-sum t v keep (e ∷ es) = front-sum-at t v keep e es _ refl (front-sum t v (keep - e.length) es)

-- no track is held more often
pub front-times : (v : List ℕ) (keep : ℕ) (es : List Extent) (t : ℕ) → times_on v (front_tracks keep es) t ≤ times_on v es t
front-times v keep es t = omega (arith, times-is (pieces_on v (front_tracks keep es)) t, times-is (pieces_on v es) t, front-sum t v keep es)

front-count-at : (v : List ℕ) (keep : ℕ) (e : Extent) (es : List Extent) (b : Bool) → nat_lt 0 keep ≡ b → count_on v (front_tracks (keep - e.length) es) ≤ count_on v es
    → count_on v (front_tracks keep (e ∷ es)) ≤ count_on v (e ∷ es)
front-count-at v keep e es true is rest =
    rw is (omega (arith, count-cons v (cut_to keep e) (front_tracks (keep - e.length) es), count-cons v e es, rest))
front-count-at v keep e es false is rest = rw is (omega arith)

pub front-count : (v : List ℕ) (keep : ℕ) (es : List Extent) → count_on v (front_tracks keep es) ≤ count_on v es
front-count v keep [] = omega arith
front-count v keep (e ∷ es) = front-count-at v keep e es _ refl (front-count v (keep - e.length) es)

suc-le : (a b : ℕ) → a ≤ b → suc a ≤ suc b
suc-le a b le = omega arith

front-spread-in : (keep : ℕ) (e : Extent) (es : List Extent) (seen : List (List ℕ)) (b : Bool) → is_among e.volser seen ≡ b
    → ((others : List (List ℕ)) → spread_after others (front_tracks (keep - e.length) es) ≤ spread_after others es)
    → spread_after seen (cut_to keep e ∷ front_tracks (keep - e.length) es) ≤ spread_after seen (e ∷ es)
front-spread-in keep e es seen true is rest = rw is (rest seen)
front-spread-in keep e es seen false is rest = rw is (suc-le _ _ (rest (e.volser ∷ seen)))

front-spread-at : (keep : ℕ) (e : Extent) (es : List Extent) (seen : List (List ℕ)) (b : Bool) → nat_lt 0 keep ≡ b
    → ((others : List (List ℕ)) → spread_after others (front_tracks (keep - e.length) es) ≤ spread_after others es)
    → spread_after seen (front_tracks keep (e ∷ es)) ≤ spread_after seen (e ∷ es)
front-spread-at keep e es seen true is rest = rw is (front-spread-in keep e es seen _ refl rest)
front-spread-at keep e es seen false is rest = rw is (omega arith)

pub front-spread : (keep : ℕ) (es : List Extent) (seen : List (List ℕ)) → spread_after seen (front_tracks keep es) ≤ spread_after seen es
front-spread keep [] seen = omega arith
front-spread keep (e ∷ es) seen = front-spread-at keep e es seen _ refl (λ others. front-spread (keep - e.length) es others)

pub rounded-some : (size tracks : ℕ) → 0 < size → 0 < tracks → 0 < rounded_up size tracks
rounded-some size tracks size_some some =
    let h = lt-div-mul-add {a = tracks + (size - 1)} {b = size} size_some in omega (arith, h, some)

multiple-some_at : (track : ℕ) (b : Bool) → nat_lt track border ≡ b → 0 < multiple_at track
multiple-some_at track true is = rw is (omega arith)
multiple-some_at track false is = rw is (omega arith)

front-each-at : (P : Extent → Type 0) (keep : ℕ) (e : Extent) (es : List Extent) (b : Bool) → nat_lt 0 keep ≡ b → ((k : ℕ) (x : Extent) → 0 < k → P x → P (cut_to k x)) → P e
    → AllByRecursion P (front_tracks (keep - e.length) es) → AllByRecursion P (front_tracks keep (e ∷ es))
front-each-at P keep e es true is cut here rest =
    let some : 0 < keep = grind (arith, nat_tests) in rw is (cut keep e some here, rest)
front-each-at P keep e es false is cut here rest = rw is tt

-- what a cut leaves of an extent it leaves of each
pub front-each : (P : Extent → Type 0) (keep : ℕ) (es : List Extent) → ((k : ℕ) (x : Extent) → 0 < k → P x → P (cut_to k x)) → AllByRecursion P es → AllByRecursion P (front_tracks keep es)
front-each P keep [] cut all = tt
front-each P keep (e ∷ es) cut all = front-each-at P keep e es _ refl cut all.0 (front-each P (keep - e.length) es cut all.1)

pub cut-inside : (volumes : List VolumeDef) (keep : ℕ) (e : Extent) → 0 < keep → IsInside volumes e → IsInside volumes (cut_to keep e)
cut-inside volumes keep e some here =
    let long = here.0 in
    let within = here.1 in
    let more = rounded-some (multiple_at e.start) keep (multiple-some_at e.start _ refl) some in
    (omega (arith, more, long), omega (arith, within))

lower-whole : (a b m : ℕ) → a % m ≡ 0 → b % m ≡ 0 → min a b % m ≡ 0
lower-whole a b m x y = lower-whole-at (nat_lt a b) refl
  where
    lower-whole-at : (c : Bool) → nat_lt a b ≡ c → min a b % m ≡ 0
    lower-whole-at true is =
        let same : min a b ≡ a = grind (arith, nat_tests) in rw same x
    lower-whole-at false is =
        let same : min a b ≡ b = grind (arith, nat_tests) in rw same y

managed-multiple : (track : ℕ) → border ≤ track → multiple_at track ≡ tracks_in_managed
managed-multiple track behind =
    let is : nat_lt track border ≡ false = grind (arith, nat_tests) in rw is refl

pub cut-parted : (keep : ℕ) (e : Extent) → LiesInPart e → LiesInPart (cut_to keep e)
cut-parted keep e (inl before) = inl (omega (arith, before))
cut-parted keep e (inr managed) =
    let same : length_kept keep e ≡ min (rounded_up tracks_in_managed keep) e.length = ap (λ m. min (rounded_up m keep) e.length) (managed-multiple e.start managed.behind) in
    inr (record {
      behind = managed.behind;
      start = managed.start;
      length = rw same (lower-whole (rounded_up tracks_in_managed keep) e.length tracks_in_managed (mul-mod_left ((keep + (tracks_in_managed - 1)) / tracks_in_managed) tracks_in_managed) managed.length);
    })

pub front-some : (keep : ℕ) (es : List Extent) → 0 < keep → 0 < length es → 0 < length (front_tracks keep es)
front-some keep [] some there = there
front-some keep (e ∷ es) some there =
    let is : nat_lt 0 keep ≡ true = grind (arith, nat_tests) in rw is (omega arith)
