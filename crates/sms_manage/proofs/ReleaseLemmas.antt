-- A second release frees nothing.
use Rattle.std.proofs.Common.{inl, inr, ◌≡◌, ℕ, ◌-◌, Bool, true, false, List, [], ◌∷◌, refl, ap, arith}
use Rattle.std.specs.Prelude.{nat_lt, sum_by}
use Rattle.std.proofs.lemmas.Bool.{cases_Bool}
use Rattle.std.proofs.lemmas.Bool.Decides.{nat_tests}
use Rattle.sms_construct.specs.declared.data_set.DataSet.{DataSet}
use Rattle.sms_construct.specs.declared.extent.Extent.{Extent}
use Rattle.desk_law.specs.Extents.{front_tracks, length_kept, tracks_of_set}
use Rattle.desk_law.specs.Releasing.{kept_of, tracks_kept}
use Rattle.desk_law.proofs.FrontLemmas.{cut_to}
use Rattle.desk_state.proofs.ExtentLemmas.{kept-whole}

kept-twice : (keep : ℕ) (e : Extent) → length_kept keep (cut_to keep e) ≡ length_kept keep e
kept-twice keep e = grind arith

left-twice : (keep : ℕ) (e : Extent) → keep - length_kept keep e ≡ keep - e.length
left-twice keep e = elim (cases_Bool (nat_lt keep e.length)) [
  | inl less ↦
      let least = kept-whole keep (record e { length = keep }) (omega arith) in
      grind (arith, nat_tests, less, least)
  | inr not ↦
      let whole : length_kept keep e ≡ e.length = kept-whole keep e (grind (arith, nat_tests, not)) in
      rw whole refl
]

front-twice-at : (keep : ℕ) (e : Extent) (es : List Extent) (b : Bool) → nat_lt 0 keep ≡ b → front_tracks (keep - e.length) (front_tracks (keep - e.length) es) ≡ front_tracks (keep - e.length) es
    → front_tracks keep (front_tracks keep (e ∷ es)) ≡ front_tracks keep (e ∷ es)
front-twice-at keep e es true some rest = rw some (rw (some, kept-twice keep e, left-twice keep e, rest) refl)
front-twice-at keep e es false some rest = rw some refl

front-twice : (keep : ℕ) (es : List Extent) → front_tracks keep (front_tracks keep es) ≡ front_tracks keep es
front-twice keep [] = refl
front-twice keep (e ∷ es) = front-twice-at keep e es _ refl (front-twice (keep - e.length) es)

not-less : (n : ℕ) → nat_lt n n ≡ false
not-less n = grind (arith, nat_tests)

-- what a release left has nothing unused
pub release-twice : (set : DataSet) → nat_lt (tracks_of_set (kept_of (kept_of set))) (tracks_of_set (kept_of set)) ≡ false
release-twice set =
    let same : tracks_of_set (kept_of (kept_of set)) ≡ tracks_of_set (kept_of set) = ap (λ (es : List Extent). sum_by (λ extent. extent.length) es) (front-twice (tracks_kept set) set.extents) in
    rw same (not-less (tracks_of_set (kept_of set)))
