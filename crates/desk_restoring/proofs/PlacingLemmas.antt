-- Data sets that take their tracks one extent after the other.
use Rattle.std.proofs.Common.{◌≡◌, ◌≤◌, ◌<◌, ℕ, ◌+◌, Bool, true, false, cond, List, [], ◌∷◌, ◌++◌, length, take}
use Rattle.std.proofs.Common.{append-nil, refl, sym, ap, ◌∙◌, subst, arith}
use Rattle.std.specs.Prelude.{None, Some}
use Rattle.std.specs.List.{AllByRecursion}
use Rattle.std.proofs.lemmas.List.{take_all}
use Rattle.sms_construct.specs.declared.data_set.DataSet.{DataSet}
use Rattle.sms_construct.specs.declared.extent.Extent.{Extent}
use Rattle.sms_keeper.specs.Tables.{is_named, without_set}
use Rattle.track_ledger.specs.declared.piece.Piece.{Piece}
use Rattle.track_ledger.specs.Gaps.{times_held}
use Rattle.desk_law.specs.State.{DeskState, set_named, with_set}
use Rattle.desk_law.specs.Extents.{extents_if, extents_named, piece_of, pieces_on}
use Rattle.desk_law.specs.Lawful.{IsInside, IsLawful, times_named}
use Rattle.desk_law.specs.Volumes.{volumes_in}
use Rattle.desk_law.proofs.ByteLemmas.{bytes-self}
use Rattle.desk_law.proofs.CountLemmas.{times_on}
use Rattle.sms_volumes.specs.Holding.{AreVolumesOf}
use Rattle.sms_volumes.specs.declared.active_volumes.ActiveVolumes.{ActiveVolumes}
use Rattle.sms_volumes.proofs.NamedLemmas.{named-push}
use Rattle.desk_restoring.specs.Inner.Placing.{CanHold, placed, sets_placed}
use Rattle.desk_restoring.specs.Inner.Replaying.{with_sets}
use Rattle.desk_restoring.proofs.ListLemmas.{each-rest}
use Rattle.desk_restoring.proofs.PartLemmas.{front-unnamed, last-lawful, lawful-placed, times-last, times-placed}
use Rattle.desk_restoring.proofs.PartLemmas.{times-split}

-- A name that no data set before the last has.

without-front-at : (dsn : List ℕ) (x : DataSet) (xs ys : List DataSet) (b : Bool) → is_named dsn x ≡ b → cond b 1 0 + times_named dsn xs ≡ 0
    → (times_named dsn xs ≡ 0 → without_set dsn (xs ++ ys) ≡ xs ++ without_set dsn ys) → without_set dsn ((x ∷ xs) ++ ys) ≡ (x ∷ xs) ++ without_set dsn ys
without-front-at dsn x xs ys true is none rest = absurd (omega (arith, none))
without-front-at dsn x xs ys false is none rest = rw is (ap (λ (l : List DataSet). x ∷ l) (rest (omega (arith, none))))

without-front : (dsn : List ℕ) (xs ys : List DataSet) → times_named dsn xs ≡ 0 → without_set dsn (xs ++ ys) ≡ xs ++ without_set dsn ys
without-front dsn [] ys none = refl
without-front dsn (x ∷ xs) ys none = without-front-at dsn x xs ys _ refl none (without-front dsn xs ys)

own-gone : (dsn : List ℕ) (set : DataSet) → is_named dsn set ≡ true → without_set dsn (set ∷ []) ≡ []
own-gone dsn set is = rw is refl

without-placed : (front : List DataSet) (set : DataSet) (done : List Extent) → times_named set.dsn front ≡ 0 → without_set set.dsn (sets_placed front set done) ≡ front
without-placed front set [] none = ap (without_set set.dsn) (sym (append-nil front)) ∙ (without-front set.dsn front [] none ∙ append-nil front)
without-placed front set (e ∷ es) none =
    without-front set.dsn front (placed set (e ∷ es) ∷ []) none ∙ (ap (λ (l : List DataSet). front ++ l) (own-gone set.dsn (placed set (e ∷ es)) (bytes-self set.dsn)) ∙ append-nil front)

none-named-at : (dsn : List ℕ) (x : DataSet) (xs : List DataSet) (b : Bool) → is_named dsn x ≡ b → cond b 1 0 + times_named dsn xs ≡ 0 → (times_named dsn xs ≡ 0 → set_named dsn xs ≡ None)
    → set_named dsn (x ∷ xs) ≡ None
none-named-at dsn x xs true is none rest = absurd (omega (arith, none))
none-named-at dsn x xs false is none rest = rw is (rest (omega (arith, none)))

pub none-named : (dsn : List ℕ) (xs : List DataSet) → times_named dsn xs ≡ 0 → set_named dsn xs ≡ None
none-named dsn [] none = refl
none-named dsn (x ∷ xs) none = none-named-at dsn x xs _ refl none (none-named dsn xs)

pub own-named : (dsn : List ℕ) (set : DataSet) → is_named dsn set ≡ true → set_named dsn (set ∷ []) ≡ Some set
own-named dsn set is = rw is refl

named-placed : (front : List DataSet) (set : DataSet) (done : List Extent) → times_named set.dsn front ≡ 0 → extents_named set.dsn (sets_placed front set done) ≡ done
named-placed front set [] none = ap extents_if (none-named set.dsn front none)
named-placed front set (e ∷ es) none =
    ap extents_if (named-push set.dsn front (placed set (e ∷ es)) (none-named set.dsn front none) ∙ own-named set.dsn (placed set (e ∷ es)) (bytes-self set.dsn))

-- One extent more.

placed-push : (front : List DataSet) (set : DataSet) (done : List Extent) (e : Extent) → sets_placed front set (done ++ e ∷ []) ≡ front ++ placed set (done ++ e ∷ []) ∷ []
placed-push front set [] e = refl
placed-push front set (d ∷ done) e = refl

placed-next : (s : DeskState) (front : List DataSet) (set : DataSet) (done : List Extent) (e : Extent) → times_named set.dsn front ≡ 0
    → with_set (with_sets s (sets_placed front set done)) (placed set (done ++ e ∷ [])) ≡ with_sets s (sets_placed front set (done ++ e ∷ []))
placed-next s front set done e none =
    ap (λ (l : List DataSet). with_sets s (l ++ placed set (done ++ e ∷ []) ∷ [])) (without-placed front set done none) ∙ ap (with_sets s) (sym (placed-push front set done e))

pub place-next : (s : DeskState) (front : List DataSet) (set : DataSet) (running after : ActiveVolumes) (done more : List Extent) (e : Extent) → IsLawful s → s.sets ≡ front ++ set ∷ []
    → set.extents ≡ done ++ e ∷ more → AreVolumesOf (with_sets s (sets_placed front set done)) running
    → ((t : DeskState) (x : DataSet) → IsLawful t → AreVolumesOf t running → x.extents ≡ extents_named x.dsn t.sets ++ e ∷ [] → AreVolumesOf (with_set t x) after)
    → AreVolumesOf (with_sets s (sets_placed front set (done ++ e ∷ []))) after
place-next s front set running after done more e lawful is parts are hold =
    let none : times_named set.dsn front ≡ 0 = front-unnamed s front set lawful is in
    subst (λ (t : DeskState). AreVolumesOf t after) (placed-next s front set done e none)
    (hold (with_sets s (sets_placed front set done)) (placed set (done ++ e ∷ [])) (lawful-placed s front set done (e ∷ more) lawful is parts) are
    (ap (λ (l : List Extent). l ++ e ∷ []) (sym (named-placed front set done none))))

own-times : (e : Extent) (more : List Extent) (t : ℕ) → times_held (piece_of e ∷ []) t ≤ times_on e.volser (e ∷ more) t
own-times e more t =
    let on : pieces_on e.volser (e ∷ more) ≡ piece_of e ∷ pieces_on e.volser more = rw (bytes-self e.volser) refl in
    let same : times_on e.volser (e ∷ more) t ≡ times_held (piece_of e ∷ pieces_on e.volser more) t = ap (λ (l : List Piece). times_held l t) on in
    omega (arith, same)

-- its tracks are free, and lie inside their volume
pub can-hold : (s : DeskState) (front : List DataSet) (set : DataSet) (running : ActiveVolumes) (done more : List Extent) (e : Extent) → IsLawful s → s.sets ≡ front ++ set ∷ [] → set.extents ≡ done ++ e ∷ more
    → AreVolumesOf (with_sets s (sets_placed front set done)) running → CanHold e running
can-hold s front set running done more e lawful is parts are =
    let inside = (last-lawful s front set lawful is).inside in
    record {
      state = with_sets s (sets_placed front set done);
      lawful = lawful-placed s front set done (e ∷ more) lawful is parts;
      stand = are;
      inside = (each-rest (IsInside (volumes_in s.active)) done (e ∷ more) (subst (AllByRecursion (IsInside (volumes_in s.active))) parts inside)).0;
      free = λ t.
          omega (arith, lawful.once e.volser t, times-last e.volser s.sets front set t is, times-placed e.volser front set done t, times-split e.volser set.extents done (e ∷ more) t parts, own-times e more t);
    }

-- All extents.

placed-all : (front : List DataSet) (set : DataSet) (es : List Extent) → set.extents ≡ es → 0 < length es → sets_placed front set es ≡ front ++ set ∷ []
placed-all front set [] is some = absurd (omega (arith, some))
placed-all front set (e ∷ es) is some = ap (λ (l : List Extent). front ++ placed set l ∷ []) (sym is)

pub placed-whole : (s : DeskState) (front : List DataSet) (set : DataSet) (i : ℕ) → IsLawful s → s.sets ≡ front ++ set ∷ [] → length set.extents ≤ i → with_sets s (sets_placed front set (take i set.extents)) ≡ s
placed-whole s front set i lawful is le =
    ap (λ (l : List Extent). with_sets s (sets_placed front set l)) (take_all i set.extents le)
    ∙ ap (with_sets s) (placed-all front set set.extents refl (last-lawful s front set lawful is).some ∙ sym is)
