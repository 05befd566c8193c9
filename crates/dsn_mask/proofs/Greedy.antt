-- A walk of a mask over a text has to go back to the last star alone.
use Rattle.std.proofs.Common.{◌≡◌, ◌≤◌, Bool, true, false, List, [], ◌∷◌, length, refl, sym, ◌∙◌, ap, arith}
use Rattle.std.specs.Prelude.{◌&&◌, ◌||◌}
use Rattle.dsn_mask.specs.MaskTest.{passes_behind, passes_somewhere, takes_first, fits_items}

clash : true ≡ false → ⊥
clash e = cc

pub left_of_or : (v w : Bool) → v ≡ true → (v || w) ≡ true
left_of_or v w e = rw e refl

pub right_of_or : (v w : Bool) → w ≡ true → (v || w) ≡ true
right_of_or true w e = refl
right_of_or false w e = e

-- by cases of an or
pub by_either : {A : Type 0} (v w : Bool) → (v || w) ≡ true → (v ≡ true → A) → (w ≡ true → A) → A
by_either true w e f g = f refl
by_either false w e f g = g e

left_of_and : (v w : Bool) → (v && w) ≡ true → v ≡ true
left_of_and true w e = refl
left_of_and false w e = e

right_of_and : (v w : Bool) → (v && w) ≡ true → w ≡ true
right_of_and true w e = e
right_of_and false w e = absurd (clash (sym e))

behind_twice : {I : Type 0} (f : List I → Bool) (xs : List I) → passes_behind (passes_somewhere f) xs ≡ true → passes_behind f xs ≡ true
behind_twice f [] e = e
behind_twice f (x ∷ xs) e = by_either (passes_somewhere f xs) (passes_behind (passes_somewhere f) xs) e (λ h. h) (λ h. right_of_or (f xs) (passes_behind f xs) (behind_twice f xs h))

-- a star behind a star
somewhere_twice : {I : Type 0} (f : List I → Bool) (xs : List I) → passes_somewhere (passes_somewhere f) xs ≡ true → passes_somewhere f xs ≡ true
somewhere_twice f xs e = by_either (passes_somewhere f xs) (passes_behind (passes_somewhere f) xs) e (λ h. h) (λ h. right_of_or (f xs) (passes_behind f xs) (behind_twice f xs h))

-- where a symbol and more fit somewhere, the more fit somewhere passes_behind
first_behind : {I : Type 0} (t : I → Bool) (f : List I → Bool) (xs : List I) → passes_somewhere (takes_first t f) xs ≡ true → passes_behind f xs ≡ true
first_behind t f [] e = e
first_behind t f (x ∷ xs) e = by_either (t x && f xs) (passes_somewhere (takes_first t f) xs) e (λ h. left_of_or (f xs) (passes_behind f xs) (right_of_and (t x) (f xs) h)) (λ h. right_of_or (f xs) (passes_behind f xs) (first_behind t f xs h))

-- What holds of a walk: what is still to be tried, and that it is tried from behind the last star alone.
pub record Walk {S I : Type 0} (star : S → Bool) (one : S → I → Bool) (mask : List S) (text : List I) (ps : List S) (xs : List I) (qs : List S) (ys : List I) : Type 0 where
  pub same : fits_items star one mask text ≡ (fits_items star one ps xs || passes_behind (fits_items star one qs) ys)
  pub covers : passes_behind (fits_items star one qs) ys ≡ true → passes_somewhere (fits_items star one ps) xs ≡ true
  pub no_longer : length ps ≤ length qs
  pub text_left : length xs ≤ length text
  pub later_left : length ys ≤ length text
  pub within : length qs ≤ length mask

or_none : (v : Bool) → v ≡ (v || false)
or_none true = refl
or_none false = refl

pub walk_first : {S I : Type 0} (star : S → Bool) (one : S → I → Bool) (mask : List S) (text : List I) → Walk star one mask text mask text mask []
walk_first star one mask text = record {
  same = or_none (fits_items star one mask text);
  covers = λ e. absurd (clash (sym e));
  no_longer = omega arith;
  text_left = omega arith;
  later_left = omega arith;
  within = omega arith;
}

or_absorbed : (v w : Bool) → (w ≡ true → v ≡ true) → (v || w) ≡ v
or_absorbed true w h = refl
or_absorbed false true h = sym (h refl)
or_absorbed false false h = refl

fits_items-star : {S I : Type 0} (star : S → Bool) (one : S → I → Bool) (p : S) (ps : List S) (xs : List I) → star p ≡ true → fits_items star one (p ∷ ps) xs ≡ passes_somewhere (fits_items star one ps) xs
fits_items-star star one p ps xs e = rw e refl

fits_items-other : {S I : Type 0} (star : S → Bool) (one : S → I → Bool) (p : S) (ps : List S) (xs : List I) → star p ≡ false → fits_items star one (p ∷ ps) xs ≡ takes_first (one p) (fits_items star one ps) xs
fits_items-other star one p ps xs e = rw e refl

-- the same tests of the same lists
somewhere_along : {I : Type 0} (f g : List I → Bool) → ((xs : List I) → f xs ≡ g xs) → (xs : List I) → passes_somewhere f xs ≡ passes_somewhere g xs
somewhere_along f g h [] = rw (h []) refl
somewhere_along f g h (x ∷ xs) = rw (h (x ∷ xs), somewhere_along f g h xs) refl

star_covers_more : {S I : Type 0} (star : S → Bool) (one : S → I → Bool) (p : S) (ps : List S) (xs : List I) → star p ≡ true → passes_somewhere (fits_items star one (p ∷ ps)) xs ≡ true → fits_items star one (p ∷ ps) xs ≡ true
star_covers_more star one p ps xs e h =
    fits_items-star star one p ps xs e ∙ somewhere_twice (fits_items star one ps) xs (sym (somewhere_along (fits_items star one (p ∷ ps)) (passes_somewhere (fits_items star one ps)) (λ zs. fits_items-star star one p ps zs e) xs) ∙ h)

pub walk_star : {S I : Type 0} {star : S → Bool} {one : S → I → Bool} {mask : List S} {text : List I} {p : S} {ps : List S} {xs : List I} {qs : List S} {ys : List I} → Walk star one mask text (p ∷ ps) xs qs ys → star p ≡ true → Walk star one mask text ps xs ps xs
walk_star {star = star} {one = one} {p = p} {ps = ps} {xs = xs} {qs = qs} {ys = ys} w e = record {
  same = w.same ∙ or_absorbed (fits_items star one (p ∷ ps) xs) (passes_behind (fits_items star one qs) ys) (λ h. star_covers_more star one p ps xs e (w.covers h)) ∙ fits_items-star star one p ps xs e;
  covers = λ h. right_of_or (fits_items star one ps xs) (passes_behind (fits_items star one ps) xs) h;
  no_longer = omega arith;
  text_left = w.text_left;
  later_left = w.text_left;
  within = omega (arith, w.no_longer, w.within);
}

pub walk_pair : {S I : Type 0} {star : S → Bool} {one : S → I → Bool} {mask : List S} {text : List I} {p : S} {ps : List S} {x : I} {xs : List I} {qs : List S} {ys : List I} → Walk star one mask text (p ∷ ps) (x ∷ xs) qs ys → star p ≡ false → one p x ≡ true → Walk star one mask text ps xs qs ys
walk_pair {star = star} {one = one} {p = p} {ps = ps} {x = x} {xs = xs} {qs = qs} {ys = ys} w e t = record {
  same = w.same ∙ ap (λ z. z || passes_behind (fits_items star one qs) ys) (fits_items-other star one p ps (x ∷ xs) e ∙ ap (λ z. z && fits_items star one ps xs) t);
  covers = λ h. first_behind (one p) (fits_items star one ps) (x ∷ xs) (sym (somewhere_along (fits_items star one (p ∷ ps)) (takes_first (one p) (fits_items star one ps)) (λ zs. fits_items-other star one p ps zs e) (x ∷ xs)) ∙ w.covers h);
  no_longer = omega (arith, w.no_longer);
  text_left = omega (arith, w.text_left);
  later_left = w.later_left;
  within = w.within;
}

pub walk_back : {S I : Type 0} {star : S → Bool} {one : S → I → Bool} {mask : List S} {text : List I} {ps : List S} {xs : List I} {qs : List S} {y : I} {ys : List I} → Walk star one mask text ps xs qs (y ∷ ys) → fits_items star one ps xs ≡ false → Walk star one mask text qs ys qs ys
walk_back {star = star} {one = one} {qs = qs} {y = y} {ys = ys} w e = record {
  same = w.same ∙ ap (λ z. z || passes_behind (fits_items star one qs) (y ∷ ys)) e;
  covers = λ h. right_of_or (fits_items star one qs ys) (passes_behind (fits_items star one qs) ys) h;
  no_longer = omega arith;
  text_left = omega (arith, w.later_left);
  later_left = omega (arith, w.later_left);
  within = w.within;
}

pub walk_stuck : {S I : Type 0} {star : S → Bool} {one : S → I → Bool} {mask : List S} {text : List I} {ps : List S} {xs : List I} {qs : List S} → Walk star one mask text ps xs qs [] → fits_items star one ps xs ≡ false → fits_items star one mask text ≡ false
walk_stuck w e = w.same ∙ ap (λ z. z || false) e

pub walk_ends : {S I : Type 0} {star : S → Bool} {one : S → I → Bool} {mask : List S} {text : List I} {qs : List S} {ys : List I} → Walk star one mask text [] [] qs ys → fits_items star one mask text ≡ true
walk_ends w = w.same
