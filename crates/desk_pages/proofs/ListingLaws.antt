-- Data sets, one after the other.
use Rattle.std.proofs.Common.{◌≡◌, ◌⊎◌, ◌<◌, ◌≤◌, ◌+◌, ℕ, Bool, true, false, List, [], ◌∷◌, ◌++◌, length, refl, ap, sym, ◌∙◌, arith, inl, inr, append-nil, length-append, map}
use Rattle.std.proofs.lemmas.List.{length-map, map-append}
use Rattle.std.specs.Prelude.{Option, None, Some, filter}
use Rattle.sms_construct.specs.declared.data_set.DataSet.{DataSet}
use Rattle.desk_state.specs.Following.{IsFirstBehind, IsLastName}
use Rattle.desk_pages.specs.Listing.{IsListing, IsPageEnd, IsWalk, fits, last_name, most_looked, most_shown}

-- so many were looked at behind a name, and those that fit were put on the page
pub record IsSoFar (sets : List DataSet) (mask from at : Option (List ℕ)) (shown : List DataSet) (looked : ℕ) : Type 0 where
  pub walked : List DataSet
  pub walks : IsWalk sets from walked
  pub shown_are : shown ≡ filter (λ set. fits mask set.dsn) walked
  pub few : length shown ≤ most_shown
  pub at_is : last_name from walked ≡ at
  pub count : length walked ≡ looked

pub so_far_none : (sets : List DataSet) (mask from : Option (List ℕ)) → IsSoFar sets mask from from [] 0
so_far_none sets mask from = record { walked = []; walks = tt; shown_are = refl; few = omega arith; at_is = refl; count = refl }

pub walk_more : (sets : List DataSet) (from : Option (List ℕ)) (walked : List DataSet) (set : DataSet) → IsWalk sets from walked → IsFirstBehind (last_name from walked) sets set → IsWalk sets from (walked ++ set ∷ [])
walk_more sets from [] set h first = (first, tt)
walk_more sets from (x ∷ xs) set h first = (h.0, walk_more sets (Some x.dsn) xs set h.1 first)

pub last_more : (from : Option (List ℕ)) (walked : List DataSet) (set : DataSet) → last_name from (walked ++ set ∷ []) ≡ Some set.dsn
last_more from [] set = refl
last_more from (x ∷ xs) set = last_more (Some x.dsn) xs set

filter_fit : (f : DataSet → Bool) (walked : List DataSet) (set : DataSet) → f set ≡ true → filter f (walked ++ set ∷ []) ≡ filter f walked ++ set ∷ []
filter_fit f [] set is = rw is refl
filter_fit f (x ∷ xs) set is = let rest = filter_fit f xs set is in grind (arith, rest)

filter_not : (f : DataSet → Bool) (walked : List DataSet) (set : DataSet) → f set ≡ false → filter f (walked ++ set ∷ []) ≡ filter f walked
filter_not f [] set is = rw is refl
filter_not f (x ∷ xs) set is = let rest = filter_not f xs set is in grind (arith, rest)

module _ (sets : List DataSet) (mask from at : Option (List ℕ)) (shown : List DataSet) (looked : ℕ) (h : IsSoFar sets mask from at shown looked) where
  -- a data set that fits
  pub so_far_fit : (set : DataSet) → IsFirstBehind at sets set → fits mask set.dsn ≡ true → length shown < most_shown → IsSoFar sets mask from (Some set.dsn) (shown ++ set ∷ []) (looked + 1)
  so_far_fit set first is few = record {
    walked = h.walked ++ set ∷ [];
    walks = walk_more sets from h.walked set h.walks (rw h.at_is first);
    shown_are = ap (λ l. l ++ set ∷ []) h.shown_are ∙ sym (filter_fit (λ (x : DataSet). fits mask x.dsn) h.walked set is);
    few = omega (arith, few, length-append shown (set ∷ []));
    at_is = last_more from h.walked set;
    count = omega (arith, h.count, length-append h.walked (set ∷ []));
  }

  -- one that doesn't
  pub so_far_not : (set : DataSet) → IsFirstBehind at sets set → fits mask set.dsn ≡ false → IsSoFar sets mask from (Some set.dsn) shown (looked + 1)
  so_far_not set first is = record {
    walked = h.walked ++ set ∷ [];
    walks = walk_more sets from h.walked set h.walks (rw h.at_is first);
    shown_are = h.shown_are ∙ sym (filter_not (λ (x : DataSet). fits mask x.dsn) h.walked set is);
    few = h.few;
    at_is = last_more from h.walked set;
    count = omega (arith, h.count, length-append h.walked (set ∷ []));
  }

  -- none is behind the last
  pub ends_last : looked ≤ most_looked → IsLastName at sets → IsListing sets mask from shown None
  ends_last within last = record {
    walked = h.walked;
    walks = h.walks;
    shown_are = h.shown_are;
    few = h.few;
    bounded = omega (arith, h.count, within);
    end = rw h.at_is last;
  }

-- one more was put on the page
pub so_far_push : {X : Type 0} (f : X → DataSet) (sets : List DataSet) (mask from at : Option (List ℕ)) (xs ys : List X) (x : X) (looked : ℕ) → ys ≡ xs ++ x ∷ [] → IsSoFar sets mask from at (map f xs) looked → IsFirstBehind at sets (f x) → fits mask (f x).dsn ≡ true → (length xs ≡ most_shown → ⊥) → IsSoFar sets mask from (Some (f x).dsn) (map f ys) (looked + 1)
so_far_push f sets mask from at xs ys x looked is h first fit apart =
    let few : length (map f xs) < most_shown = omega (arith, h.few, apart, length-map xs f) in
    rw (ap (λ l. map f l) is ∙ map-append f xs (x ∷ [])) (so_far_fit sets mask from at (map f xs) looked h (f x) first fit few)

none_some : {X : Type 0} (x : X) → Some x ≡ None → ⊥
none_some x e = absurd (cc e)

some_last : (name : List ℕ) (walked : List DataSet) → last_name (Some name) walked ≡ None → ⊥
some_last name [] e = none_some name e
some_last name (x ∷ xs) e = some_last x.dsn xs e

none_walked : (from : Option (List ℕ)) (walked : List DataSet) → last_name from walked ≡ None → walked ≡ []
none_walked from [] e = refl
none_walked from (x ∷ xs) e = absurd (some_last x.dsn xs e)

empty_list : {X : Type 0} (xs : List X) → length xs ≡ 0 → xs ≡ []
empty_list [] e = refl
empty_list (x ∷ xs) e = absurd (omega (arith, e))

none_shown : (f : DataSet → Bool) (shown walked : List DataSet) → shown ≡ filter f walked → length walked ≡ 0 → length shown ≡ 0
none_shown f shown walked is none = ap (λ l. length l) (is ∙ ap (λ l. filter f l) (empty_list walked none))

-- the page is full, or enough were looked at
module _ (sets : List DataSet) (mask from : Option (List ℕ)) (shown : List DataSet) (looked : ℕ) where
  ends_at : (at : Option (List ℕ)) (h : IsSoFar sets mask from at shown looked) → (length h.walked ≡ 0 → ⊥) → (length shown ≡ most_shown) ⊎ (length h.walked ≡ most_looked) → IsPageEnd sets from h.walked shown at
  ends_at None h some why = absurd (some (ap (λ l. length l) (none_walked from h.walked h.at_is)))
  ends_at (Some name) h some why = (h.at_is, why)

  pub ends_full : (at : Option (List ℕ)) → IsSoFar sets mask from at shown looked → looked ≤ most_looked → length shown ≡ most_shown → IsListing sets mask from shown at
  ends_full at h within full = record {
    walked = h.walked;
    walks = h.walks;
    shown_are = h.shown_are;
    few = h.few;
    bounded = omega (arith, h.count, within);
    end = ends_at at h (λ none. omega (arith, full, none_shown (λ (x : DataSet). fits mask x.dsn) shown h.walked h.shown_are none)) (inl full);
  }

  pub ends_looked : (at : Option (List ℕ)) → IsSoFar sets mask from at shown looked → looked ≡ most_looked → IsListing sets mask from shown at
  ends_looked at h enough = record {
    walked = h.walked;
    walks = h.walks;
    shown_are = h.shown_are;
    few = h.few;
    bounded = omega (arith, h.count, enough);
    end = ends_at at h (λ none. omega (arith, none, h.count, enough)) (inr (h.count ∙ enough));
  }
