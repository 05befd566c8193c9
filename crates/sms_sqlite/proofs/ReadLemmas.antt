-- What is read off rows that are added and dropped.
use Rattle.std.proofs.Common.{◌≡◌, Bool, true, false, List, [], ◌∷◌, ◌++◌, filter, Option, Some, None, refl, ap, ap₂}
use Rattle.std.proofs.Common.{sym, subst, ◌∙◌}
use Rattle.std.specs.List.{list_any}
use Rattle.sms_sqlite.specs.Values.{each_in, joined}

abbrev pub some : {A : Type 0} → A → Option A
some x = Some x

pub some_is : {A : Type 0} (x y : A) → some x ≡ some y → x ≡ y
some_is x y e = cc

pub record Joins {B : Type 0} (o : Option B) (os : Option (List B)) (ys : List B) : Type 0 where
  pub first : B
  pub others : List B
  pub here : o ≡ Some first
  pub there : os ≡ Some others
  pub is : ys ≡ first ∷ others

pub joins : {B : Type 0} (o : Option B) (os : Option (List B)) (ys : List B) → joined o os ≡ Some ys → Joins o os ys
joins (Some x) (Some xs) ys e = record { first = x; others = xs; here = refl; there = refl; is = sym (some_is (x ∷ xs) ys e) }
joins (Some x) None ys e = absurd cc
joins None os ys e = absurd cc

module _ {A B : Type 0} (read : A → Option B) where
  -- a row behind the others
  pub each_push : (rows : List A) (xs : List B) (row : A) (x : B) → each_in read rows ≡ Some xs → read row ≡ Some x → each_in read (rows ++ row ∷ []) ≡ Some (xs ++ x ∷ [])
  each_push [] xs row x all one = rw one (ap (λ (l : List _). some (l ++ x ∷ [])) (some_is [] xs all))
  each_push (r ∷ rows) xs row x all one =
      let p = joins (read r) (each_in read rows) xs all in
      rw (p.here, each_push rows p.others row x p.there one) (ap (λ (l : List _). some (l ++ x ∷ [])) (sym p.is))

  each_at : (test : A → Bool) (test′ : B → Bool) (r : A) (rows : List A) (x : B) (xs : List B) (b : Bool) → test r ≡ b → test′ x ≡ b → read r ≡ Some x
      → each_in read (filter test rows) ≡ Some (filter test′ xs) → each_in read (filter test (r ∷ rows)) ≡ Some (filter test′ (x ∷ xs))
  each_at test test′ r rows x xs true is is′ one rest = rw (is, is′, one, rest) refl
  each_at test test′ r rows x xs false is is′ one rest = rw (is, is′) rest

  -- the rows that pass a test, where the values tell the same test
  pub each_filter : (test : A → Bool) (test′ : B → Bool) → ((r : A) (x : B) → read r ≡ Some x → test r ≡ test′ x) → (rows : List A) (xs : List B)
      → each_in read rows ≡ Some xs → each_in read (filter test rows) ≡ Some (filter test′ xs)
  each_filter test test′ alike [] xs all = ap (λ (l : List _). some (filter test′ l)) (some_is [] xs all)
  each_filter test test′ alike (r ∷ rows) xs all =
      let p = joins (read r) (each_in read rows) xs all in
      subst (λ (l : List _). each_in read (filter test (r ∷ rows)) ≡ Some (filter test′ l)) (sym p.is)
      (each_at test test′ r rows p.first p.others (test r) refl (sym (alike r p.first p.here)) p.here (each_filter test test′ alike rows p.others p.there))

  -- whether some row passes
  pub each_any : (test : A → Bool) (test′ : B → Bool) → ((r : A) (x : B) → read r ≡ Some x → test r ≡ test′ x) → (rows : List A) (xs : List B)
      → each_in read rows ≡ Some xs → list_any test rows ≡ list_any test′ xs
  each_any test test′ alike [] xs all = ap (list_any test′) (some_is [] xs all)
  each_any test test′ alike (r ∷ rows) xs all =
      let p = joins (read r) (each_in read rows) xs all in
      rw (alike r p.first p.here, each_any test test′ alike rows p.others p.there) (ap (list_any test′) (sym p.is))

  -- rows in two parts
  pub record Parts (front back : List A) (xs : List B) : Type 0 where
    pub before : List B
    pub behind : List B
    pub front_is : each_in read front ≡ Some before
    pub back_is : each_in read back ≡ Some behind
    pub is : xs ≡ before ++ behind

  pub each_parts : (front back : List A) (xs : List B) → each_in read (front ++ back) ≡ Some xs → Parts front back xs
  each_parts [] back xs all = record { before = []; behind = xs; front_is = refl; back_is = all; is = refl }
  each_parts (r ∷ front) back xs all =
      let p = joins (read r) (each_in read (front ++ back)) xs all in
      let more = each_parts front back p.others p.there in
      record { before = p.first ∷ more.before; behind = more.behind; front_is = ap₂ joined p.here more.front_is; back_is = more.back_is; is = p.is ∙ ap (λ (l : List _). p.first ∷ l) more.is }

  pub each_append : (front back : List A) (before behind : List B) → each_in read front ≡ Some before → each_in read back ≡ Some behind → each_in read (front ++ back) ≡ Some (before ++ behind)
  each_append [] back before behind one two = two ∙ ap (λ (l : List _). some (l ++ behind)) (some_is [] before one)
  each_append (r ∷ front) back before behind one two =
      let p = joins (read r) (each_in read front) before one in
      rw (p.here, each_append front back p.others behind p.there two) (ap (λ (l : List _). some (l ++ behind)) (sym p.is))
