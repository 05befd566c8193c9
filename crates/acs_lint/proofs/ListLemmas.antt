-- What holds of each item of a list, and what tests find in one.
use Rattle.std.proofs.Common.{◌≡◌, ◌||◌, Bool, true, false, List, [], ◌∷◌, ◌++◌, map, refl, ap, ◌∙◌}
use Rattle.std.specs.Prelude.{flat_map}
use Rattle.std.specs.List.{AllByRecursion, list_any}
use Rattle.acs_tree.specs.Sound.{Among, here, there}
use Rattle.acs_lint.proofs.BoolLemmas.{never, off_left, off_right, on_left, on_right}

pub all_append : {A : Type 0} (P : A → Type 0) (xs ys : List A) → AllByRecursion P xs → AllByRecursion P ys → AllByRecursion P (xs ++ ys)
all_append P [] ys a b = b
all_append P (x ∷ xs) ys a b = (a.0, all_append P xs ys a.1 b)

pub all_flat : {A B : Type 0} (P : B → Type 0) (f : A → List B) (xs : List A) → ((x : A) → Among x xs → AllByRecursion P (f x)) → AllByRecursion P (flat_map f xs)
all_flat P f [] h = tt
all_flat P f (x ∷ xs) h = all_append P (f x) (flat_map f xs) (h x here) (all_flat P f xs (λ y m. h y (there m)))

-- an item that passes the test is found
pub any_at : {A B : Type 0} (test : B → Bool) (f : A → B) (before : List A) (x : A) (behind : List A) → test (f x) ≡ true → list_any test (map f (before ++ x ∷ behind)) ≡ true
any_at test f [] x behind e = on_left (test (f x)) (list_any test (map f behind)) e
any_at test f (y ∷ before) x behind e = on_right (test (f y)) (list_any test (map f (before ++ x ∷ behind))) (any_at test f before x behind e)

pub any_here : {A : Type 0} (test : A → Bool) (before : List A) (x : A) (behind : List A) → test x ≡ true → list_any test (before ++ x ∷ behind) ≡ true
any_here test [] x behind e = on_left (test x) (list_any test behind) e
any_here test (y ∷ before) x behind e = on_right (test y) (list_any test (before ++ x ∷ behind)) (any_here test before x behind e)

-- an item that passes only where an earlier one does makes no difference
pub any_without : {A : Type 0} (test : A → Bool) (before : List A) (x : A) (behind : List A) → (test x ≡ true → list_any test before ≡ true) → list_any test (before ++ x ∷ behind) ≡ list_any test (before ++ behind)
any_without test [] x behind h = none (test x) h
  where
    none : (b : Bool) → (b ≡ true → false ≡ true) → (b || list_any test behind) ≡ list_any test behind
    none true g = never (g refl)
    none false g = refl
any_without test (y ∷ before) x behind h = one (λ g. any_without test before x behind g) (test y) h
  where
    one : ((test x ≡ true → list_any test before ≡ true) → list_any test (before ++ x ∷ behind) ≡ list_any test (before ++ behind))
        → (b : Bool) → (test x ≡ true → (b || list_any test before) ≡ true) → (b || list_any test (before ++ x ∷ behind)) ≡ (b || list_any test (before ++ behind))
    one go true g = refl
    one go false g = go g

-- a test that nothing passes

pub front_off : {A : Type 0} (test : A → Bool) (xs ys : List A) → list_any test (xs ++ ys) ≡ false → list_any test xs ≡ false
front_off test [] ys h = refl
front_off test (x ∷ xs) ys h =
    ap (λ (b : Bool). b || list_any test xs) (off_left (test x) (list_any test (xs ++ ys)) h) ∙ front_off test xs ys (off_right (test x) (list_any test (xs ++ ys)) h)

pub rest_off : {A : Type 0} (test : A → Bool) (xs ys : List A) → list_any test (xs ++ ys) ≡ false → list_any test ys ≡ false
rest_off test [] ys h = h
rest_off test (x ∷ xs) ys h = rest_off test xs ys (off_right (test x) (list_any test (xs ++ ys)) h)

pub joined_off : {A : Type 0} (test : A → Bool) (xs ys : List A) → list_any test xs ≡ false → list_any test ys ≡ false → list_any test (xs ++ ys) ≡ false
joined_off test [] ys a b = b
joined_off test (x ∷ xs) ys a b =
    ap (λ (c : Bool). c || list_any test (xs ++ ys)) (off_left (test x) (list_any test xs) a) ∙ joined_off test xs ys (off_right (test x) (list_any test xs) a) b
