-- Rows by their keys, after rows were dropped or added.
use Rattle.std.proofs.Common.{◌≡◌, ℕ, Bool, true, false, cond, List, [], ◌∷◌, Option, None, Some, filter, map, refl, ap}
use Rattle.std.specs.Prelude.{not, ◌==◌, ◌&&◌, bytes_eq, if◌then◌else◌}
use Rattle.std.specs.Option.{option_or}
use Rattle.std.proofs.lemmas.Bool.Decides.{Decides-eqb}
use Rattle.sms_keeper.specs.declared.kept_row.KeptRow.{KeptRow}
use Rattle.sms_keeper.specs.Tables.{is_reply_of}
use Rattle.desk_law.proofs.ByteLemmas.{same-bytes}

-- rows of one name compare alike with others
pub name-known : (a k d : List ℕ) → bytes_eq a k ≡ true → bytes_eq a d ≡ bytes_eq k d
name-known a k d is = ap (λ n. bytes_eq n d) (same-bytes a k is)

pub both-true : (a b : Bool) → (a && b) ≡ true → (a ≡ true) × (b ≡ true)
both-true true b both = (refl, both)
both-true false b both = absurd cc

-- the key of a row that passes
pub reply-key : (row : KeptRow) (job : List ℕ) (number : ℕ) → is_reply_of job number row ≡ true → (row.job ≡ job) × (row.number ≡ number)
reply-key row job number is =
    let both = both-true (bytes_eq row.job job) (row.number == number) is in
    (same-bytes row.job job both.0, (Decides-eqb row.number number).0 both.1)

filter-dropped-at : {X : Type 0} (p : X → Bool) (x : X) (kept rest : List X) (u v b : Bool) → p x ≡ u → (u ≡ true → v ≡ b) → filter p kept ≡ (if b then [] else rest)
    → filter p (cond (not v) (x ∷ kept) kept) ≡ (if b then [] else cond u (x ∷ rest) rest)
filter-dropped-at p x kept rest true true true is same ih = ih
filter-dropped-at p x kept rest true true false is same ih = absurd (let no : true ≡ false = same refl in cc)
filter-dropped-at p x kept rest true false true is same ih = absurd (let no : false ≡ true = same refl in cc)
filter-dropped-at p x kept rest true false false is same ih = rw (is, ih) refl
filter-dropped-at p x kept rest false true b is same ih = ih
filter-dropped-at p x kept rest false false b is same ih = rw is ih

-- rows of one key, after rows were dropped by a test that is the same at each of them
pub filter-dropped : {X : Type 0} (p q : X → Bool) (b : Bool) → ((x : X) → p x ≡ true → q x ≡ b) → (xs : List X)
    → filter p (filter (λ x. not (q x)) xs) ≡ (if b then [] else filter p xs)
filter-dropped p q true same [] = refl
filter-dropped p q false same [] = refl
filter-dropped p q b same (x ∷ xs) = filter-dropped-at p x (filter (λ x. not (q x)) xs) (filter p xs) (p x) (q x) b refl (same x) (filter-dropped p q b same xs)

filter-mapped-at : {X : Type 0} (f : X → X) (p : X → Bool) (x : X) (xs : List X) (u : Bool) → p x ≡ u → p (f x) ≡ p x → filter p (map f xs) ≡ map f (filter p xs)
    → filter p (map f (x ∷ xs)) ≡ map f (cond u (x ∷ filter p xs) (filter p xs))
filter-mapped-at f p x xs true is same ih = rw (same, is, ih) refl
filter-mapped-at f p x xs false is same ih = rw (same, is) ih

-- rows of one key, after each was changed but for its key
pub filter-mapped : {X : Type 0} (f : X → X) (p : X → Bool) → ((x : X) → p (f x) ≡ p x) → (xs : List X) → filter p (map f xs) ≡ map f (filter p xs)
filter-mapped f p same [] = refl
filter-mapped f p same (x ∷ xs) = filter-mapped-at f p x xs (p x) refl (same x) (filter-mapped f p same xs)

pub or-none : {X : Type 0} (o : Option X) → option_or o None ≡ o
or-none None = refl
or-none (Some x) = refl
