-- A state whose data sets and statuses stand in another order.
use Rattle.std.proofs.Common.{◌≡◌, ◌≤◌, ℕ, zero, suc, Bool, true, false, cond, List, [], ◌∷◌, ◌++◌, length, refl, sym}
use Rattle.std.proofs.Common.{ap, ◌∙◌, subst, arith}
use Rattle.std.specs.Prelude.{Option, None, Some, IfSome, bytes_eq, filter, find}
use Rattle.std.specs.List.{AllByRecursion}
use Rattle.sms_construct.specs.Configuration.{Configuration, IsConfiguration}
use Rattle.sms_construct.specs.declared.data_set.DataSet.{DataSet}
use Rattle.sms_construct.specs.declared.target.Target.{Target}
use Rattle.sms_construct.specs.declared.target.Target.TheVariants.{Group, Volume, Set}
use Rattle.sms_keeper.specs.declared.status_row.StatusRow.{StatusRow}
use Rattle.sms_keeper.specs.Tables.{is_named, is_status_of, same_target, without_set}
use Rattle.track_ledger.specs.declared.piece.Piece.{Piece}
use Rattle.desk_law.specs.State.{DeskState}
use Rattle.desk_law.specs.Extents.{extents_if, extents_named, extents_of, pieces_on}
use Rattle.desk_law.specs.Lawful.{IsLawful, IsLawfulSet, times_named}
use Rattle.desk_law.specs.Statuses.{times_status}
use Rattle.desk_law.specs.Volumes.{times_target, volumes_in}
use Rattle.desk_law.proofs.ByteLemmas.{bytes-self, bytes-turned, same-bytes}
use Rattle.desk_law.proofs.CountLemmas.{all-cons, all-without, once_of, sum_all, sum_on, times-is}
use Rattle.desk_law.proofs.PlaceLemmas.{filter-append, filter-each}
use Rattle.desk_law.proofs.StatusLemmas.{IsConnected}

-- Lists of which under each key the same elements stand.

push-front : {X : Type 0} (a : List X) (x : X) (b : List X) → a ++ x ∷ b ≡ (a ++ x ∷ []) ++ b
push-front [] x b = refl
push-front (y ∷ a) x b = ap (λ l. y ∷ l) (push-front a x b)

each-middle : {X : Type 0} (P : X → Type 0) (a : List X) (x : X) (b : List X) → AllByRecursion P (a ++ x ∷ b) → P x
each-middle P [] x b all = all.0
each-middle P (y ∷ a) x b all = each-middle P a x b all.1

each-behind : {X : Type 0} (P : X → Type 0) (test : X → X → Bool) (xs ys front rest : List X) → ((x : X) → test x x ≡ true) → ((x : X) → filter (test x) ys ≡ filter (test x) xs)
    → AllByRecursion P xs → ys ≡ front ++ rest → AllByRecursion P rest
each-behind P test xs ys front [] own same all is = tt
each-behind P test xs ys front (y ∷ rest) own same all is =
    let here : filter (test y) (y ∷ rest) ≡ y ∷ filter (test y) rest = rw (own y) refl in
    let parts : filter (test y) xs ≡ filter (test y) front ++ y ∷ filter (test y) rest =
    sym (same y) ∙ (ap (filter (test y)) is ∙ (filter-append (test y) front (y ∷ rest) ∙ ap (λ l. filter (test y) front ++ l) here)) in (
      each-middle P (filter (test y) front) y (filter (test y) rest) (subst (AllByRecursion P) parts (filter-each P (test y) xs all)),
      each-behind P test xs ys (front ++ y ∷ []) rest own same all (is ∙ push-front front y rest),
    )

-- what holds of each of the one holds of each of the other
each-same : {X : Type 0} (P : X → Type 0) (test : X → X → Bool) (xs ys : List X) → ((x : X) → test x x ≡ true) → ((x : X) → filter (test x) ys ≡ filter (test x) xs) → AllByRecursion P xs → AllByRecursion P ys
each-same P test xs ys own same all = each-behind P test xs ys [] ys own same all refl

-- Names and statuses.

named-length_at : (n : List ℕ) (set : DataSet) (sets : List DataSet) (b : Bool) → is_named n set ≡ b → times_named n sets ≡ length (filter (is_named n) sets) → times_named n (set ∷ sets) ≡ length (filter (is_named n) (set ∷ sets))
named-length_at n set sets true is rest = rw is (omega (arith, rest))
named-length_at n set sets false is rest = rw is (omega (arith, rest))

named-length : (n : List ℕ) (sets : List DataSet) → times_named n sets ≡ length (filter (is_named n) sets)
named-length n [] = refl
named-length n (set ∷ sets) = named-length_at n set sets _ refl (named-length n sets)

status-length_at : (target : Target) (row : StatusRow) (rows : List StatusRow) (b : Bool) → is_status_of target row ≡ b → times_status target rows ≡ length (filter (is_status_of target) rows)
    → times_status target (row ∷ rows) ≡ length (filter (is_status_of target) (row ∷ rows))
status-length_at target row rows true is rest = rw is (omega (arith, rest))
status-length_at target row rows false is rest = rw is (omega (arith, rest))

status-length : (target : Target) (rows : List StatusRow) → times_status target rows ≡ length (filter (is_status_of target) rows)
status-length target [] = refl
status-length target (row ∷ rows) = status-length_at target row rows _ refl (status-length target rows)

own-target : (row : StatusRow) → is_status_of row.target row ≡ true
own-target row = own row.target
  where
    own : (target : Target) → same_target target target ≡ true
    own (Group n) = bytes-self n
    own (Volume n) = bytes-self n
    own (Set n) = bytes-self n

-- What is held.

-- the same data sets under each name
abbrev AreSameSets : List DataSet → List DataSet → Type 0
AreSameSets xs ys = (n : List ℕ) → filter (is_named n) ys ≡ filter (is_named n) xs

abbrev head_of : List DataSet → Option DataSet
head_of [] = None
head_of (x ∷ xs) = Some x

find-filter_at : (p : DataSet → Bool) (x : DataSet) (xs : List DataSet) (b : Bool) → p x ≡ b → find p xs ≡ head_of (filter p xs) → find p (x ∷ xs) ≡ head_of (filter p (x ∷ xs))
find-filter_at p x xs true is rest = rw is refl
find-filter_at p x xs false is rest = rw is rest

find-filter : (p : DataSet → Bool) (xs : List DataSet) → find p xs ≡ head_of (filter p xs)
find-filter p [] = refl
find-filter p (x ∷ xs) = find-filter_at p x xs _ refl (find-filter p xs)

-- without those of one name the others stay under their names
others-stay_at : (n m : List ℕ) (y : DataSet) (ys : List DataSet) (a b : Bool) → is_named m y ≡ a → is_named n y ≡ b → bytes_eq n m ≡ false → filter (is_named n) (without_set m ys) ≡ filter (is_named n) ys
    → filter (is_named n) (without_set m (y ∷ ys)) ≡ filter (is_named n) (y ∷ ys)
others-stay_at n m y ys true true is there off rest =
    let same : n ≡ m = sym (same-bytes y.dsn n there) ∙ same-bytes y.dsn m is in
    let on : bytes_eq n m ≡ true = subst (λ k. bytes_eq n k ≡ true) same (bytes-self n) in
    let bad : true ≡ false = sym on ∙ off in absurd cc
others-stay_at n m y ys true false is there off rest = rw (is, there) rest
others-stay_at n m y ys false true is there off rest = rw (is, there) (ap (λ (l : List DataSet). y ∷ l) rest)
others-stay_at n m y ys false false is there off rest = rw (is, there) rest

others-stay : (n m : List ℕ) (ys : List DataSet) → bytes_eq n m ≡ false → filter (is_named n) (without_set m ys) ≡ filter (is_named n) ys
others-stay n m [] off = refl
others-stay n m (y ∷ ys) off = others-stay_at n m y ys _ _ refl refl off (others-stay n m ys off)

none-named_at : (m : List ℕ) (y : DataSet) (ys : List DataSet) (b : Bool) → is_named m y ≡ b → filter (is_named m) (without_set m ys) ≡ [] → filter (is_named m) (without_set m (y ∷ ys)) ≡ []
none-named_at m y ys true is rest = rw is rest
none-named_at m y ys false is rest = rw (is, is) rest

none-named : (m : List ℕ) (ys : List DataSet) → filter (is_named m) (without_set m ys) ≡ []
none-named m [] = refl
none-named m (y ∷ ys) = none-named_at m y ys _ refl (none-named m ys)

no-length : (xs : List DataSet) → length xs ≡ 0 → xs ≡ []
no-length [] none = refl
no-length (x ∷ xs) none = absurd (omega (arith, none))

-- the rest of the one are the others of the other
rest-same_at : (x : DataSet) (rest ys : List DataSet) (n : List ℕ) (b : Bool) → bytes_eq n x.dsn ≡ b → times_named x.dsn (x ∷ rest) ≤ 1 → AreSameSets (x ∷ rest) ys
    → filter (is_named n) (without_set x.dsn ys) ≡ filter (is_named n) rest
rest-same_at x rest ys n true is once same =
    let name : x.dsn ≡ n = sym (same-bytes n x.dsn is) in
    let one : cond (bytes_eq x.dsn x.dsn) 1 zero ≡ suc zero = rw (bytes-self x.dsn) refl in
    let none : filter (is_named x.dsn) rest ≡ [] = no-length _ (omega (arith, once, one, named-length x.dsn rest)) in
    subst (λ m. filter (is_named m) (without_set x.dsn ys) ≡ filter (is_named m) rest) name (none-named x.dsn ys ∙ sym none)
rest-same_at x rest ys n false is once same =
    let off : is_named n x ≡ false = bytes-turned n x.dsn is in
    let here : filter (is_named n) (x ∷ rest) ≡ filter (is_named n) rest = rw off refl in
    others-stay n x.dsn ys is ∙ (same n ∙ here)

-- whatever is counted of what they hold of a volume comes to as much
sums-same : (f : Piece → ℕ) (v : List ℕ) (xs ys : List DataSet) → ((n : List ℕ) → times_named n xs ≤ 1) → AreSameSets xs ys → sum_all f v ys ≡ sum_all f v xs
sums-same f v [] [] once same = refl
sums-same f v [] (y ∷ ys) once same =
    let here : filter (is_named y.dsn) (y ∷ ys) ≡ y ∷ filter (is_named y.dsn) ys = rw (bytes-self y.dsn) refl in
    let bad : y ∷ filter (is_named y.dsn) ys ≡ [] = sym here ∙ same y.dsn in absurd cc
sums-same f v (x ∷ xs) ys once same =
    let number : times_named x.dsn ys ≡ times_named x.dsn (x ∷ xs) = named-length x.dsn ys ∙ (ap length (same x.dsn) ∙ sym (named-length x.dsn (x ∷ xs))) in
    let few : times_named x.dsn ys ≤ 1 = omega (arith, number, once x.dsn) in
    let here : find (is_named x.dsn) (x ∷ xs) ≡ Some x = rw (bytes-self x.dsn) refl in
    let found : find (is_named x.dsn) ys ≡ Some x = find-filter (is_named x.dsn) ys ∙ (ap head_of (same x.dsn) ∙ (sym (find-filter (is_named x.dsn) (x ∷ xs)) ∙ here)) in
    let own : sum_on f v (extents_named x.dsn ys) ≡ sum_on f v x.extents = ap (λ (o : Option DataSet). sum_on f v (extents_if o)) found in
    let rest = sums-same f v xs (without_set x.dsn ys) (λ n. let all = once n in omega (arith, all)) (λ n. rest-same_at x xs ys n _ refl (once x.dsn) same) in
    omega (arith, all-without f v x.dsn ys few, own, rest, all-cons f v x xs)

-- the state is lawful too
pub lawful-same : (s t : DeskState) → IsLawful s → t.active ≡ s.active → AreSameSets s.sets t.sets → ((target : Target) → filter (is_status_of target) t.statuses ≡ filter (is_status_of target) s.statuses) → IsLawful t
lawful-same s t lawful active sets statuses = record {
  sets = subst (λ (o : Option Configuration). AllByRecursion (IsLawfulSet (volumes_in o)) t.sets) (sym active)
      (each-same (IsLawfulSet (volumes_in s.active)) (λ (x : DataSet). is_named x.dsn) s.sets t.sets (λ x. bytes-self x.dsn) (λ x. sets x.dsn) lawful.sets);
  once = λ v track.
      omega (arith, times-is (pieces_on v (extents_of t.sets)) track, times-is (pieces_on v (extents_of s.sets)) track, sums-same (once_of track) v s.sets t.sets lawful.names sets, lawful.once v track);
  names = λ n. omega (arith, named-length n t.sets, named-length n s.sets, ap length (sets n), lawful.names n);
  statuses = λ target. status-length target t.statuses ∙ (ap length (statuses target) ∙ (sym (status-length target s.statuses) ∙ (lawful.statuses target ∙ ap (λ (o : Option Configuration). times_target o target) (sym active))));
  connected = each-same IsConnected (λ (row : StatusRow). is_status_of row.target) s.statuses t.statuses own-target (λ row. statuses row.target) lawful.connected;
  config = subst (λ (o : Option Configuration). IfSome o IsConfiguration) (sym active) lawful.config;
}
