-- Floors, and the rows of one.
use Rattle.std.proofs.Common.{◌≡◌, ◌≤◌, ℕ, Bool, true, false, cond, List, [], ◌∷◌, ◌++◌, filter, refl, sym, ap, ◌∙◌}
use Rattle.std.proofs.Common.{arith, max}
use Rattle.std.specs.Prelude.{◌==◌, ◌&&◌, ◌||◌, bytes_eq, nat_lt, if◌then◌else◌}
use Rattle.std.specs.List.{AllByRecursion, list_any}
use Rattle.std.proofs.lemmas.Bool.Decides.{Decides-eqb, nat_tests}
use Rattle.sms_keeper.specs.declared.floor.Floor.{Floor}
use Rattle.sms_keeper.specs.Tables.{is_below_floor, is_floor_of}
use Rattle.desk_law.specs.Kept.{greatest_floor}
use Rattle.desk_law.specs.Records.{floor_rows}
use Rattle.desk_law.proofs.ByteLemmas.{bytes-self, same-bytes}

greatest-append-at : (b : Bool) (f x y z : ℕ) → x ≡ max y z → (if b then max f x else x) ≡ max (if b then max f y else y) z
greatest-append-at true f x y z is = omega (arith, is)
greatest-append-at false f x y z is = is

pub greatest-append : (job : List ℕ) (a b : List Floor) → greatest_floor job (a ++ b) ≡ max (greatest_floor job a) (greatest_floor job b)
greatest-append job [] b = omega arith
greatest-append job (f ∷ a) b = greatest-append-at (is_floor_of job f) f.floor _ _ _ (greatest-append job a b)

greatest-filter-at : (job : List ℕ) (f : Floor) (fs : List Floor) (b : Bool) → is_floor_of job f ≡ b → greatest_floor job fs ≡ greatest_floor job (filter (is_floor_of job) fs)
    → (if b then max f.floor (greatest_floor job fs) else greatest_floor job fs) ≡ greatest_floor job (cond b (f ∷ filter (is_floor_of job) fs) (filter (is_floor_of job) fs))
greatest-filter-at job f fs true is ih = rw (is, ih) refl
greatest-filter-at job f fs false is ih = ih

greatest-filter : (job : List ℕ) (fs : List Floor) → greatest_floor job fs ≡ greatest_floor job (filter (is_floor_of job) fs)
greatest-filter job [] = refl
greatest-filter job (f ∷ fs) = greatest-filter-at job f fs (is_floor_of job f) refl (greatest-filter job fs)

greatest-rows-at : (job : List ℕ) (n : ℕ) (b : Bool) → (n == 0) ≡ b → greatest_floor job (if b then [] else record { job = job; floor = n } ∷ []) ≡ n
greatest-rows-at job n true is = sym ((Decides-eqb n 0).0 is)
greatest-rows-at job n false is = rw (bytes-self job) (omega arith)

-- the floor of a job whose rows are those of that floor
pub greatest-rows : (job : List ℕ) (n : ℕ) (fs : List Floor) → filter (is_floor_of job) fs ≡ floor_rows job n → greatest_floor job fs ≡ n
greatest-rows job n fs are = greatest-filter job fs ∙ ap (greatest_floor job) are ∙ greatest-rows-at job n (n == 0) refl

standing-at : (b : Bool) (f x y : ℕ) → (b ≡ true → f ≤ y) → x ≤ y → (if b then max f x else x) ≤ y
standing-at true f x y stands less = let one : f ≤ y = stands refl in omega (arith, one, less)
standing-at false f x y stands less = less

standing-known : (f : Floor) (fs : List Floor) (job : List ℕ) → f.floor ≤ greatest_floor f.job fs → is_floor_of job f ≡ true → f.floor ≤ greatest_floor job fs
standing-known f fs job stands is = let e : f.job ≡ job = same-bytes f.job job is in rw e at stands

standing : (job : List ℕ) (a b : List Floor) → AllByRecursion (λ (f : Floor). f.floor ≤ greatest_floor f.job a) b → greatest_floor job b ≤ greatest_floor job a
standing job a [] all = omega arith
standing job a (f ∷ b) all = standing-at (is_floor_of job f) f.floor (greatest_floor job b) (greatest_floor job a) (standing-known f a job all.0) (standing job a b all.1)

-- floors that stand already raise none
pub greatest-same : (job : List ℕ) (a b : List Floor) → AllByRecursion (λ (f : Floor). f.floor ≤ greatest_floor f.job a) b → greatest_floor job (a ++ b) ≡ greatest_floor job a
greatest-same job a b all = omega (arith, greatest-append job a b, standing job a b all)

one-floor-at : (b : Bool) (old floor raised : ℕ) → raised ≡ max old (if b then max floor 0 else 0) → raised ≡ (if b then max floor old else old)
one-floor-at true old floor raised is = omega (arith, is)
one-floor-at false old floor raised is = omega (arith, is)

-- the floor of each job after one floor more
pub greatest-one : (fs : List Floor) (raised : List ℕ) (floor : ℕ) (job : List ℕ)
    → greatest_floor job (fs ++ record { job = raised; floor = floor } ∷ []) ≡ (if bytes_eq raised job then max floor (greatest_floor job fs) else greatest_floor job fs)
greatest-one fs raised floor job = one-floor-at (bytes_eq raised job) (greatest_floor job fs) floor _ (greatest-append job fs (record { job = raised; floor = floor } ∷ []))

below-any-at : (b : Bool) (number f x : ℕ) (rest : Bool) → rest ≡ nat_lt number x → ((b && nat_lt number f) || rest) ≡ nat_lt number (if b then max f x else x)
below-any-at true number f x rest is = below-max number f x (nat_lt number f) refl is
  where
    below-max : (number f x : ℕ) {rest : Bool} (c : Bool) → nat_lt number f ≡ c → rest ≡ nat_lt number x → (c || rest) ≡ nat_lt number (max f x)
    below-max number f x true lower is = grind (arith, nat_tests, lower)
    below-max number f x false upper is = is ∙ grind (arith, nat_tests, upper)
below-any-at false number f x rest is = is

-- a number is below a floor of the job where it is below the greatest
pub below-any : (job : List ℕ) (number : ℕ) (fs : List Floor) → list_any (is_below_floor job number) fs ≡ nat_lt number (greatest_floor job fs)
below-any job number [] = grind (arith, nat_tests)
below-any job number (f ∷ fs) = below-any-at (is_floor_of job f) number f.floor (greatest_floor job fs) _ (below-any job number fs)
