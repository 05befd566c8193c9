-- Fronts of lists, and one more item of a worker.
use Rattle.std.proofs.Common.{◌≡◌, ℕ, zero, suc, ◌<◌, ◌≤◌, ◌==◌, true, List, [], ◌∷◌, ◌++◌, length, map, take, get_or}
use Rattle.std.proofs.Common.{refl, sym, ap, ◌∙◌, arith, append-nil, append_assoc, eq-eqb, rules}
use Rattle.std.specs.Prelude.{Option, Some, None}
use Rattle.desk_plan.specs.Plan.{worker_at}
use Rattle.desk_plan.specs.Sharing.{made_of, times}

-- inside, the default doesn't matter
pub any-default : {X : Type 0} (xs : List X) (i : ℕ) (a b : X) → i < length xs → get_or xs i a ≡ get_or xs i b
any-default [] i a b less = absurd (omega arith)
any-default (x ∷ xs) zero a b less = refl
any-default (x ∷ xs) (suc i) a b less = any-default xs i a b (omega arith)

pub take-more : {X : Type 0} (xs : List X) (i : ℕ) (x : X) → i < length xs → x ≡ get_or xs i x → take (suc i) xs ≡ take i xs ++ x ∷ []
take-more [] i x less here = absurd (omega arith)
take-more (y ∷ ys) zero x less here = ap (λ z. z ∷ []) (sym here)
take-more (y ∷ ys) (suc i) x less here = ap (λ zs. y ∷ zs) (take-more ys i x (omega arith) here)

pub take-length : {X : Type 0} (xs : List X) (i : ℕ) → i ≤ length xs → length (take i xs) ≡ i
take-length xs zero less = refl
take-length [] (suc i) less = absurd (omega arith)
take-length (x ∷ xs) (suc i) less = ap suc (take-length xs i (omega arith))

pub take-whole : {X : Type 0} (xs : List X) → take (length xs) xs ≡ xs
take-whole [] = refl
take-whole (x ∷ xs) = ap (λ ys. x ∷ ys) (take-whole xs)

pub times-take : (k : ℕ) (ps : List ℕ) (i : ℕ) → times k (take i ps) ≤ times k ps
times-take k ps zero = omega arith
times-take k [] (suc i) = omega arith
times-take k (p ∷ ps) (suc i) = omega (arith, times-take k ps i)

-- a place of the plan that names the worker is one more
pub times-less : (k : ℕ) (ps : List ℕ) (i : ℕ) → i < length ps → k ≡ get_or ps i k → times k (take i ps) < times k ps
times-less k [] i less here = absurd (omega arith)
times-less k (p ∷ ps) zero less here = let hit : (p == k) ≡ true = eq-eqb p k (sym here) in rw hit (omega arith)
times-less k (p ∷ ps) (suc i) less here = omega (arith, times-less k ps i (omega arith) here)

pub made-push : {I A E : Type 0} (make : I → A → List E) (xs : List A) (js : List I) (a : A) (i : I) → length xs ≡ length js → made_of make (xs ++ a ∷ []) (js ++ i ∷ []) ≡ made_of make xs js ++ make i a
made-push make [] [] a i same = append-nil (make i a)
made-push make [] (j ∷ js) a i same = absurd (omega (arith, same))
made-push make (b ∷ xs) [] a i same = absurd (omega (arith, same))
made-push make (b ∷ xs) (j ∷ js) a i same = ap (λ es. make j b ++ es) (made-push make xs js a i (omega (arith, same))) ∙ sym (append_assoc (make j b) (made_of make xs js) (make i a))

-- the worker of one more item
pub mapped-more : {X Y : Type 0} (f : X → Y) (xs : List X) (i : ℕ) (x : X) → i < length xs → x ≡ get_or xs i x → map f (take i xs) ++ f x ∷ [] ≡ map f (take (suc i) xs)
mapped-more f [] i x less here = absurd (omega arith)
mapped-more f (y ∷ ys) zero x less here = ap (λ z. f z ∷ []) here
mapped-more f (y ∷ ys) (suc i) x less here = ap (λ zs. f y ∷ zs) (mapped-more f ys i x (omega arith) here)

-- the worker of a job is one of so many
pub worker-below : (workers : ℕ) (number : Option ℕ) → 2 ≤ workers → worker_at workers number < workers
worker-below workers None two = omega (arith, two)
worker-below workers (Some number) two = search rules
