-- Items that are shared out among workers by their jobs.
use Rattle.std.proofs.Common.{◌≡◌, inl, inr, ℕ, ◌+◌, ◌<◌, ◌==◌, Bool, true, false, List, [], ◌∷◌, ◌++◌, length, map}
use Rattle.std.proofs.Common.{if◌then◌else◌, refl, sym, ap, subst, ◌∙◌, arith, eq-eqb, eqb-true}
use Rattle.std.proofs.lemmas.Bool.{cases_Bool}
use Rattle.std.proofs.lemmas.Slice.Eq.{bytes_eq-Decides}
use Rattle.std.specs.Prelude.{bytes_eq, filter}
use Rattle.std.specs.List.{AllByRecursion, AllZip}
use Rattle.desk_plan.specs.Sharing.{made_of, those, times}

module _ {I A E : Type 0} (make : I → A → List E) (job : I → List ℕ) (job_of : E → List ℕ) (worker : List ℕ → ℕ) where
  -- the entry is of this job
  abbrev is_of : List ℕ → E → Bool
  is_of j e = bytes_eq (job_of e) j

  -- the entry is of a job of this worker
  abbrev IsOfWorker : ℕ → E → Type 0
  IsOfWorker k e = worker (job_of e) ≡ k

  -- the plan by jobs
  abbrev plan_of : List I → List ℕ
  plan_of items = map (λ i. worker (job i)) items

  -- each entry bears the number of its job's worker
  abbrev Bear : (ℕ → ℕ) → List E → List ℕ → Type 0
  Bear number es ns = AllZip (λ e n. n ≡ number (worker (job_of e))) es ns

  all-append : (P : E → Type 0) (xs ys : List E) → AllByRecursion P xs → AllByRecursion P ys → AllByRecursion P (xs ++ ys)
  all-append P [] ys h g = g
  all-append P (x ∷ xs) ys h g = (h.0, all-append P xs ys h.1 g)

  all-mapped : (P Q : E → Type 0) (xs : List E) → ((e : E) → P e → Q e) → AllByRecursion P xs → AllByRecursion Q xs
  all-mapped P Q [] f h = tt
  all-mapped P Q (x ∷ xs) f h = (f x h.0, all-mapped P Q xs f h.1)

  filter-append : (p : E → Bool) (xs ys : List E) → filter p (xs ++ ys) ≡ filter p xs ++ filter p ys
  filter-append p [] ys = refl
  filter-append p (x ∷ xs) ys = elim (cases_Bool (p x)) [
    | inl is ↦ rw is (ap (λ zs. x ∷ zs) (filter-append p xs ys))
    | inr not ↦ rw not (filter-append p xs ys)
  ]

  -- an answer's entries are of the item's job
  module _ (jobs : (i : I) (a : A) → AllByRecursion (λ e. job_of e ≡ job i) (make i a)) where
    -- what a worker's answers make is of its jobs
    of-worker : (k : ℕ) (items : List I) (answers : List A) → AllByRecursion (IsOfWorker k) (made_of make (those k (plan_of items) answers) (those k (plan_of items) items))
    of-worker k [] answers = tt
    of-worker k (i ∷ items) [] = tt
    of-worker k (i ∷ items) (a ∷ answers) = elim (cases_Bool (worker (job i) == k)) [
      | inl is ↦ rw is (all-append (IsOfWorker k) (make i a) _ (all-mapped (λ e. job_of e ≡ job i) (IsOfWorker k) (make i a) (λ e same. ap worker same ∙ eqb-true (worker (job i)) k is) (jobs i a)) (of-worker k items answers))
      | inr not ↦ rw not (of-worker k items answers)
    ]

    -- none of an answer's entries is of another job
    none-of : (j : List ℕ) (p : List ℕ) (es : List E) → bytes_eq p j ≡ false → AllByRecursion (λ e. job_of e ≡ p) es → filter (is_of j) es ≡ []
    none-of j p [] off h = refl
    none-of j p (e ∷ es) off h = let other : is_of j e ≡ false = ap (λ q. bytes_eq q j) h.0 ∙ off in rw other (none-of j p es off h.1)

    -- the entries of a job are those of its worker's answers
    job-kept : (j : List ℕ) (items : List I) (answers : List A) → length answers ≡ length items
        → filter (is_of j) (made_of make (those (worker j) (plan_of items) answers) (those (worker j) (plan_of items) items)) ≡ filter (is_of j) (made_of make answers items)
    job-kept j [] [] same = refl
    job-kept j [] (a ∷ answers) same = absurd (omega (arith, same))
    job-kept j (i ∷ items) [] same = absurd (omega (arith, same))
    job-kept j (i ∷ items) (a ∷ answers) same =
        let rest = job-kept j items answers (omega (arith, same)) in
        elim (cases_Bool (worker (job i) == worker j)) [
          | inl is ↦ rw is (filter-append (is_of j) (make i a) _ ∙ ap (λ es. filter (is_of j) (make i a) ++ es) rest ∙ sym (filter-append (is_of j) (make i a) _))
          | inr not ↦
              let other : bytes_eq (job i) j ≡ false = other-job j i (bytes_eq (job i) j) refl not in
              rw not (rest ∙ sym (filter-append (is_of j) (make i a) (made_of make answers items) ∙ ap (λ es. es ++ filter (is_of j) (made_of make answers items)) (none-of j (job i) (make i a) other (jobs i a))))
        ]
      where
        other-job : (j : List ℕ) (i : I) (b : Bool) → bytes_eq (job i) j ≡ b → (worker (job i) == worker j) ≡ false → b ≡ false
        other-job j i false e not = refl
        other-job j i true e not =
            let same : worker (job i) ≡ worker j = ap worker ((bytes_eq-Decides (job i) j).0 e) in
            let hit : (worker (job i) == worker j) ≡ true = eq-eqb (worker (job i)) (worker j) same in
            sym hit ∙ not

  -- where each entry bears the number of its job's worker, those of a job are among those with that number
  job-picked : (number : ℕ → ℕ) (j : List ℕ) (es : List E) (ns : List ℕ) → Bear number es ns → filter (is_of j) (those (number (worker j)) ns es) ≡ filter (is_of j) es
  job-picked number j [] [] h = refl
  job-picked number j [] (n ∷ ns) h = absurd h
  job-picked number j (e ∷ es) [] h = absurd h
  job-picked number j (e ∷ es) (n ∷ ns) h =
      let rest = job-picked number j es ns h.1 in
      elim (cases_Bool (n == number (worker j))) [
        | inl is ↦ rw is (elim (cases_Bool (is_of j e)) [
          | inl mine ↦ rw mine (ap (λ xs. e ∷ xs) rest)
          | inr other ↦ rw other rest
        ])
        | inr not ↦
            let other : is_of j e ≡ false = other-number (is_of j e) refl h.0 not in
            rw (not, other) rest
      ]
    where
      other-number : (b : Bool) → is_of j e ≡ b → n ≡ number (worker (job_of e)) → (n == number (worker j)) ≡ false → b ≡ false
      other-number false is same not = refl
      other-number true is same not =
          let at : n ≡ number (worker j) = same ∙ ap (λ q. number (worker q)) ((bytes_eq-Decides (job_of e) j).0 is) in
          let hit : (n == number (worker j)) ≡ true = eq-eqb n (number (worker j)) at in
          sym hit ∙ not

  -- a number that a worker has
  abbrev Signs : ℕ → (ℕ → ℕ) → ℕ → Type 0
  Signs count number n = (i : ℕ) × (i < count) × (n ≡ number i)

  -- each entry bears the number of its job's worker, where each number is a worker's and what bears it is of the
  -- worker's jobs
  all-bear : (count : ℕ) (number : ℕ → ℕ) (es : List E) (ns : List ℕ) → length es ≡ length ns → AllByRecursion (Signs count number) ns
      → ((i : ℕ) → i < count → AllByRecursion (IsOfWorker i) (those (number i) ns es)) → Bear number es ns
  all-bear count number [] [] same signs own = tt
  all-bear count number [] (n ∷ ns) same signs own = absurd (omega (arith, same))
  all-bear count number (e ∷ es) [] same signs own = absurd (omega (arith, same))
  all-bear count number (e ∷ es) (n ∷ ns) same signs own =
      let i = signs.0.0 in
      let hit : (n == number i) ≡ true = eq-eqb n (number i) signs.0.2 in
      let mine : AllByRecursion (IsOfWorker i) (e ∷ those (number i) ns es) = rw hit at (own i signs.0.1) in
      (signs.0.2 ∙ ap number (sym mine.0), all-bear count number es ns (omega (arith, same)) signs.1 (λ k less. tail-own k (own k less)))
    where
      tail-own : (k : ℕ) → AllByRecursion (IsOfWorker k) (those (number k) (n ∷ ns) (e ∷ es)) → AllByRecursion (IsOfWorker k) (those (number k) ns es)
      tail-own k h = elim (cases_Bool (n == number k)) [
        | inl is ↦ let both : AllByRecursion (IsOfWorker k) (e ∷ those (number k) ns es) = rw is at h in both.1
        | inr not ↦ let one : AllByRecursion (IsOfWorker k) (those (number k) ns es) = rw not at h in one
      ]

  -- Both.
  module _ (jobs : (i : I) (a : A) → AllByRecursion (λ e. job_of e ≡ job i) (make i a)) where
    -- where each entry bears a worker's number, and what bears it is what that worker's answers make, the entries of
    -- each job are those of its items in their order
    pub jobs-in-order : (count : ℕ) (number : ℕ → ℕ) (items : List I) (answers : List A) (es : List E) (ns : List ℕ) → length answers ≡ length items → length es ≡ length ns
        → ((j : List ℕ) → worker j < count) → AllByRecursion (Signs count number) ns
        → ((i : ℕ) → i < count → those (number i) ns es ≡ made_of make (those i (plan_of items) answers) (those i (plan_of items) items))
        → (j : List ℕ) → filter (is_of j) es ≡ filter (is_of j) (made_of make answers items)
    jobs-in-order count number items answers es ns each signed below signs own j =
        let bear = all-bear count number es ns signed signs (λ i less. subst (AllByRecursion (IsOfWorker i)) (sym (own i less)) (of-worker jobs i items answers)) in
        sym (job-picked number j es ns bear) ∙ ap (filter (is_of j)) (own (worker j) (below j)) ∙ job-kept jobs j items answers each

  -- nothing of any job is nothing
  pub none-at-all : (es : List E) → ((j : List ℕ) → filter (is_of j) es ≡ []) → es ≡ []
  none-at-all [] h = refl
  none-at-all (e ∷ es) h =
      let hit : is_of (job_of e) e ≡ true = (bytes_eq-Decides (job_of e) (job_of e)).1 refl in
      let one : e ∷ filter (is_of (job_of e)) es ≡ [] = rw hit at (h (job_of e)) in
      absurd cc

  -- what holds of each worker's answers holds of all
  pub all-answers : (R : A → I → Type 0) (count : ℕ) (items : List I) (answers : List A) → length answers ≡ length items → ((j : List ℕ) → worker j < count)
      → ((k : ℕ) → k < count → AllZip R (those k (plan_of items) answers) (those k (plan_of items) items)) → AllZip R answers items
  all-answers R count [] [] same below h = tt
  all-answers R count [] (a ∷ answers) same below h = absurd (omega (arith, same))
  all-answers R count (i ∷ items) [] same below h = absurd (omega (arith, same))
  all-answers R count (i ∷ items) (a ∷ answers) same below h =
      let k = worker (job i) in
      let hit : (k == k) ≡ true = eq-eqb k k refl in
      let mine : AllZip R (a ∷ those k (plan_of items) answers) (i ∷ those k (plan_of items) items) = rw hit at (h k (below (job i))) in
      (mine.0, all-answers R count items answers (omega (arith, same)) below (λ k less. tail k (h k less)))
    where
      tail : (k : ℕ) → AllZip R (those k (plan_of (i ∷ items)) (a ∷ answers)) (those k (plan_of (i ∷ items)) (i ∷ items)) → AllZip R (those k (plan_of items) answers) (those k (plan_of items) items)
      tail k h = elim (cases_Bool (worker (job i) == k)) [
        | inl is ↦ let both : AllZip R (a ∷ those k (plan_of items) answers) (i ∷ those k (plan_of items) items) = rw is at h in both.1
        | inr not ↦ let one : AllZip R (those k (plan_of items) answers) (those k (plan_of items) items) = rw not at h in one
      ]

-- Answers that are put back in order.

pub those-times : {X : Type 0} (k : ℕ) (ps : List ℕ) (xs : List X) → length xs ≡ length ps → length (those k ps xs) ≡ times k ps
those-times k [] [] same = refl
those-times k [] (x ∷ xs) same = absurd (omega (arith, same))
those-times k (p ∷ ps) [] same = absurd (omega (arith, same))
those-times k (p ∷ ps) (x ∷ xs) same = elim (cases_Bool (p == k)) [
  | inl is ↦ let rest = those-times k ps xs (omega (arith, same)) in rw is (omega (arith, rest))
  | inr not ↦ let rest = those-times k ps xs (omega (arith, same)) in rw not (omega (arith, rest))
]

pub those-push : {X : Type 0} (k : ℕ) (ps : List ℕ) (xs : List X) (p : ℕ) (x : X) → length xs ≡ length ps → those k (ps ++ p ∷ []) (xs ++ x ∷ []) ≡ those k ps xs ++ (if p == k then x ∷ [] else [])
those-push k [] [] p x same = elim (cases_Bool (p == k)) [
  | inl is ↦ rw is refl
  | inr not ↦ rw not refl
]
those-push k [] (y ∷ ys) p x same = absurd (omega (arith, same))
those-push k (q ∷ ps) [] p x same = absurd (omega (arith, same))
those-push k (q ∷ ps) (y ∷ ys) p x same = elim (cases_Bool (q == k)) [
  | inl is ↦ rw is (ap (λ zs. y ∷ zs) (those-push k ps ys p x (omega (arith, same))))
  | inr not ↦ rw not (those-push k ps ys p x (omega (arith, same)))
]

pub times-push : (k : ℕ) (ps : List ℕ) (p : ℕ) → times k (ps ++ p ∷ []) ≡ times k ps + (if p == k then 1 else 0)
times-push k [] p = elim (cases_Bool (p == k)) [
  | inl is ↦ rw is refl
  | inr not ↦ rw not refl
]
times-push k (q ∷ ps) p = omega (arith, times-push k ps p)
