-- Jobs that get numbers, one after another.
use Rattle.std.proofs.Common.{◌≡◌, inl, inr, ℕ, ◌+◌, ◌≤◌, Bool, true, false, List, [], ◌∷◌, ◌++◌, length, length-append}
use Rattle.std.proofs.Common.{drop, get_or, if◌then◌else◌, refl, sym, ap, subst, ◌∙◌, arith, Decides, bytes_eq}
use Rattle.std.proofs.Common.{position, Option, Ordering, Less, Equal, Greater}
use Rattle.std.proofs.lemmas.Bool.{cases_Bool}
use Rattle.std.proofs.lemmas.Slice.Eq.{bytes_eq-Decides}
use Rattle.std.proofs.lemmas.Iterator.Adapters.{position_from-zero}
use Rattle.std.specs.Prelude.{Some, None, is_some}
use Rattle.std.specs.List.{list_any, list_all, position_from, AllByRecursion}
use Rattle.std.specs.BTreeMap.{insert_entry, is_at}
use Rattle.std.specs.Cmp.Lexicographic.{slice_cmp}
use Rattle.std.specs.Map.{lookup}
use Rattle.std.specs.Ordering.{nat_cmp}
use Rattle.ordered_index.proofs.LookupLemmas.{lookup-text}
use Rattle.sms_script.specs.Commands.{is_admin}
use Rattle.sms_script.specs.declared.item.Item.{Item}
use Rattle.desk_plan.specs.Plan.{number_in}
use Rattle.desk_plan.specs.Numbering.{with_job, AreNumbersOf, AreOfOneJob}

bytes_eq-sym : (a b : List ℕ) → bytes_eq a b ≡ bytes_eq b a
bytes_eq-sym a b = by (bytes_eq a b) (bytes_eq b a) refl refl
  where
    by : (p q : Bool) → bytes_eq a b ≡ p → bytes_eq b a ≡ q → p ≡ q
    by true true is back = refl
    by false false is back = refl
    by true false is back = sym ((bytes_eq-Decides b a).1 (sym ((bytes_eq-Decides a b).0 is))) ∙ back
    by false true is back = sym is ∙ (bytes_eq-Decides a b).1 (sym ((bytes_eq-Decides b a).0 back))

-- what passes somewhere has a place
placed : {X : Type 0} (p : X → Bool) (n : ℕ) (xs : List X) → is_some (position_from p n xs) ≡ list_any p xs
placed p n [] = refl
placed p n (x ∷ xs) = elim (cases_Bool (p x)) [
  | inl is ↦ rw is refl
  | inr not ↦ rw not (placed p (n + 1) xs)
]

-- a new job stands behind the others
place-new : (j k : List ℕ) (n : ℕ) (jobs : List (List ℕ)) → list_any (bytes_eq k) jobs ≡ false
    → position_from (bytes_eq j) n (jobs ++ k ∷ []) ≡ (if bytes_eq k j then Some (n + length jobs) else position_from (bytes_eq j) n jobs)
place-new j k n [] new =
    let same = bytes_eq-sym j k in
    rw same (ap (λ m. if bytes_eq k j then Some m else None) (omega arith))
place-new j k n (x ∷ jobs) new = elim (cases_Bool (bytes_eq k x)) [
  | inl is ↦ absurd cc
  | inr other ↦
      let after : list_any (bytes_eq k) jobs ≡ false = rw other at new in
      let rest = place-new j k (n + 1) jobs after in
      elim (cases_Bool (bytes_eq j x)) [
        | inl same ↦
            let apart : bytes_eq k j ≡ false = ap (bytes_eq k) ((bytes_eq-Decides j x).0 same) ∙ other in
            rw (same, apart) refl
        | inr differ ↦ rw differ (rest ∙ ap (λ m. if bytes_eq k j then Some m else position_from (bytes_eq j) (n + 1) jobs) (omega arith))
      ]
]

-- a job with a number stays where it is
pub kept-numbered : (jobs : List (List ℕ)) (numbers : List (List ℕ × ℕ)) (job : List ℕ) → AreNumbersOf jobs numbers → is_some (number_in numbers job) ≡ true → AreNumbersOf (with_job jobs job) numbers
kept-numbered jobs numbers job are has =
    let listed : list_any (bytes_eq job) jobs ≡ true = sym (placed (bytes_eq job) 0 jobs) ∙ ap is_some (sym (position_from-zero (bytes_eq job) jobs)) ∙ ap is_some (sym (are.0 job)) ∙ has in
    elim (cases_Bool (is_admin job)) [
      | inl is ↦ rw is are
      | inr not ↦ rw (not, listed) are
    ]

-- the administrator's gets none
pub kept-admin : (jobs : List (List ℕ)) (numbers : List (List ℕ × ℕ)) (job : List ℕ) → AreNumbersOf jobs numbers → is_admin job ≡ true → AreNumbersOf (with_job jobs job) numbers
kept-admin jobs numbers job are is = rw is are

-- a job without a number gets the next
pub one-more : (jobs : List (List ℕ)) (before after : List (List ℕ × ℕ)) (job : List ℕ) → AreNumbersOf jobs before → is_admin job ≡ false → is_some (number_in before job) ≡ false
    → ((q : List ℕ) → number_in after q ≡ (if bytes_eq job q then Some (length before) else number_in before q)) → length after ≡ length before + 1 → AreNumbersOf (with_job jobs job) after
one-more jobs before after job are other new put grown =
    let fresh : list_any (bytes_eq job) jobs ≡ false = sym (placed (bytes_eq job) 0 jobs) ∙ ap is_some (sym (position_from-zero (bytes_eq job) jobs)) ∙ ap is_some (sym (are.0 job)) ∙ new in
    let long : length (jobs ++ job ∷ []) ≡ length jobs + 1 = length-append jobs (job ∷ []) in
    rw (other, fresh) (numbers fresh, grown ∙ ap (λ n. n + 1) are.1 ∙ sym long)
  where
    numbers : list_any (bytes_eq job) jobs ≡ false → (q : List ℕ) → number_in after q ≡ position (bytes_eq q) (jobs ++ job ∷ [])
    numbers fresh q =
        put q ∙ ap (λ n. if bytes_eq job q then Some n else number_in before q) are.1
        ∙ ap (λ o. if bytes_eq job q then Some (length jobs) else o) (are.0 q ∙ position_from-zero (bytes_eq q) jobs)
        ∙ ap (λ n. if bytes_eq job q then Some n else position_from (bytes_eq q) 0 jobs) (omega arith) ∙ sym (place-new q job 0 jobs fresh) ∙ sym (position_from-zero (bytes_eq q) (jobs ++ job ∷ []))

new-at : (k : List ℕ) (v : ℕ) (e : List ℕ × ℕ) (rows : List (List ℕ × ℕ)) → lookup (is_at (slice_cmp nat_cmp k)) (e ∷ rows) ≡ None → (o : Ordering) → slice_cmp nat_cmp k e.0 ≡ o
    → (lookup (is_at (slice_cmp nat_cmp k)) rows ≡ None → length (insert_entry (slice_cmp nat_cmp) rows k v) ≡ length rows + 1)
    → length (insert_entry (slice_cmp nat_cmp) (e ∷ rows) k v) ≡ length (e ∷ rows) + 1
new-at k v e rows none Less is more = rw is (omega arith)
new-at k v e rows none Equal is more = let some : Some e.1 ≡ None = rw is at none in absurd cc
new-at k v e rows none Greater is more =
    let rest : lookup (is_at (slice_cmp nat_cmp k)) rows ≡ None = rw is at none in
    rw is (omega (arith, more rest))

-- a text that has no row gets one more
length-new : (k : List ℕ) (v : ℕ) (rows : List (List ℕ × ℕ)) → lookup (is_at (slice_cmp nat_cmp k)) rows ≡ None → length (insert_entry (slice_cmp nat_cmp) rows k v) ≡ length rows + 1
length-new k v [] none = refl
length-new k v (e ∷ rows) none = new-at k v e rows none (slice_cmp nat_cmp k e.0) refl (λ rest. length-new k v rows rest)

no-value : {V : Type 0} (o : Option V) → is_some o ≡ false → o ≡ None
no-value None none = refl
no-value (Some v) none = absurd cc

pub length-put : (k : List ℕ) (v : ℕ) (rows : List (List ℕ × ℕ)) → is_some (number_in rows k) ≡ false → length (insert_entry (slice_cmp nat_cmp) rows k v) ≡ length rows + 1
length-put k v rows new = length-new k v rows (lookup-text k rows ∙ no-value (number_in rows k) new)

-- the items behind the first are of its job where all are of one
of-first : (job : List ℕ) (items : List Item) → list_all (λ (item : Item). bytes_eq item.request.job job) items ≡ true → AllByRecursion (λ (item : Item). item.request.job ≡ job) items
of-first job [] all = tt
of-first job (item ∷ items) all = elim (cases_Bool (bytes_eq item.request.job job)) [
  | inl is ↦
      let others : list_all (λ (each : Item). bytes_eq each.request.job job) items ≡ true = rw is at all in
      ((bytes_eq-Decides _ _).0 is, of-first job items others)
  | inr not ↦ absurd cc
]

all-first : (job : List ℕ) (items : List Item) → AllByRecursion (λ (item : Item). item.request.job ≡ job) items → list_all (λ (item : Item). bytes_eq item.request.job job) items ≡ true
all-first job [] all = refl
all-first job (item ∷ items) all =
    let hit : bytes_eq item.request.job job ≡ true = (bytes_eq-Decides _ _).1 all.0 in
    rw hit (all-first job items all.1)

pub one-job : (items : List Item) (first : Item) → 1 ≤ length items → first ≡ get_or items 0 first → Decides (list_all (λ (item : Item). bytes_eq item.request.job first.request.job) (drop 1 items)) (AreOfOneJob items)
one-job [] first some here = absurd (omega (arith, some))
one-job (item ∷ items) first some here = (
  λ all. (first.request.job, (ap (λ (i : Item). i.request.job) (sym here), of-first first.request.job items all)),
  λ one. all-first first.request.job items (subst (λ job. AllByRecursion (λ (i : Item). i.request.job ≡ job) items) (sym (ap (λ (i : Item). i.request.job) here ∙ one.1.0)) one.1.1),
)
