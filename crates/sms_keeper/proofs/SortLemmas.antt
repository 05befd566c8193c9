-- A stable sort by key leaves what stands under each key.
use Rattle.std.proofs.Common.{◌≡◌, ℕ, Bool, true, false, cond, not, ◌&&◌, ◌==◌, List, [], ◌∷◌, filter, Ordering, Less}
use Rattle.std.proofs.Common.{Equal, Greater, is_lt, refl, sym, ap, ◌∙◌, bytes_eq, eqb-true, inl, inr, Ok, Err, Result}
use Rattle.std.proofs.Common.{OnOk}
use Rattle.std.proofs.lemmas.Bool.{cases_Bool}
use Rattle.std.proofs.lemmas.Cmp.{nat_cmp_total, nat_list_cmp_total, on_total, then_total}
use Rattle.std.proofs.lemmas.Map.Text.{is_eq-slice_cmp}
use Rattle.std.proofs.lemmas.Slice.Eq.{bytes_eq-Decides}
use Rattle.std.specs.Cmp.{IsTotalOrder, unsigned_ties}
use Rattle.std.specs.List.Sorted.{IsStable, ties}
use Rattle.std.specs.Ordering.{is_eq, nat_cmp, ordering_reverse, ordering_then}
use Rattle.sms_construct.specs.declared.data_set.DataSet.{DataSet}
use Rattle.sms_construct.specs.declared.target.Target.{Target}
use Rattle.sms_construct.specs.declared.target.Target.TheVariants as targets
use Rattle.sms_keeper.specs.declared.deck_row.DeckRow.{DeckRow}
use Rattle.sms_keeper.specs.declared.floor.Floor.{Floor}
use Rattle.sms_keeper.specs.declared.kept_row.KeptRow.{KeptRow}
use Rattle.sms_keeper.specs.declared.status_row.StatusRow.{StatusRow}
use Rattle.sms_keeper.specs.Loading.{by_count, by_job, by_name, by_request, by_target, target_cmp, text_cmp}
use Rattle.sms_keeper.specs.Tables.{is_deck, is_floor_of, is_named, is_reply_of, is_status_of, same_target}

pub name_total : IsTotalOrder by_name
name_total = on_total (λ (set : DataSet). set.dsn) nat_list_cmp_total

pub request_total : IsTotalOrder by_request
request_total = then_total (on_total (λ (row : KeptRow). row.job) nat_list_cmp_total) (on_total (λ (row : KeptRow). row.number) nat_cmp_total)

pub count_total : IsTotalOrder by_count
count_total = on_total (λ (row : DeckRow). row.count) nat_cmp_total

target_total : IsTotalOrder target_cmp
target_total = then_total (on_total Rattle.sms_keeper.specs.Loading.target_rank nat_cmp_total) (on_total Rattle.sms_keeper.specs.Loading.target_name nat_list_cmp_total)

pub status_total : IsTotalOrder by_target
status_total = on_total (λ (row : StatusRow). row.target) target_total

pub job_total : IsTotalOrder by_job
job_total = on_total (λ (row : Floor). row.job) nat_list_cmp_total

-- what follows of an answer
pub on_ok : {X E : Type 0} (r : Result X E) (P Q : Type 0) → (P → Q) → OnOk r P → OnOk r Q
on_ok (Ok x) P Q f h = f h
on_ok (Err e) P Q f h = tt

-- two elements tie where they compare as equal
tie_of : (o p : Ordering) → p ≡ ordering_reverse o → (not (is_lt o) && not (is_lt p)) ≡ is_eq p
tie_of Less p e = sym (ap is_eq e)
tie_of Equal p e = ap (λ r. not (is_lt r)) e ∙ sym (ap is_eq e)
tie_of Greater p e = ap (λ r. not (is_lt r)) e ∙ sym (ap is_eq e)

module _ {X : Type 0} (cmp : X → X → Ordering) (total : IsTotalOrder cmp) (test : X → Bool) (knows : (x y : X) → test x ≡ true → is_eq (cmp y x) ≡ test y) where
  abbrev lower : X → X → Bool
  lower a b = is_lt (cmp a b)

  tied : (x y : X) → test x ≡ true → ties lower x y ≡ test y
  tied x y passes = tie_of (cmp x y) (cmp y x) (total.antisymm y x) ∙ knows x y passes

  first_passes : (xs : List X) (x : X) (rest : List X) → filter test xs ≡ x ∷ rest → test x ≡ true
  first_passes [] x rest e = absurd cc
  first_passes (y ∷ xs) x rest e = elim (cases_Bool (test y)) [
    | inl here ↦ let found : y ∷ filter test xs ≡ x ∷ rest = sym (ap (λ b. cond b (y ∷ filter test xs) (filter test xs)) here) ∙ e in let same : y ≡ x = cc in sym (ap test same) ∙ here
    | inr out ↦ first_passes xs x rest (sym (ap (λ b. cond b (y ∷ filter test xs) (filter test xs)) out) ∙ e)
  ]

  -- the elements of a key are those that tie with one of them
  by_tie : (xs ys : List X) (x : X) → test x ≡ true → IsStable cmp xs ys → filter test ys ≡ filter test xs
  by_tie xs ys x passes stable =
      let same = λ (zs : List X). ap (λ (t : X → Bool). filter t zs) (λ i y. tied x y passes i) in
      sym (same ys) ∙ stable x ∙ same xs

  pub same_found : (xs ys : List X) → IsStable cmp xs ys → filter test ys ≡ filter test xs
  same_found xs ys stable = by (filter test ys) (filter test xs) refl refl
    where
      by : (l m : List X) → filter test ys ≡ l → filter test xs ≡ m → filter test ys ≡ filter test xs
      by (y ∷ l) m p q = by_tie xs ys y (first_passes ys y l p) stable
      by [] (x ∷ m) p q = by_tie xs ys x (first_passes xs x m q) stable
      by [] [] p q = p ∙ sym q

text_known : (a b key : List ℕ) → bytes_eq a key ≡ true → is_eq (text_cmp b a) ≡ bytes_eq b key
text_known a b key passes = is_eq-slice_cmp b a ∙ ap (bytes_eq b) ((bytes_eq-Decides a key).0 passes)

number_known : (a b key : ℕ) → (a == key) ≡ true → is_eq (nat_cmp b a) ≡ (b == key)
number_known a b key passes = sym (unsigned_ties b a) ∙ ap (λ n. b == n) (eqb-true a key passes)

pub name_known : (dsn : List ℕ) (x y : DataSet) → is_named dsn x ≡ true → is_eq (by_name y x) ≡ is_named dsn y
name_known dsn x y passes = text_known x.dsn y.dsn dsn passes

pub count_known : (count : ℕ) (x y : DeckRow) → is_deck count x ≡ true → is_eq (by_count y x) ≡ is_deck count y
count_known count x y passes = number_known x.count y.count count passes

pub job_known : (job : List ℕ) (x y : Floor) → is_floor_of job x ≡ true → is_eq (by_job y x) ≡ is_floor_of job y
job_known job x y passes = text_known x.job y.job job passes

then_eq : (a b : Ordering) → is_eq (ordering_then a b) ≡ is_eq a && is_eq b
then_eq Less b = refl
then_eq Equal b = refl
then_eq Greater b = refl

parts : (a b : Bool) → (a && b) ≡ true → (a ≡ true) × (b ≡ true)
parts true b e = (refl, e)
parts false b e = absurd cc

pub request_known : (job : List ℕ) (number : ℕ) (x y : KeptRow) → is_reply_of job number x ≡ true → is_eq (by_request y x) ≡ is_reply_of job number y
request_known job number x y passes =
    let p = parts (bytes_eq x.job job) (x.number == number) passes in
    then_eq (text_cmp y.job x.job) (nat_cmp y.number x.number) ∙ (λ i. text_known x.job y.job job p.0 i && number_known x.number y.number number p.1 i)

target_eq : (a b : Target) → is_eq (target_cmp a b) ≡ same_target a b
target_eq (targets.Group a) (targets.Group b) = is_eq-slice_cmp a b
target_eq (targets.Group a) (targets.Volume b) = refl
target_eq (targets.Group a) (targets.Set b) = refl
target_eq (targets.Volume a) (targets.Group b) = refl
target_eq (targets.Volume a) (targets.Volume b) = is_eq-slice_cmp a b
target_eq (targets.Volume a) (targets.Set b) = refl
target_eq (targets.Set a) (targets.Group b) = refl
target_eq (targets.Set a) (targets.Volume b) = refl
target_eq (targets.Set a) (targets.Set b) = is_eq-slice_cmp a b

target_is : (a b : Target) → same_target a b ≡ true → a ≡ b
target_is (targets.Group a) (targets.Group b) e = ap targets.Group ((bytes_eq-Decides a b).0 e)
target_is (targets.Group a) (targets.Volume b) e = absurd cc
target_is (targets.Group a) (targets.Set b) e = absurd cc
target_is (targets.Volume a) (targets.Group b) e = absurd cc
target_is (targets.Volume a) (targets.Volume b) e = ap targets.Volume ((bytes_eq-Decides a b).0 e)
target_is (targets.Volume a) (targets.Set b) e = absurd cc
target_is (targets.Set a) (targets.Group b) e = absurd cc
target_is (targets.Set a) (targets.Volume b) e = absurd cc
target_is (targets.Set a) (targets.Set b) e = ap targets.Set ((bytes_eq-Decides a b).0 e)

pub target_known : (target : Target) (x y : StatusRow) → is_status_of target x ≡ true → is_eq (by_target y x) ≡ is_status_of target y
target_known target x y passes = target_eq y.target x.target ∙ ap (same_target y.target) (target_is x.target target passes)
