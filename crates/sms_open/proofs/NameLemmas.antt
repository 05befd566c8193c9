-- Names, numbers, jobs and places as keys.
use Rattle.std.proofs.Common.{◌≡◌, ◌≤◌, ℕ, zero, ◌+◌, Bool, true, false, cond, List, [], ◌∷◌, map, Result, Ok, Err}
use Rattle.std.proofs.Common.{Ordering, Less, Equal, Greater, refl, sym, ap, ◌∙◌, arith, bytes_eq}
use Rattle.std.specs.Prelude.{IfOk, ◌&&◌, ◌==◌, filter_map, Option, None, Some}
use Rattle.std.proofs.lemmas.Cmp.{nat_eq_equiv}
use Rattle.std.proofs.lemmas.Map.Text.{is_eq-slice_cmp}
use Rattle.std.specs.Cmp.{unsigned_ties}
use Rattle.std.specs.Cmp.Lexicographic.{slice_cmp}
use Rattle.std.specs.Ordering.{is_eq, nat_cmp, ordering_then}
use Rattle.desk_law.proofs.ByteLemmas.{bytes-same, bytes-turned, same-bytes}
use Rattle.desk_law.specs.KeptRows.{times_placed}
use Rattle.desk_law.specs.Lawful.{times_named}
use Rattle.sms_construct.specs.declared.data_set.DataSet.{DataSet}
use Rattle.sms_keeper.specs.declared.floor.Floor.{Floor}
use Rattle.sms_keeper.specs.declared.kept_row.KeptRow.{KeptRow}
use Rattle.sms_keeper.specs.declared.request_key.RequestKey.{RequestKey}
use Rattle.sms_construct.specs.Configuration.{are_ascending}
use Rattle.sms_construct.specs.declared.storage_group.StorGroup.{StorGroup}
use Rattle.sms_construct.specs.declared.target.Target.{Target}
use Rattle.sms_construct.specs.declared.target.Target.TheVariants as targets
use Rattle.sms_construct.specs.declared.volume.VolumeDef.{VolumeDef}
use Rattle.sms_keeper.specs.declared.status_row.StatusRow.{StatusRow}
use Rattle.sms_keeper.specs.Tables.{same_target}
use Rattle.desk_law.specs.Statuses.{times_status}
use Rattle.desk_law.specs.Volumes.{times_group, times_volume}
use Rattle.desk_law.proofs.AscendLemmas.{groups-once, volumes-once}
use Rattle.sms_open.specs.Inner.Keys.{AreApart, AreAsOften, times_key}
use Rattle.sms_open.specs.Inner.Targets.{group_in, key_of_row, volume_in}
use Rattle.sms_open.specs.Tests.{times_floor, times_kept}
use Rattle.sms_open.specs.Verdicts.{Tells}

-- A test told of one thing, as told of another that holds alike.

pub tells-alike : (P Q : Type 0) (b : Bool) → (P → Q) → (Q → P) → Tells P b → Tells Q b
tells-alike P Q true to from tells = to tells
tells-alike P Q false to from tells = λ q. tells (from q)

pub told-alike : {E : Type 0} (P Q : Type 0) (r : Result Bool E) → (P → Q) → (Q → P) → IfOk r (Tells P) → IfOk r (Tells Q)
told-alike P Q (Ok b) to from tells = tells-alike P Q b to from tells
told-alike P Q (Err e) to from tells = tt

-- Texts.

bytes-swap-at : (a b : List ℕ) (c : Bool) → bytes_eq a b ≡ c → bytes_eq a b ≡ bytes_eq b a
bytes-swap-at a b true is = is ∙ sym (bytes-same b a (sym (same-bytes a b is)))
bytes-swap-at a b false is = is ∙ sym (bytes-turned a b is)

bytes-swap : (a b : List ℕ) → bytes_eq a b ≡ bytes_eq b a
bytes-swap a b = bytes-swap-at a b _ refl

same-text : (a b : List ℕ) → is_eq (slice_cmp nat_cmp a b) ≡ bytes_eq b a
same-text a b = is_eq-slice_cmp a b ∙ bytes-swap a b

-- keys that are counted by a test of rows
counted-rows : {X K : Type 0} (R : K → K → Ordering) (f : X → K) (p : X → Bool) (F : List X → ℕ) (key : K) → ((x : X) → is_eq (R key (f x)) ≡ p x)
    → F [] ≡ 0 → ((x : X) (xs : List X) → F (x ∷ xs) ≡ cond (p x) 1 zero + F xs) → (xs : List X) → times_key R key (map f xs) ≡ F xs
counted-rows R f p F key same none some [] = sym none
counted-rows R f p F key same none some (x ∷ xs) =
    let rest = counted-rows R f p F key same none some xs in
    ap (λ (b : Bool). cond b 1 zero + times_key R key (map f xs)) (same x) ∙ (ap (λ (n : ℕ). cond (p x) 1 zero + n) rest ∙ sym (some x xs))

names-counted : (dsn : List ℕ) (sets : List DataSet) → times_key (slice_cmp nat_cmp) dsn (map (λ (set : DataSet). set.dsn) sets) ≡ times_named dsn sets
names-counted dsn sets = counted-rows (slice_cmp nat_cmp) (λ (set : DataSet). set.dsn) (λ (set : DataSet). bytes_eq set.dsn dsn) (times_named dsn) dsn (λ set. same-text dsn set.dsn) refl (λ set rest. refl) sets

jobs-counted : (job : List ℕ) (floors : List Floor) → times_key (slice_cmp nat_cmp) job (map (λ (floor : Floor). floor.job) floors) ≡ times_floor job floors
jobs-counted job floors = counted-rows (slice_cmp nat_cmp) (λ (floor : Floor). floor.job) (λ (floor : Floor). bytes_eq floor.job job) (times_floor job) job (λ floor. same-text job floor.job) refl (λ floor rest. refl) floors

-- the order of keys: by job, and then by number
abbrev pub key_cmp : RequestKey → RequestKey → Ordering
key_cmp a b = ordering_then (slice_cmp nat_cmp a.job b.job) (nat_cmp a.number b.number)

then_eq : (a b : Ordering) → is_eq (ordering_then a b) ≡ is_eq a && is_eq b
then_eq Less b = refl
then_eq Equal b = refl
then_eq Greater b = refl

number-swap : (a b : ℕ) → is_eq (nat_cmp a b) ≡ (b == a)
number-swap a b = sym (unsigned_ties a b) ∙ nat_eq_equiv.symm a b

numbers-counted : (key : RequestKey) (rows : List KeptRow) → times_key key_cmp key (map key_of_row rows) ≡ times_kept key.job key.number rows
numbers-counted key rows =
    counted-rows key_cmp key_of_row (λ (row : KeptRow). bytes_eq row.job key.job && (row.number == key.number)) (times_kept key.job key.number) key
    (λ row. then_eq (slice_cmp nat_cmp key.job row.job) (nat_cmp key.number row.number)
    ∙ ap (λ (x : Bool). x && is_eq (nat_cmp key.number row.number)) (same-text key.job row.job)
    ∙ ap (λ (x : Bool). bytes_eq row.job key.job && x) (number-swap key.number row.number)) refl (λ row rest. refl) rows

places-counted : (place : ℕ) (rows : List KeptRow) → times_key nat_cmp place (map (λ (row : KeptRow). row.place) rows) ≡ times_placed place rows
places-counted place rows = counted-rows nat_cmp (λ (row : KeptRow). row.place) (λ (row : KeptRow). row.place == place) (times_placed place) place (λ row. number-swap place row.place) refl (λ row rest. refl) rows

-- Keys that some rows have.

counted-some-at : {X K : Type 0} (R : K → K → Ordering) (f : X → Option K) (p : X → Bool) (F : List X → ℕ) (key : K) (x : X) (xs : List X) (o : Option K) → f x ≡ o → ((k : K) → f x ≡ Some k → is_eq (R key k) ≡ p x) → (f x ≡ None → p x ≡ false)
    → F (x ∷ xs) ≡ cond (p x) 1 zero + F xs → times_key R key (filter_map f xs) ≡ F xs → times_key R key (filter_map f (x ∷ xs)) ≡ F (x ∷ xs)
counted-some-at R f p F key x xs None is same off some rest =
    let no : cond (p x) 1 zero ≡ zero = rw (off is) refl in
    rw is (omega (arith, rest, some, no))
counted-some-at R f p F key x xs (Some k) is same off some rest =
    rw is (ap (λ (b : Bool). cond b 1 zero + times_key R key (filter_map f xs)) (same k is) ∙ (ap (λ (n : ℕ). cond (p x) 1 zero + n) rest ∙ sym some))

counted-some : {X K : Type 0} (R : K → K → Ordering) (f : X → Option K) (p : X → Bool) (F : List X → ℕ) (key : K) → ((x : X) (k : K) → f x ≡ Some k → is_eq (R key k) ≡ p x) → ((x : X) → f x ≡ None → p x ≡ false)
    → F [] ≡ 0 → ((x : X) (xs : List X) → F (x ∷ xs) ≡ cond (p x) 1 zero + F xs) → (xs : List X) → times_key R key (filter_map f xs) ≡ F xs
counted-some R f p F key same off none some [] = sym none
counted-some R f p F key same off none some (x ∷ xs) = counted-some-at R f p F key x xs (f x) refl (same x) (off x) (some x xs) (counted-some R f p F key same off none some xs)

group-same : (t : Target) (n k : List ℕ) → group_in t ≡ Some k → is_eq (slice_cmp nat_cmp n k) ≡ same_target t (targets.Group n)
group-same (targets.Group m) n k is = let e : k ≡ m = cc in rw e (same-text n m)
group-same (targets.Volume m) n k is = absurd cc
group-same (targets.Set m) n k is = absurd cc

group-off : (t : Target) (n : List ℕ) → group_in t ≡ None → same_target t (targets.Group n) ≡ false
group-off (targets.Group m) n is = absurd cc
group-off (targets.Volume m) n is = refl
group-off (targets.Set m) n is = refl

volume-same : (t : Target) (n k : List ℕ) → volume_in t ≡ Some k → is_eq (slice_cmp nat_cmp n k) ≡ same_target t (targets.Volume n)
volume-same (targets.Group m) n k is = absurd cc
volume-same (targets.Volume m) n k is = let e : k ≡ m = cc in rw e (same-text n m)
volume-same (targets.Set m) n k is = absurd cc

volume-off : (t : Target) (n : List ℕ) → volume_in t ≡ None → same_target t (targets.Volume n) ≡ false
volume-off (targets.Group m) n is = refl
volume-off (targets.Volume m) n is = absurd cc
volume-off (targets.Set m) n is = refl

abbrev groups_found : List StatusRow → List (List ℕ)
groups_found rows = filter_map (λ (row : StatusRow). group_in row.target) rows

abbrev volumes_found : List StatusRow → List (List ℕ)
volumes_found rows = filter_map (λ (row : StatusRow). volume_in row.target) rows

group-statuses : (n : List ℕ) (rows : List StatusRow) → times_key (slice_cmp nat_cmp) n (groups_found rows) ≡ times_status (targets.Group n) rows
group-statuses n rows = counted-some (slice_cmp nat_cmp) (λ (row : StatusRow). group_in row.target) (λ (row : StatusRow). same_target row.target (targets.Group n)) (times_status (targets.Group n)) n
    (λ row k is. group-same row.target n k is) (λ row is. group-off row.target n is) refl (λ row rest. refl) rows

volume-statuses : (n : List ℕ) (rows : List StatusRow) → times_key (slice_cmp nat_cmp) n (volumes_found rows) ≡ times_status (targets.Volume n) rows
volume-statuses n rows = counted-some (slice_cmp nat_cmp) (λ (row : StatusRow). volume_in row.target) (λ (row : StatusRow). same_target row.target (targets.Volume n)) (times_status (targets.Volume n)) n
    (λ row k is. volume-same row.target n k is) (λ row is. volume-off row.target n is) refl (λ row rest. refl) rows

groups-counted : (n : List ℕ) (groups : List StorGroup) → times_key (slice_cmp nat_cmp) n (map (λ (g : StorGroup). g.name) groups) ≡ times_group n groups
groups-counted n groups = counted-rows (slice_cmp nat_cmp) (λ (g : StorGroup). g.name) (λ (g : StorGroup). bytes_eq g.name n) (times_group n) n (λ g. same-text n g.name) refl (λ g rest. refl) groups

volumes-counted : (n : List ℕ) (volumes : List VolumeDef) → times_key (slice_cmp nat_cmp) n (map (λ (v : VolumeDef). v.volser) volumes) ≡ times_volume n volumes
volumes-counted n volumes = counted-rows (slice_cmp nat_cmp) (λ (v : VolumeDef). v.volser) (λ (v : VolumeDef). bytes_eq v.volser n) (times_volume n) n (λ v. same-text n v.volser) refl (λ v rest. refl) volumes

-- names in byte order stand once
pub groups-apart : (groups : List StorGroup) → are_ascending (map (λ (g : StorGroup). g.name) groups) ≡ true → AreApart (slice_cmp nat_cmp) (map (λ (g : StorGroup). g.name) groups)
groups-apart groups up = λ n. omega (arith, groups-counted n groups, groups-once n groups up)

pub volumes-apart : (volumes : List VolumeDef) → are_ascending (map (λ (v : VolumeDef). v.volser) volumes) ≡ true → AreApart (slice_cmp nat_cmp) (map (λ (v : VolumeDef). v.volser) volumes)
volumes-apart volumes up = λ n. omega (arith, volumes-counted n volumes, volumes-once n volumes up)

-- What is told of the keys, told of the rows.

module _ {E : Type 0} (r : Result Bool E) where
  pub names-told : (sets : List DataSet) → IfOk r (Tells (AreApart (slice_cmp nat_cmp) (map (λ (set : DataSet). set.dsn) sets))) → IfOk r (Tells ((dsn : List ℕ) → times_named dsn sets ≤ 1))
  names-told sets told = told-alike _ _ r (λ apart dsn. let one = apart dsn in omega (arith, one, names-counted dsn sets)) (λ once dsn. let one = once dsn in omega (arith, one, names-counted dsn sets)) told

  pub numbers-told : (rows : List KeptRow) → IfOk r (Tells (AreApart key_cmp (map key_of_row rows))) → IfOk r (Tells ((job : List ℕ) (number : ℕ) → times_kept job number rows ≤ 1))
  numbers-told rows told = told-alike _ _ r
      (λ apart job number. let one = apart (record { job = job; number = number }) in omega (arith, one, numbers-counted (record { job = job; number = number }) rows))
      (λ once key. let one = once key.job key.number in omega (arith, one, numbers-counted key rows)) told

  pub jobs-told : (floors : List Floor) → IfOk r (Tells (AreApart (slice_cmp nat_cmp) (map (λ (floor : Floor). floor.job) floors))) → IfOk r (Tells ((job : List ℕ) → times_floor job floors ≤ 1))
  jobs-told floors told = told-alike _ _ r (λ apart job. let one = apart job in omega (arith, one, jobs-counted job floors)) (λ once job. let one = once job in omega (arith, one, jobs-counted job floors)) told

  pub places-told : (rows : List KeptRow) → IfOk r (Tells (AreApart nat_cmp (map (λ (row : KeptRow). row.place) rows))) → IfOk r (Tells ((place : ℕ) → times_placed place rows ≤ 1))
  places-told rows told = told-alike _ _ r (λ apart place. let one = apart place in omega (arith, one, places-counted place rows)) (λ once place. let one = once place in omega (arith, one, places-counted place rows)) told

  pub groups-told : (groups : List StorGroup) (rows : List StatusRow) → IfOk r (Tells (AreAsOften (slice_cmp nat_cmp) (map (λ (g : StorGroup). g.name) groups) (filter_map (λ (row : StatusRow). group_in row.target) rows)))
      → IfOk r (Tells ((name : List ℕ) → times_status (targets.Group name) rows ≡ times_group name groups))
  groups-told groups rows told = told-alike _ _ r (λ often n. sym (group-statuses n rows) ∙ (often n ∙ groups-counted n groups)) (λ each n. group-statuses n rows ∙ (each n ∙ sym (groups-counted n groups))) told

  pub volumes-told : (volumes : List VolumeDef) (rows : List StatusRow) → IfOk r (Tells (AreAsOften (slice_cmp nat_cmp) (map (λ (v : VolumeDef). v.volser) volumes) (filter_map (λ (row : StatusRow). volume_in row.target) rows)))
      → IfOk r (Tells ((volser : List ℕ) → times_status (targets.Volume volser) rows ≡ times_volume volser volumes))
  volumes-told volumes rows told = told-alike _ _ r (λ often n. sym (volume-statuses n rows) ∙ (often n ∙ volumes-counted n volumes)) (λ each n. volume-statuses n rows ∙ (each n ∙ sym (volumes-counted n volumes))) told
