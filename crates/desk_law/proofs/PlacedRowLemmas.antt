-- Rows of which no two have one place.
use Rattle.std.proofs.Common.{◌≡◌, ◌≤◌, ℕ, zero, suc, ◌+◌, Bool, true, false, cond, List, [], ◌∷◌, length, refl, sym}
use Rattle.std.proofs.Common.{ap, ◌∙◌, subst, arith}
use Rattle.std.specs.Prelude.{Some, bytes_eq, filter, find, nat_eq}
use Rattle.std.specs.List.{AllByRecursion}
use Rattle.std.proofs.lemmas.Bool.Decides.{nat_tests}
use Rattle.sms_keeper.specs.declared.kept_row.KeptRow.{KeptRow}
use Rattle.sms_keeper.specs.Tables.{is_reply_of}
use Rattle.desk_law.specs.KeptRows.{times_placed}
use Rattle.desk_law.proofs.ByteLemmas.{bytes-same}

found-placed-at : (p : KeptRow → Bool) (x : KeptRow) (xs : List KeptRow) (row : KeptRow) (b : Bool) → p x ≡ b → (find p xs ≡ Some row → 1 ≤ times_placed row.place xs) → find p (x ∷ xs) ≡ Some row → 1 ≤ times_placed row.place (x ∷ xs)
found-placed-at p x xs row true is rest found =
    let now : Some x ≡ Some row = rw is at found in
    let same : x ≡ row = cc in
    let test : nat_eq x.place row.place ≡ true = (let place : x.place ≡ row.place = ap (λ (r : KeptRow). r.place) same in grind (arith, nat_tests)) in
    let one : cond (nat_eq x.place row.place) 1 zero ≡ suc zero = rw test refl in
    omega (arith, one)
found-placed-at p x xs row false is rest found =
    let now : find p xs ≡ Some row = rw is at found in
    let more = rest now in omega (arith, more)

found-placed : (p : KeptRow → Bool) (xs : List KeptRow) (row : KeptRow) → find p xs ≡ Some row → 1 ≤ times_placed row.place xs
found-placed p [] row found = absurd cc
found-placed p (x ∷ xs) row found = found-placed-at p x xs row _ refl (found-placed p xs row) found

head-placed : (x row : KeptRow) (n : ℕ) → x.place ≡ row.place → 1 ≤ n → cond (nat_eq x.place row.place) 1 0 + n ≤ 1 → ⊥
head-placed x row n same some once =
    let test : nat_eq x.place row.place ≡ true = grind (arith, nat_tests) in
    let one : cond (nat_eq x.place row.place) 1 zero ≡ suc zero = rw test refl in
    omega (arith, one, some, once)

same-placed-at : (p q : KeptRow → Bool) (x : KeptRow) (xs : List KeptRow) (a b : KeptRow) (c d : Bool) → p x ≡ c → q x ≡ d → a.place ≡ b.place → times_placed a.place (x ∷ xs) ≤ 1
    → (find p xs ≡ Some a → find q xs ≡ Some b → a ≡ b) → find p (x ∷ xs) ≡ Some a → find q (x ∷ xs) ≡ Some b → a ≡ b
same-placed-at p q x xs a b true true tp tq same once rest one two =
    let first : Some x ≡ Some a = rw tp at one in
    let second : Some x ≡ Some b = rw tq at two in cc
same-placed-at p q x xs a b true false tp tq same once rest one two =
    let first : Some x ≡ Some a = rw tp at one in
    let is : x ≡ a = cc in
    let second : find q xs ≡ Some b = rw tq at two in
    absurd (head-placed x a (times_placed a.place xs) (ap (λ (r : KeptRow). r.place) is) (subst (λ n. 1 ≤ times_placed n xs) (sym same) (found-placed q xs b second)) once)
same-placed-at p q x xs a b false true tp tq same once rest one two =
    let first : find p xs ≡ Some a = rw tp at one in
    let second : Some x ≡ Some b = rw tq at two in
    let is : x ≡ b = cc in
    absurd (head-placed x a (times_placed a.place xs) (ap (λ (r : KeptRow). r.place) is ∙ sym same) (found-placed p xs a first) once)
same-placed-at p q x xs a b false false tp tq same once rest one two =
    let first : find p xs ≡ Some a = rw tp at one in
    let second : find q xs ≡ Some b = rw tq at two in rest first second

-- of rows whose places differ, two that are found with one place are one
pub same-placed : (p q : KeptRow → Bool) (xs : List KeptRow) (a b : KeptRow) → a.place ≡ b.place → times_placed a.place xs ≤ 1 → find p xs ≡ Some a → find q xs ≡ Some b → a ≡ b
same-placed p q [] a b same once one two = absurd cc
same-placed p q (x ∷ xs) a b same once one two =
    same-placed-at p q x xs a b _ _ refl refl same once (λ first second. same-placed p q xs a b same (omega (arith, once)) first second) one two

-- Rows that stand once under each key.

pub own-key : (row : KeptRow) → is_reply_of row.job row.number row ≡ true
own-key row =
    let name : bytes_eq row.job row.job ≡ true = bytes-same row.job row.job refl in
    let test : nat_eq row.number row.number ≡ true = grind (arith, nat_tests) in rw (name, test) refl

filter-more : (p : KeptRow → Bool) (x : KeptRow) (xs : List KeptRow) (b : Bool) → p x ≡ b → length (filter p (x ∷ xs)) ≤ 1 → length (filter p xs) ≤ 1
filter-more p x xs true is few =
    let now : length (x ∷ filter p xs) ≤ 1 = rw is at few in omega (arith, now)
filter-more p x xs false is few = rw is at few

filter-alone : (p : KeptRow → Bool) (x : KeptRow) (xs : List KeptRow) → p x ≡ true → length (filter p (x ∷ xs)) ≤ 1 → length (filter p xs) ≡ 0
filter-alone p x xs is few =
    let now : length (x ∷ filter p xs) ≤ 1 = rw is at few in omega (arith, now)

filter-none : (p : KeptRow → Bool) (x : KeptRow) (xs : List KeptRow) (b : Bool) → p x ≡ b → length (filter p (x ∷ xs)) ≡ 0 → (b ≡ false) × (length (filter p xs) ≡ 0)
filter-none p x xs true is none =
    let now : length (x ∷ filter p xs) ≡ 0 = rw is at none in absurd (omega (arith, now))
filter-none p x xs false is none = (refl, rw is at none)

-- two rows of one place are one
abbrev pub AreOne : (KeptRow → Type 0) → Type 0
AreOne Q = (a b : KeptRow) → Q a → Q b → a.place ≡ b.place → a ≡ b

none-placed-at : (Q : KeptRow → Type 0) (row x : KeptRow) (n : ℕ) (b : Bool) → nat_eq x.place row.place ≡ b → AreOne Q → Q row → Q x → is_reply_of row.job row.number x ≡ false → n ≡ 0 → cond b 1 0 + n ≡ 0
none-placed-at Q row x n true is one here there off none =
    let place : x.place ≡ row.place = grind (arith, nat_tests) in
    let same : x ≡ row = one x row there here place in
    let bad : true ≡ false = sym (own-key row) ∙ subst (λ (r : KeptRow). is_reply_of row.job row.number r ≡ false) same off in absurd cc
none-placed-at Q row x n false is one here there off none = omega (arith, none)

none-placed : (Q : KeptRow → Type 0) (row : KeptRow) (xs : List KeptRow) → AreOne Q → Q row → AllByRecursion Q xs → length (filter (is_reply_of row.job row.number) xs) ≡ 0 → times_placed row.place xs ≡ 0
none-placed Q row [] one here all none = refl
none-placed Q row (x ∷ xs) one here all none =
    let parts = filter-none (is_reply_of row.job row.number) x xs _ refl none in
    none-placed-at Q row x (times_placed row.place xs) _ refl one here all.0 parts.0 (none-placed Q row xs one here all.1 parts.1)

once-placed-at : (Q : KeptRow → Type 0) (place : ℕ) (x : KeptRow) (xs : List KeptRow) (b : Bool) → nat_eq x.place place ≡ b → AreOne Q → Q x → AllByRecursion Q xs
    → length (filter (is_reply_of x.job x.number) (x ∷ xs)) ≤ 1 → times_placed place xs ≤ 1 → cond b 1 0 + times_placed place xs ≤ 1
once-placed-at Q place x xs true is one here all few rest =
    let same : x.place ≡ place = grind (arith, nat_tests) in
    let none = none-placed Q x xs one here all (filter-alone (is_reply_of x.job x.number) x xs (own-key x) few) in
    let moved : times_placed place xs ≡ 0 = subst (λ n. times_placed n xs ≡ 0) same none in
    omega (arith, moved)
once-placed-at Q place x xs false is one here all few rest = omega (arith, rest)

pub once-placed : (Q : KeptRow → Type 0) (place : ℕ) (xs : List KeptRow) → AreOne Q → AllByRecursion Q xs → ((job : List ℕ) (number : ℕ) → length (filter (is_reply_of job number) xs) ≤ 1) → times_placed place xs ≤ 1
once-placed Q place [] one all few = omega arith
once-placed Q place (x ∷ xs) one all few =
    once-placed-at Q place x xs _ refl one all.0 all.1 (few x.job x.number)
    (once-placed Q place xs one all.1 (λ job number. filter-more (is_reply_of job number) x xs _ refl (few job number)))
