-- A day so far: the data sets up to a name.
use Rattle.std.proofs.Common.{inl, inr, ◌≡◌, ◌⊎◌, ℕ, ◌+◌, ◌==◌, ◌&&◌, ◌||◌, Bool, true, false, cond, List, [], ◌∷◌}
use Rattle.std.proofs.Common.{◌++◌, length, map, Option, None, Some, Ordering, Less, Equal, Greater, is_lt, refl, sym}
use Rattle.std.proofs.Common.{ap, ◌∙◌, arith, append-nil, append_assoc}
use Rattle.std.specs.Prelude.{bytes_eq}
use Rattle.std.specs.Cmp.Lexicographic.{nat_list_cmp_total, slice_cmp}
use Rattle.std.specs.List.{list_all, list_any}
use Rattle.std.specs.Ordering.{is_eq, nat_cmp, ordering_reverse}
use Rattle.std.proofs.lemmas.Bool.{cases_Bool}
use Rattle.std.proofs.lemmas.Bool.Decides.{nat_tests}
use Rattle.std.proofs.lemmas.Map.Text.{is_eq-slice_cmp}
use Rattle.std.proofs.lemmas.Slice.Eq.{bytes_eq-Decides}
use Rattle.sms_construct.specs.Configuration.{Configuration, are_ascending}
use Rattle.sms_construct.specs.declared.data_set.DataSet.{DataSet}
use Rattle.desk_law.specs.State.{DeskState, set_named}
use Rattle.desk_law.specs.Releasing.{kept_of}
use Rattle.desk_state.specs.Following.{is_behind}
use Rattle.desk_state.proofs.ApplyLemmas.{drop-found, put-found}
use Rattle.sms_manage.specs.declared.act.Act.{Act}
use Rattle.sms_manage.specs.declared.wanted.Due.{Due}
use Rattle.sms_manage.specs.declared.wanted.Due.TheVariants.{Nothing, Delete, Release}
use Rattle.sms_manage.specs.Due.{class_of, due_of, has_passed, is_due, is_due_if, is_releasing, lifetime_of}
use Rattle.sms_manage.specs.Managed.{are_counted, entries_of, entry_for, op_if}
use Rattle.sms_manage.proofs.ActLemmas.{after_act}
use Rattle.sms_manage.proofs.ReleaseLemmas.{release-twice}

-- Names in order.

abbrev pub R : List ℕ → List ℕ → Ordering
R a b = slice_cmp nat_cmp a b

less_is : (o : Ordering) → is_lt o ≡ true → o ≡ Less
less_is Less is = refl
less_is Equal is = absurd cc
less_is Greater is = absurd cc

behind-chain : (a b c : List ℕ) → is_lt (R a b) ≡ true → is_lt (R b c) ≡ true → is_lt (R a c) ≡ true
behind-chain a b c one two = rw (nat_list_cmp_total.trans a b c (less_is (R a b) one) (less_is (R b c) two)) refl

-- what isn't behind a name stands before what is
before-behind-at : (l d x : List ℕ) (o : Ordering) → R l d ≡ o → is_lt o ≡ false → is_lt (R l x) ≡ true → is_lt (R d x) ≡ true
before-behind-at l d x Less is isnt one = absurd cc
before-behind-at l d x Equal is isnt one = ap is_lt (sym (nat_list_cmp_total.congr l d x is)) ∙ one
before-behind-at l d x Greater is isnt one =
    rw (nat_list_cmp_total.trans d l x (nat_list_cmp_total.antisymm d l ∙ ap ordering_reverse is) (less_is (R l x) one)) refl

pub before-behind : (from : Option (List ℕ)) (d x : List ℕ) → is_behind from d ≡ false → is_behind from x ≡ true → is_lt (R d x) ≡ true
before-behind None d x isnt one = absurd cc
before-behind (Some l) d x isnt one = before-behind-at l d x (R l d) refl isnt one

-- what stands behind a name that is behind another is behind that too
pub further : (from : Option (List ℕ)) (x d : List ℕ) → is_behind from x ≡ true → is_behind (Some x) d ≡ true → is_behind from d ≡ true
further None x d one two = refl
further (Some l) x d one two = behind-chain l x d one two

-- what isn't behind a name is that name, or stands before it
pub which-at : (x d : List ℕ) (o : Ordering) → R x d ≡ o → is_lt o ≡ false → (x ≡ d) ⊎ (is_lt (R d x) ≡ true)
which-at x d Less is isnt = absurd cc
which-at x d Equal is isnt = inl ((bytes_eq-Decides x d).0 (sym (is_eq-slice_cmp x d) ∙ ap is_eq is))
which-at x d Greater is isnt = inr (rw (nat_list_cmp_total.antisymm d x ∙ ap ordering_reverse is) refl)

-- a name isn't equal to one that it stands behind or before
not-same-at : (x d : List ℕ) (o : Ordering) → R x d ≡ o → is_eq o ≡ false → bytes_eq x d ≡ false
not-same-at x d o is isnt = sym (is_eq-slice_cmp x d) ∙ ap is_eq is ∙ isnt

pub before-apart : (x d : List ℕ) → is_lt (R d x) ≡ true → bytes_eq x d ≡ false
before-apart x d before = not-same-at x d Greater (nat_list_cmp_total.antisymm x d ∙ ap ordering_reverse (less_is (R d x) before)) refl

pub behind-apart : (x d : List ℕ) → is_lt (R x d) ≡ true → bytes_eq x d ≡ false
behind-apart x d behind = not-same-at x d Less (less_is (R x d) behind) refl

pub not-behind-itself : (x : List ℕ) → is_lt (R x x) ≡ false
not-behind-itself x = at (R x x) (nat_list_cmp_total.antisymm x x)
  where
    at : (o : Ordering) → o ≡ ordering_reverse o → is_lt o ≡ false
    at Less is = absurd cc
    at Equal is = refl
    at Greater is = absurd cc

-- What is found after an act.

pub other-stays : (wanted : Due) (s : DeskState) (set : DataSet) (dsn : List ℕ) → bytes_eq set.dsn dsn ≡ false → set_named dsn (after_act wanted s set).sets ≡ set_named dsn s.sets
other-stays Nothing s set dsn apart = refl
other-stays Delete s set dsn apart = sym (drop-found s.sets set.dsn dsn (set_named dsn s.sets) (set_named dsn s.sets) false apart refl refl)
other-stays Release s set dsn apart = sym (put-found s.sets (kept_of set) dsn (set_named dsn s.sets) (set_named dsn s.sets) false apart refl refl)

pub same-name : (dsn : List ℕ) → bytes_eq dsn dsn ≡ true
same-name dsn = (bytes_eq-Decides dsn dsn).1 refl

released-at : (config : Configuration) (day : ℕ) (set : DataSet) (b : Bool) → has_passed day set (lifetime_of config set) ≡ b → due_of config day set ≡ Release → is_due (due_of config day (kept_of set)) ≡ false
released-at config day set true passed due = let isnt : Delete ≡ Release = rw passed at due in absurd cc
released-at config day set false passed due = rw (passed, release-twice set) (none (is_releasing (class_of config set)))
  where
    none : (b : Bool) → is_due (cond (b && false) Release Nothing) ≡ false
    none true = refl
    none false = refl

-- nothing is due any more where what was due was done
pub settled-act : (config : Configuration) (day : ℕ) (s : DeskState) (set : DataSet) (wanted : Due) → due_of config day set ≡ wanted → set_named set.dsn s.sets ≡ Some set
    → is_due_if config day (set_named set.dsn (after_act wanted s set).sets) ≡ false
settled-act config day s set Nothing due found = rw (found, due) refl
settled-act config day s set Delete due found =
    rw (← drop-found s.sets set.dsn set.dsn (set_named set.dsn s.sets) None true (same-name set.dsn) refl refl) refl
settled-act config day s set Release due found =
    rw (← put-found s.sets (kept_of set) set.dsn (set_named set.dsn s.sets) (Some (kept_of set)) true (same-name set.dsn) refl refl)
    (released-at config day set _ refl due)

-- Acts behind others.

pub any-push : (p : Act → Bool) (acts : List Act) (act : Act) → list_any p (acts ++ act ∷ []) ≡ (list_any p acts || p act)
any-push p [] act = or-none (p act)
  where
    or-none : (b : Bool) → (b || false) ≡ b
    or-none true = refl
    or-none false = refl
any-push p (a ∷ acts) act = ap (λ b. p a || b) (any-push p acts act) ∙ or-assoc (p a) (list_any p acts) (p act)
  where
    or-assoc : (a b c : Bool) → (a || (b || c)) ≡ ((a || b) || c)
    or-assoc true b c = refl
    or-assoc false b c = refl

pub all-push : (p : Act → Bool) (acts : List Act) (act : Act) → list_all p (acts ++ act ∷ []) ≡ true → (list_all p acts ≡ true) × (p act ≡ true)
all-push p [] act all = (refl, first (p act) all)
  where
    first : (b : Bool) → (b && true) ≡ true → b ≡ true
    first true is = refl
    first false is = is
all-push p (a ∷ acts) act all = elim (cases_Bool (p a)) [
  | inl is ↦ let rest : list_all p (acts ++ act ∷ []) ≡ true = rw is at all in let both = all-push p acts act rest in (rw is both.0, both.1)
  | inr isnt ↦ let bad : false ≡ true = rw isnt at all in absurd cc
]

pub counted-push : (number : ℕ) (acts : List Act) (act : Act) → are_counted number acts ≡ true → act.number ≡ number + length acts → are_counted number (acts ++ act ∷ []) ≡ true
counted-push number [] act counted is = rw (is, plain) refl
  where
    plain : (number + 0 == number) ≡ true
    plain = grind (arith, nat_tests)
counted-push number (a ∷ acts) act counted is = elim (cases_Bool (a.number == number)) [
  | inl same ↦ let rest : are_counted (number + 1) acts ≡ true = rw same at counted in rw same (counted-push (number + 1) acts act rest (omega (arith, is)))
  | inr other ↦ let bad : false ≡ true = rw other at counted in absurd cc
]

-- all names stand before this one
abbrev pub AllBefore : List (List ℕ) → List ℕ → Type 0
AllBefore [] x = Unit {0}
AllBefore (n ∷ names) x = (is_lt (R n x) ≡ true) × AllBefore names x

pub ascending-push : (names : List (List ℕ)) (x : List ℕ) → are_ascending names ≡ true → AllBefore names x → are_ascending (names ++ x ∷ []) ≡ true
ascending-push [] x order before = refl
ascending-push (n ∷ []) x order before = rw before.0 refl
ascending-push (n ∷ m ∷ names) x order before = elim (cases_Bool (is_lt (R n m))) [
  | inl less ↦ let rest : are_ascending (m ∷ names) ≡ true = rw less at order in rw less (ascending-push (m ∷ names) x rest before.1)
  | inr isnt ↦ let bad : false ≡ true = rw isnt at order in absurd cc
]

pub names-push : (acts : List Act) (act : Act) → map (λ (a : Act). a.dsn) (acts ++ act ∷ []) ≡ map (λ (a : Act). a.dsn) acts ++ act.dsn ∷ []
names-push [] act = refl
names-push (a ∷ acts) act = ap (λ ns. a.dsn ∷ ns) (names-push acts act)

pub before-push : (names : List (List ℕ)) (n x : List ℕ) → AllBefore names x → is_lt (R n x) ≡ true → AllBefore (names ++ n ∷ []) x
before-push [] n x before less = (less, tt)
before-push (m ∷ names) n x before less = (before.0, before-push names n x before.1 less)

pub entries-push : (config : Configuration) (day : ℕ) (sets : List DataSet) (acts : List Act) (act : Act) → entries_of config day sets (acts ++ act ∷ []) ≡ entries_of config day sets acts ++ entry_for (op_if config day (set_named act.dsn sets)) act
entries-push config day sets [] act = append-nil (entry_for (op_if config day (set_named act.dsn sets)) act)
entries-push config day sets (a ∷ acts) act =
    ap (λ es. entry_for (op_if config day (set_named a.dsn sets)) a ++ es) (entries-push config day sets acts act) ∙ sym (append_assoc (entry_for (op_if config day (set_named a.dsn sets)) a) (entries_of config day sets acts) _)
