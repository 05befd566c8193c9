-- A status set, and what is written of statuses.
use Rattle.std.proofs.Common.{◌≡◌, Bool, true, false, not, cond, ℕ, ℤ, ◌≤◌, pos, List, [], ◌∷◌, ◌++◌, filter, map, Some}
use Rattle.std.proofs.Common.{◌+◌, ◌<◌, length, take, get_or, append_assoc, append-nil, refl, ap, ap₂, sym, subst, ◌∙◌}
use Rattle.std.specs.Prelude.{slice_get}
use Rattle.std.proofs.lemmas.Grind.{take_at_read}
use Rattle.std.proofs.lemmas.List.{map-append, take_all}
use Rattle.std.proofs.lemmas.Slice.Eq.{bytes_eq-Decides}
use Rattle.sqlite.specs.Effect.{Database}
use Rattle.sqlite.specs.Order.{Row}
use Rattle.keeper_statements.specs.Changes.{with_status}
use Rattle.keeper_statements.specs.Steps.{Makes}
use Rattle.keeper_statements.proofs.EditLemmas.{rest_itself, rest_then}
use Rattle.keeper_statements.specs.Tables.{Tables, IsReady, tables_in}
use Rattle.sms_construct.specs.declared.status.Status.{Status}
use Rattle.sms_construct.specs.declared.status.Status.TheVariants as statuses
use Rattle.sms_construct.specs.declared.target.Target.{Target}
use Rattle.sms_construct.specs.declared.target.Target.TheVariants as targets
use Rattle.sms_keeper.specs.Loading.{target_name, target_rank}
use Rattle.sms_keeper.specs.Tables.{is_status_of, same_target, row_with}
use Rattle.sms_keeper.specs.declared.status_row.StatusRow.{StatusRow}
use Rattle.sms_sqlite.specs.Inner.Columns.{AreReadable, status_column, row_of_status, with_statuses}
use Rattle.sms_sqlite.specs.Values.{each_in, status_in, target_of, all_statuses}

-- the test holds of the same targets alone
pub target_same : (a b : Target) → same_target a b ≡ true → a ≡ b
target_same (targets.Group a) (targets.Group b) e = ap targets.Group ((bytes_eq-Decides a b).0 e)
target_same (targets.Group a) (targets.Volume b) e = absurd cc
target_same (targets.Group a) (targets.Set b) e = absurd cc
target_same (targets.Volume a) (targets.Group b) e = absurd cc
target_same (targets.Volume a) (targets.Volume b) e = ap targets.Volume ((bytes_eq-Decides a b).0 e)
target_same (targets.Volume a) (targets.Set b) e = absurd cc
target_same (targets.Set a) (targets.Group b) e = absurd cc
target_same (targets.Set a) (targets.Volume b) e = absurd cc
target_same (targets.Set a) (targets.Set b) e = ap targets.Set ((bytes_eq-Decides a b).0 e)

pub target_self : (a : Target) → same_target a a ≡ true
target_self (targets.Group a) = (bytes_eq-Decides a a).1 refl
target_self (targets.Volume a) = (bytes_eq-Decides a a).1 refl
target_self (targets.Set a) = (bytes_eq-Decides a a).1 refl

status_again : (status : Status) → slice_get all_statuses (status_column status) ≡ Some status
status_again statuses.Enable = refl
status_again statuses.NotCon = refl
status_again statuses.DisAll = refl
status_again statuses.DisNew = refl
status_again statuses.QuiAll = refl
status_again statuses.QuiNew = refl

pub status_reads : (row : StatusRow) → target_of (target_rank row.target) (target_name row.target) ≡ Some row.target → status_in (row_of_status row) ≡ Some row
unfolding status_in
status_reads row again = rw (again, status_again row.status) refl

pub statuses_read : (rows : List StatusRow) → AreReadable rows → each_in status_in (map row_of_status rows) ≡ Some rows
statuses_read [] all = refl
statuses_read (row ∷ rows) all = rw (status_reads row all.0, statuses_read rows all.1) refl

module _ (target : Target) (status : Status) where
  abbrev here : StatusRow → Bool
  here = is_status_of target

  abbrev new : StatusRow
  new = record { target = target; status = status }

  -- where no row is the target's, none is changed
  pub none_set : (rows : List StatusRow) → filter here rows ≡ [] → map (row_with target status) rows ≡ rows
  none_set [] none = refl
  none_set (x ∷ rows) none = by (here x) refl (λ less. none_set rows less)
    where
      by : (b : Bool) → here x ≡ b → (filter here rows ≡ [] → map (row_with target status) rows ≡ rows) → map (row_with target status) (x ∷ rows) ≡ x ∷ rows
      by true is rest = absurd (let e : x ∷ filter here rows ≡ [] = sym (ap (λ b. cond b (x ∷ filter here rows) (filter here rows)) is) ∙ none in cc)
      by false is rest =
          let less : filter here rows ≡ [] = sym (ap (λ b. cond b (x ∷ filter here rows) (filter here rows)) is) ∙ none in
          ap₂ (λ (y : StatusRow) (ys : List StatusRow). y ∷ ys) (ap (λ b. let r : StatusRow = record { target = x.target; status = cond b status x.status } in r) is) (rest less)

  -- under another key the rows stay
  other_key : (key : Target) (x : StatusRow) → same_target target key ≡ false → here x ≡ true → is_status_of key x ≡ false
  other_key key x apart is = ap (λ t. same_target t key) (target_same x.target target is) ∙ apart

  others_stay : (key : Target) → same_target target key ≡ false → (rows : List StatusRow)
      → filter (is_status_of key) (filter (λ row. not (here row)) rows) ≡ filter (is_status_of key) (map (row_with target status) rows)
  others_stay key apart [] = refl
  others_stay key apart (x ∷ rows) = by (here x) refl (others_stay key apart rows)
    where
      by : (b : Bool) → here x ≡ b → filter (is_status_of key) (filter (λ row. not (here row)) rows) ≡ filter (is_status_of key) (map (row_with target status) rows)
          → filter (is_status_of key) (filter (λ row. not (here row)) (x ∷ rows)) ≡ filter (is_status_of key) (map (row_with target status) (x ∷ rows))
      by true is rest = rw (is, other_key key x apart is) rest
      by false is rest =
          rw is (ap (λ (l : List StatusRow). cond (is_status_of key x) (x ∷ l) l) rest)

  -- under the target's key there is the one row
  pub gone_here : (rows : List StatusRow) → filter here (filter (λ row. not (here row)) rows) ≡ []
  gone_here [] = refl
  gone_here (x ∷ rows) = by (here x) refl (gone_here rows)
    where
      by : (b : Bool) → here x ≡ b → filter here (filter (λ row. not (here row)) rows) ≡ [] → filter here (filter (λ row. not (here row)) (x ∷ rows)) ≡ []
      by true is rest = rw is rest
      by false is rest = rw (is, is) rest

  mapped_here : (rows : List StatusRow) → filter here (map (row_with target status) rows) ≡ map (row_with target status) (filter here rows)
  mapped_here [] = refl
  mapped_here (x ∷ rows) = by (here x) refl (mapped_here rows)
    where
      by : (b : Bool) → here x ≡ b → filter here (map (row_with target status) rows) ≡ map (row_with target status) (filter here rows)
          → filter here (map (row_with target status) (x ∷ rows)) ≡ map (row_with target status) (filter here (x ∷ rows))
      by true is rest = rw (is, is) (ap (λ (l : List StatusRow). (let r : StatusRow = record { target = x.target; status = status } in r) ∷ l) rest)
      by false is rest = rw is rest

  new_here : here new ≡ true
  new_here = target_self target

  filter_behind : (test : StatusRow → Bool) (rows : List StatusRow) (x : StatusRow) (b : Bool) → test x ≡ b → filter test (rows ++ x ∷ []) ≡ filter test rows ++ cond b (x ∷ []) []
  filter_behind test [] x b is = ap (λ c. cond c (x ∷ []) []) is
  filter_behind test (y ∷ rows) x b is = rw (filter_behind test rows x b is) (joined (test y) y (filter test rows) (cond b (x ∷ []) []))
    where
      joined : (c : Bool) (y : StatusRow) (l m : List StatusRow) → cond c (y ∷ (l ++ m)) (l ++ m) ≡ cond c (y ∷ l) l ++ m
      joined true y l m = refl
      joined false y l m = refl

  first_is : (rows : List StatusRow) (x : StatusRow) → filter here rows ≡ x ∷ [] → here x ≡ true
  first_is [] x e = absurd cc
  first_is (y ∷ rows) x e = by (here y) refl (λ less. first_is rows x less)
    where
      by : (b : Bool) → here y ≡ b → (filter here rows ≡ x ∷ [] → here x ≡ true) → here x ≡ true
      by true is rest =
          let both : y ∷ filter here rows ≡ x ∷ [] = sym (ap (λ b. cond b (y ∷ filter here rows) (filter here rows)) is) ∙ e in
          let same : y ≡ x = cc in
          ap here (sym same) ∙ is
      by false is rest = rest (sym (ap (λ b. cond b (y ∷ filter here rows) (filter here rows)) is) ∙ e)

  -- one row is the target's: it is changed, or dropped and added
  pub one_set : (rows : List StatusRow) (x : StatusRow) → filter here rows ≡ x ∷ [] → (key : Target)
      → filter (is_status_of key) (filter (λ row. not (here row)) rows ++ new ∷ []) ≡ filter (is_status_of key) (map (row_with target status) rows)
  one_set rows x one key = by (same_target target key) refl
    where
      by : (b : Bool) → same_target target key ≡ b → filter (is_status_of key) (filter (λ row. not (here row)) rows ++ new ∷ []) ≡ filter (is_status_of key) (map (row_with target status) rows)
      by false apart =
          filter_behind (is_status_of key) (filter (λ row. not (here row)) rows) new false apart ∙ append-nil _ ∙ others_stay key apart rows
      by true same =
          subst (λ k. filter (is_status_of k) (filter (λ row. not (here row)) rows ++ new ∷ []) ≡ filter (is_status_of k) (map (row_with target status) rows)) (target_same target key same)
          (filter_behind here (filter (λ row. not (here row)) rows) new true new_here ∙ ap (λ (l : List StatusRow). l ++ new ∷ []) (gone_here rows)
          ∙ sym (mapped_here rows ∙ ap (map (row_with target status)) one ∙ ap (λ (r : StatusRow). r ∷ []) changed))
        where
          passes : here x ≡ true
          passes = first_is rows x one

          changed : row_with target status x ≡ new
          changed = ap₂ (λ (t : Target) (b : Bool). let r : StatusRow = record { target = t; status = cond b status x.status } in r) (target_same x.target target passes) passes

-- statuses added one by one

pub none_added : (db : Database) → IsReady db → Makes (with_statuses []) db db
none_added db ready = record { ready = ready; rest = rest_itself db; tables = ap (λ (l : List Row). let t : Tables = record (tables_in db) { statuses = l } in t) (sym (append-nil (tables_in db).statuses)) }

readable_push : (rows : List StatusRow) (row : StatusRow) → AreReadable rows → target_of (target_rank row.target) (target_name row.target) ≡ Some row.target → AreReadable (rows ++ row ∷ [])
readable_push [] row all one = (one, tt)
readable_push (r ∷ rows) row all one = (all.0, readable_push rows row all.1 one)

next_rows : (rows : List StatusRow) (i : ℕ) (row : StatusRow) → i < length rows → row ≡ get_or rows i row → take (i + 1) rows ≡ take i rows ++ row ∷ []
next_rows rows i row low is = (take_at_read rows i row low).1 ∙ ap (λ (r : StatusRow). take i rows ++ r ∷ []) (sym is)

pub one_readable : (rows : List StatusRow) (i : ℕ) (row : StatusRow) → i < length rows → row ≡ get_or rows i row → AreReadable (take i rows) → target_of (target_rank row.target) (target_name row.target) ≡ Some row.target
    → AreReadable (take (i + 1) rows)
one_readable rows i row low is all one = subst AreReadable (sym (next_rows rows i row low is)) (readable_push (take i rows) row all one)

pub one_added : (rows : List StatusRow) (i : ℕ) (row : StatusRow) (a b c : Database) → i < length rows → row ≡ get_or rows i row → Makes (with_statuses (take i rows)) a b
    → Makes (with_status (pos (target_rank row.target)) (target_name row.target) (pos (status_column row.status))) b c → Makes (with_statuses (take (i + 1) rows)) a c
one_added rows i row a b c low is one two = record {
  ready = two.ready;
  rest = rest_then a b c one.rest two.rest;
  tables = two.tables ∙ ap (with_status (pos (target_rank row.target)) (target_name row.target) (pos (status_column row.status))) one.tables
      ∙ ap (λ (l : List Row). let t : Tables = record (tables_in a) { statuses = l } in t)
      (append_assoc (tables_in a).statuses (map row_of_status (take i rows)) (row_of_status row ∷ [])
      ∙ ap (λ (l : List Row). (tables_in a).statuses ++ l) (sym (map-append row_of_status (take i rows) (row ∷ [])) ∙ ap (map row_of_status) (sym (next_rows rows i row low is))));
}

-- a status added, told by equal columns
pub status_as : (old new : Database) (k kind : ℤ) (n name : List ℕ) (s status : ℤ) → k ≡ kind → n ≡ name → s ≡ status → Makes (with_status k n s) old new → Makes (with_status kind name status) old new
status_as old new k kind n name s status p q r made =
    subst (λ (z : ℤ). Makes (with_status kind name z) old new) r (subst (λ (l : List ℕ). Makes (with_status kind l s) old new) q (subst (λ (z : ℤ). Makes (with_status z n s) old new) p made))

-- at the end of the loop all were added
pub all_added : (rows : List StatusRow) (i : ℕ) (old new : Database) → length rows ≤ i → Makes (with_statuses (take i rows)) old new → Makes (with_statuses rows) old new
all_added rows i old new end made = subst (λ (l : List StatusRow). Makes (with_statuses l) old new) (take_all i rows end) made
