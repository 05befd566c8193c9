-- Kept rows and the entries that they come from.
use Rattle.std.proofs.Common.{◌≡◌, ℕ, Bool, true, false, List, [], ◌∷◌, ◌++◌, refl, sym, ap, subst, arith, inl, inr}
use Rattle.std.specs.Prelude.{◌⊎◌, ◌&&◌, None, Some, bytes_eq, find, nat_eq, if◌then◌else◌}
use Rattle.std.proofs.lemmas.Bool.Decides.{nat_tests}
use Rattle.sms_construct.specs.declared.entry.Entry.{Entry}
use Rattle.sms_keeper.specs.declared.kept_row.KeptRow.{KeptRow}
use Rattle.sms_keeper.specs.Tables.{is_reply_of}
use Rattle.desk_law.specs.Kept.{is_fault, row_of_entry, rows_of, rows_of_entry}
use Rattle.desk_law.proofs.ByteLemmas.{same-bytes}
use Rattle.desk_law.proofs.FloorLemmas.{append-assoc, append-none}

-- the row is found among the first ones, or else among the others
abbrev pub FoundIn : {X : Type 0} → (X → Bool) → List X → List X → X → Type 0
FoundIn p a b x = (find p a ≡ Some x) ⊎ ((find p a ≡ None) × (find p b ≡ Some x))

found-at : {X : Type 0} (p : X → Bool) (y : X) (a b : List X) (x : X) (c : Bool) → p y ≡ c → (find p (a ++ b) ≡ Some x → FoundIn p a b x) → find p (y ∷ (a ++ b)) ≡ Some x → FoundIn p (y ∷ a) b x
found-at p y a b x true test rest is =
    let now : Some y ≡ Some x = rw test at is in inl (rw test now)
found-at p y a b x false test rest is =
    let now : find p (a ++ b) ≡ Some x = rw test at is in
    let there = rest now in rw test there

pub found-parts : {X : Type 0} (p : X → Bool) (a b : List X) (x : X) → find p (a ++ b) ≡ Some x → FoundIn p a b x
found-parts p [] b x is = inr (refl, is)
found-parts p (y ∷ a) b x is = found-at p y a b x _ refl (found-parts p a b x) is

found-passes-at : {X : Type 0} (p : X → Bool) (y : X) (a : List X) (x : X) (c : Bool) → p y ≡ c → (find p a ≡ Some x → p x ≡ true) → find p (y ∷ a) ≡ Some x → p x ≡ true
found-passes-at p y a x true test rest is =
    let now : Some y ≡ Some x = rw test at is in
    let same : y ≡ x = cc in subst (λ z. p z ≡ true) same test
found-passes-at p y a x false test rest is =
    let now : find p a ≡ Some x = rw test at is in rest now

-- what is found passes
pub found-passes : {X : Type 0} (p : X → Bool) (a : List X) (x : X) → find p a ≡ Some x → p x ≡ true
found-passes p [] x is = absurd cc
found-passes p (y ∷ a) x is = found-passes-at p y a x _ refl (found-passes p a x) is

none-in-both-at : {X : Type 0} (p : X → Bool) (y : X) (a b : List X) (c : Bool) → p y ≡ c → (find p a ≡ None → find p (a ++ b) ≡ None) → find p (y ∷ a) ≡ None → find p (y ∷ (a ++ b)) ≡ None
none-in-both-at p y a b true test rest is =
    let now : Some y ≡ None = rw test at is in absurd cc
none-in-both-at p y a b false test rest is =
    let now : find p a ≡ None = rw test at is in rw test (rest now)

none-in-both : {X : Type 0} (p : X → Bool) (a b : List X) → find p a ≡ None → find p b ≡ None → find p (a ++ b) ≡ None
none-in-both p [] b first second = second
none-in-both p (y ∷ a) b first second = none-in-both-at p y a b _ refl (λ e. none-in-both p a b e second) first

-- the entry of a kept row: it is no fault, and none before it has one of that job and number
pub record IsRowOf (p : KeptRow → Bool) (rows : List KeptRow) (es : List Entry) (row : KeptRow) : Type 0 where
  pub mid : List Entry
  pub one : Entry
  pub behind : List Entry
  pub stands : es ≡ mid ++ one ∷ behind
  pub row_is : row ≡ row_of_entry one
  pub no_fault : is_fault one.answer.reply ≡ false
  pub first : find p (rows ++ rows_of mid) ≡ None

entry-row : (b : Bool) (e : Entry) (p : KeptRow → Bool) (row : KeptRow) → find p (if b then [] else row_of_entry e ∷ []) ≡ Some row → (row ≡ row_of_entry e) × (b ≡ false)
entry-row true e p row is = absurd cc
entry-row false e p row is = (entry-row-at (p (row_of_entry e)) refl, refl)
  where
    entry-row-at : (c : Bool) → p (row_of_entry e) ≡ c → row ≡ row_of_entry e
    entry-row-at true test =
        let now : Some (row_of_entry e) ≡ Some row = rw test at is in cc
    entry-row-at false test =
        let now : None ≡ Some row = rw test at is in absurd cc

pub row-entry : (p : KeptRow → Bool) (rows : List KeptRow) (es : List Entry) (row : KeptRow) → find p rows ≡ None → find p (rows_of es) ≡ Some row → IsRowOf p rows es row
row-entry p rows [] row missing is = absurd cc
row-entry p rows (e ∷ es) row missing is =
    row-entry-at p rows e es row missing (found-parts p (rows_of_entry e) (rows_of es) row is) (λ gone rest. row-entry p (rows ++ rows_of_entry e) es row (none-in-both p rows (rows_of_entry e) missing gone) rest)
  where
    row-entry-at : (p : KeptRow → Bool) (rows : List KeptRow) (e : Entry) (es : List Entry) (row : KeptRow) → find p rows ≡ None → FoundIn p (rows_of_entry e) (rows_of es) row
        → (find p (rows_of_entry e) ≡ None → find p (rows_of es) ≡ Some row → IsRowOf p (rows ++ rows_of_entry e) es row) → IsRowOf p rows (e ∷ es) row
    row-entry-at p rows e es row missing (inl here) rest = record {
      mid = [];
      one = e;
      behind = es;
      stands = refl;
      row_is = (entry-row (is_fault e.answer.reply) e p row here).0;
      no_fault = (entry-row (is_fault e.answer.reply) e p row here).1;
      first = subst (λ (l : List KeptRow). find p l ≡ None) (sym (append-none rows)) missing;
    }
    row-entry-at p rows e es row missing (inr there) rest =
        let found = rest there.0 there.1 in record {
          mid = e ∷ found.mid;
          one = found.one;
          behind = found.behind;
          stands = ap (λ (l : List Entry). e ∷ l) found.stands;
          row_is = found.row_is;
          no_fault = found.no_fault;
          first = subst (λ (l : List KeptRow). find p l ≡ None) (append-assoc rows (rows_of_entry e) (rows_of found.mid)) found.first;
        }

both-parts : (a b : Bool) → (a && b) ≡ true → (a ≡ true) × (b ≡ true)
both-parts true b is = (refl, is)
both-parts false b is = absurd cc

-- a row of a job's number has that job and number
pub row-key : (job : List ℕ) (number : ℕ) (row : KeptRow) → is_reply_of job number row ≡ true → (row.job ≡ job) × (row.number ≡ number)
row-key job number row is =
    let parts = both-parts (bytes_eq row.job job) (nat_eq row.number number) is in
    let test = parts.1 in
    (same-bytes row.job job parts.0, grind (arith, nat_tests))
