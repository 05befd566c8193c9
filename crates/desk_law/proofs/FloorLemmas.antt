-- Floors and kept rows of longer histories.
use Rattle.std.proofs.Common.{◌≡◌, ◌≤◌, ℕ, Bool, true, false, cond, List, [], ◌∷◌, ◌++◌, refl, sym, ap, ◌∙◌, subst}
use Rattle.std.proofs.Common.{arith}
use Rattle.std.specs.Prelude.{Some, find, max}
use Rattle.sms_construct.specs.declared.entry.Entry.{Entry}
use Rattle.sms_keeper.specs.declared.floor.Floor.{Floor}
use Rattle.sms_keeper.specs.declared.kept_row.KeptRow.{KeptRow}
use Rattle.sms_keeper.specs.Tables.{is_floor_of, is_reply_of}
use Rattle.desk_law.specs.State.{Opening}
use Rattle.desk_law.specs.Kept.{all_floors, all_rows, floor_of, floor_told, floors_of, greatest_floor, kept_for}
use Rattle.desk_law.specs.Kept.{rows_of, rows_of_entry}

pub append-none : {X : Type 0} (l : List X) → l ++ [] ≡ l
append-none [] = refl
append-none (x ∷ l) = ap (λ m. x ∷ m) (append-none l)

pub append-assoc : {X : Type 0} (a b c : List X) → (a ++ b) ++ c ≡ a ++ (b ++ c)
append-assoc [] b c = refl
append-assoc (x ∷ a) b c = ap (λ l. x ∷ l) (append-assoc a b c)

pub floors-append : (a b : List Entry) → floors_of (a ++ b) ≡ floors_of a ++ floors_of b
floors-append [] b = refl
floors-append (e ∷ a) b = ap (λ (l : List Floor). floor_told e.answer.reply ++ l) (floors-append a b) ∙ sym (append-assoc (floor_told e.answer.reply) (floors_of a) (floors_of b))

pub rows-append : (a b : List Entry) → rows_of (a ++ b) ≡ rows_of a ++ rows_of b
rows-append [] b = refl
rows-append (e ∷ a) b = ap (λ (l : List KeptRow). rows_of_entry e ++ l) (rows-append a b) ∙ sym (append-assoc (rows_of_entry e) (rows_of a) (rows_of b))

pub all-floors-append : (o : Opening) (a b : List Entry) → all_floors o (a ++ b) ≡ all_floors o a ++ floors_of b
all-floors-append o a b = ap (λ (l : List Floor). o.rows.floors ++ l) (floors-append a b) ∙ sym (append-assoc o.rows.floors (floors_of a) (floors_of b))

pub all-rows-append : (o : Opening) (a b : List Entry) → all_rows o (a ++ b) ≡ all_rows o a ++ rows_of b
all-rows-append o a b = ap (λ (l : List KeptRow). o.rows.replies ++ l) (rows-append a b) ∙ sym (append-assoc o.rows.replies (rows_of a) (rows_of b))

pick-floor : (b : Bool) (n m k : ℕ) → m ≤ k → cond b (max n m) m ≤ cond b (max n k) k
pick-floor true n m k le = omega (arith, le)
pick-floor false n m k le = le

-- more floors give no lower one
pub greatest-more : (job : List ℕ) (a b : List Floor) → greatest_floor job a ≤ greatest_floor job (a ++ b)
greatest-more job [] b = omega arith
greatest-more job (row ∷ a) b = pick-floor (is_floor_of job row) row.floor (greatest_floor job a) (greatest_floor job (a ++ b)) (greatest-more job a b)

pub floor-more : (o : Opening) (front more : List Entry) (job : List ℕ) → floor_of o front job ≤ floor_of o (front ++ more) job
floor-more o front more job =
    subst (λ (l : List Floor). floor_of o front job ≤ greatest_floor job l) (sym (all-floors-append o front more)) (greatest-more job (all_floors o front) (floors_of more))

find-more-at : {X : Type 0} (p : X → Bool) (x : X) (a b : List X) (found : X) (c : Bool) → p x ≡ c → (find p a ≡ Some found → find p (a ++ b) ≡ Some found) → find p (x ∷ a) ≡ Some found → find p (x ∷ (a ++ b)) ≡ Some found
find-more-at p x a b found true is rest there =
    let now : Some x ≡ Some found = rw is at there in rw is now
find-more-at p x a b found false is rest there =
    let now : find p a ≡ Some found = rw is at there in rw is (rest now)

pub find-more : {X : Type 0} (p : X → Bool) (a b : List X) (found : X) → find p a ≡ Some found → find p (a ++ b) ≡ Some found
find-more p [] b found there = absurd cc
find-more p (x ∷ a) b found there = find-more-at p x a b found _ refl (find-more p a b found) there

pub kept-more : (o : Opening) (front more : List Entry) (job : List ℕ) (number : ℕ) (row : KeptRow) → kept_for o front job number ≡ Some row → kept_for o (front ++ more) job number ≡ Some row
kept-more o front more job number row there =
    subst (λ (l : List KeptRow). find (is_reply_of job number) l ≡ Some row) (sym (all-rows-append o front more)) (find-more (is_reply_of job number) (all_rows o front) (rows_of more) row there)
