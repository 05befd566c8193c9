-- What is kept after a change, as the tables have it.
use Rattle.std.proofs.Common.{◌≡◌, ◌≤◌, ℕ, Bool, true, false, cond, List, [], ◌∷◌, ◌++◌, Option, None, Some, filter}
use Rattle.std.proofs.Common.{find, refl, sym, ap, ◌∙◌, subst, arith, max, inl, inr, append-nil}
use Rattle.std.specs.Prelude.{not, ◌==◌, ◌&&◌, ◌⊎◌, bytes_eq, nat_lt, if◌then◌else◌}
use Rattle.std.specs.Option.{option_or}
use Rattle.std.specs.List.{AllByRecursion, list_any}
use Rattle.std.proofs.lemmas.Bool.Decides.{nat_tests}
use Rattle.std.proofs.lemmas.List.Elements.{filter-append}
use Rattle.std.proofs.lemmas.List.Folds.{find-append}
use Rattle.sms_keeper.specs.declared.effect.Effect.{Effect}
use Rattle.sms_keeper.specs.declared.effect.Effect.TheVariants as effects
use Rattle.sms_keeper.specs.declared.floor.Floor.{Floor}
use Rattle.sms_keeper.specs.declared.kept_row.KeptRow.{KeptRow}
use Rattle.sms_keeper.specs.Tables.{floors_with, is_below_floor, is_floor_of, is_reply_below, is_reply_of, keep_row}
use Rattle.sms_keeper.specs.Tables.{put_floor, replies_left}
use Rattle.desk_law.specs.Kept.{greatest_floor}
use Rattle.desk_law.specs.Records.{AreKept, floor_rows, kept_rows}
use Rattle.desk_law.proofs.ByteLemmas.{bytes-turned, same-bytes}
use Rattle.desk_records.specs.Effects.{Raises, floor_put}
use Rattle.desk_records.proofs.KeyLemmas.{filter-dropped, name-known, or-none, reply-key}
use Rattle.desk_records.proofs.GreatestLemmas.{below-any, greatest-one, greatest-rows, greatest-same}

-- the floor that the rows tell is the floor
pub kept-floor : (F : List Floor) (R kept : List KeptRow) (standing : List Floor) (job : List ℕ) → AreKept F R kept standing → greatest_floor job standing ≡ greatest_floor job F
kept-floor F R kept standing job are = greatest-rows job (greatest_floor job F) standing (are.floors_are job)

push-at : (p : KeptRow → Bool) (kept R : List KeptRow) (row : KeptRow) (mine below under : Bool) → p row ≡ mine → (mine ≡ true → find p R ≡ None) → (mine ≡ true → below ≡ under)
    → filter p kept ≡ kept_rows below (find p R)
    → filter p (if under then kept else kept ++ row ∷ []) ≡ kept_rows below (option_or (find p R) (cond mine (Some row) None))
push-at p kept R row false below true is new same rows = rw (or-none (find p R)) rows
push-at p kept R row false below false is new same rows = rw (filter-append p kept (row ∷ []), is, append-nil (filter p kept), or-none (find p R)) rows
push-at p kept R row true true true is new same rows = rows
push-at p kept R row true false false is new same rows =
    let none : find p R ≡ None = new refl in
    let empty : filter p kept ≡ [] = rw none at rows in
    rw (filter-append p kept (row ∷ []), is, empty, none) refl
push-at p kept R row true true false is new same rows = absurd (let no : true ≡ false = same refl in cc)
push-at p kept R row true false true is new same rows = absurd (let no : false ≡ true = same refl in cc)

row-new : (row : KeptRow) (R : List KeptRow) (job : List ℕ) (number : ℕ) → find (is_reply_of row.job row.number) R ≡ None → is_reply_of job number row ≡ true → find (is_reply_of job number) R ≡ None
row-new row R job number none is = let key = reply-key row job number is in rw (key.0, key.1) at none

row-below : (row : KeptRow) (floor : List ℕ → ℕ) (job : List ℕ) (number : ℕ) → is_reply_of job number row ≡ true → nat_lt number (floor job) ≡ nat_lt row.number (floor row.job)
row-below row floor job number is = let key = reply-key row job number is in rw (key.0, key.1) refl

-- a new row joins
pub kept-push : (F : List Floor) (R kept : List KeptRow) (standing : List Floor) (row : KeptRow) → AreKept F R kept standing → find (is_reply_of row.job row.number) R ≡ None
    → AreKept F (R ++ row ∷ []) (keep_row standing row kept) standing
kept-push F R kept standing row are none = record {
  replies_are = λ job number.
      let p = is_reply_of job number in
      let under : list_any (is_below_floor row.job row.number) standing ≡ nat_lt row.number (greatest_floor row.job F) =
      below-any row.job row.number standing ∙ ap (λ n. nat_lt row.number n) (kept-floor F R kept standing row.job are) in
      rw (find-append p R (row ∷ []), under) (push-at p kept R row (p row) (nat_lt number (greatest_floor job F)) (nat_lt row.number (greatest_floor row.job F)) refl
      (row-new row R job number none) (row-below row (λ j. greatest_floor j F) job number) (are.replies_are job number));
  floors_are = are.floors_are;
}

below-known : (row : KeptRow) (job : List ℕ) (number : ℕ) (raised : List ℕ) (floor : ℕ) → is_reply_of job number row ≡ true → is_reply_below raised floor row ≡ (bytes_eq job raised && nat_lt number floor)
below-known row job number raised floor is = let key = reply-key row job number is in rw (key.0, key.1) refl

-- names compare alike both ways
pub bytes-swap : (a b : List ℕ) → bytes_eq a b ≡ bytes_eq b a
bytes-swap a b = swap-at a b (bytes_eq a b) refl
  where
    swap-at : (a b : List ℕ) (c : Bool) → bytes_eq a b ≡ c → bytes_eq a b ≡ bytes_eq b a
    swap-at a b true is = let same : a ≡ b = same-bytes a b is in rw same refl
    swap-at a b false is = is ∙ sym (bytes-turned a b is)

raised-at : (b : Bool) (old floor : ℕ) → (b ≡ true → old ≤ floor) → (if b then max floor old else old) ≡ (if b then floor else old)
raised-at true old floor rises = let less : old ≤ floor = rises refl in omega (arith, less)
raised-at false old floor rises = refl

-- the floor of each job after one was raised
floor-raised : (F : List Floor) (raised : List ℕ) (floor : ℕ) (job : List ℕ) → greatest_floor raised F ≤ floor
    → greatest_floor job (F ++ record { job = raised; floor = floor } ∷ []) ≡ (if bytes_eq raised job then floor else greatest_floor job F)
floor-raised F raised floor job rises =
    greatest-one F raised floor job ∙ raised-at (bytes_eq raised job) (greatest_floor job F) floor (λ is. let e : raised ≡ job = same-bytes raised job is in rw e at rises)

raise-true : (number floor old : ℕ) (rows : List KeptRow) (found : Option KeptRow) (b : Bool) → nat_lt number floor ≡ b → old ≤ floor → rows ≡ kept_rows (nat_lt number old) found
    → (if b then [] else rows) ≡ kept_rows b found
raise-true number floor old rows found true is rises are = refl
raise-true number floor old rows found false is rises are =
    let above : nat_lt number old ≡ false = grind (arith, nat_tests) in
    rw above at are

raise-rows-at : (mine : Bool) (number floor old : ℕ) (rows : List KeptRow) (found : Option KeptRow) → (mine ≡ true → old ≤ floor) → rows ≡ kept_rows (nat_lt number old) found
    → (if mine && nat_lt number floor then [] else rows) ≡ kept_rows (nat_lt number (if mine then floor else old)) found
raise-rows-at false number floor old rows found rises are = are
raise-rows-at true number floor old rows found rises are = raise-true number floor old rows found (nat_lt number floor) refl (rises refl) are

raise-floors-at : (mine : Bool) (raised job : List ℕ) (floor old : ℕ) (rows : List Floor) → bytes_eq raised job ≡ mine → 1 ≤ floor → rows ≡ floor_rows job old
    → (if mine then [] else rows) ++ cond mine (record { job = raised; floor = floor } ∷ []) [] ≡ floor_rows job (if mine then floor else old)
raise-floors-at false raised job floor old rows is some are = append-nil rows ∙ are
raise-floors-at true raised job floor old rows is some are =
    let same : raised ≡ job = same-bytes raised job is in
    let not_zero : (floor == 0) ≡ false = grind (arith, nat_tests) in
    rw (same, not_zero) refl

-- a floor rises
pub kept-raise : (F : List Floor) (R kept : List KeptRow) (standing : List Floor) (raised : List ℕ) (floor : ℕ) → AreKept F R kept standing → greatest_floor raised F ≤ floor → 1 ≤ floor
    → AreKept (F ++ record { job = raised; floor = floor } ∷ []) R (filter (λ row. not (is_reply_below raised floor row)) kept) (put_floor raised floor standing)
kept-raise F R kept standing raised floor are rises some = record {
  replies_are = λ job number.
      let p = is_reply_of job number in
      rw (
        floor-raised F raised floor job rises,
        filter-dropped p (is_reply_below raised floor) (bytes_eq job raised && nat_lt number floor) (λ row is. below-known row job number raised floor is) kept,
        bytes-swap job raised,
      )
      (raise-rows-at (bytes_eq raised job) number floor (greatest_floor job F) (filter p kept) (find p R) (λ is. let e : raised ≡ job = same-bytes raised job is in rw e at rises) (are.replies_are job number));
  floors_are = λ job.
      let p = is_floor_of job in
      rw (
        floor-raised F raised floor job rises,
        filter-append p (filter (λ f. not (is_floor_of raised f)) standing) (record { job = raised; floor = floor } ∷ []),
        filter-dropped p (is_floor_of raised) (bytes_eq job raised) (λ f is. name-known f.job job raised is) standing,
        bytes-swap job raised,
      )
      (raise-floors-at (bytes_eq raised job) raised job floor (greatest_floor job F) (filter p standing) refl some (are.floors_are job));
}

same-floors : (F : List Floor) (R kept : List KeptRow) (standing : List Floor) → AreKept F R kept standing → AreKept (F ++ []) R kept standing
same-floors F R kept standing are = subst (λ (G : List Floor). AreKept G R kept standing) (sym (append-nil F)) are

kept-effect : (F : List Floor) (R kept : List KeptRow) (standing : List Floor) (effect : Effect) → AreKept F R kept standing → Raises (λ job. greatest_floor job F) effect
    → AreKept (F ++ floor_put effect) R (replies_left effect kept) (floors_with effect standing)
kept-effect F R kept standing (effects.Floor job floor) are raises = kept-raise F R kept standing job floor are raises.0 raises.1
kept-effect F R kept standing effects.Nothing are raises = same-floors F R kept standing are
kept-effect F R kept standing (effects.PutSet set) are raises = same-floors F R kept standing are
kept-effect F R kept standing (effects.DropSet dsn) are raises = same-floors F R kept standing are
kept-effect F R kept standing (effects.Activated count statuses) are raises = same-floors F R kept standing are
kept-effect F R kept standing (effects.SetStatus target status) are raises = same-floors F R kept standing are

-- the effect of a fresh request is made, and its reply kept
pub kept-with : (F : List Floor) (R kept : List KeptRow) (standing : List Floor) (effect : Effect) (row : KeptRow) → AreKept F R kept standing → Raises (λ job. greatest_floor job F) effect
    → find (is_reply_of row.job row.number) R ≡ None
    → AreKept (F ++ floor_put effect) (R ++ row ∷ []) (keep_row (floors_with effect standing) row (replies_left effect kept)) (floors_with effect standing)
kept-with F R kept standing effect row are raises none = kept-push _ R _ _ row (kept-effect F R kept standing effect are raises) none

-- why a number is no fresh one: it is below its floor, or has a row
abbrev pub IsKnown : List Floor → List KeptRow → List ℕ → ℕ → Type 0
IsKnown F R job number = (nat_lt number (greatest_floor job F) ≡ true) ⊎ ((kept : KeptRow) × (find (is_reply_of job number) R ≡ Some kept))

pub known-key : (F : List Floor) (R : List KeptRow) (row : KeptRow) (job : List ℕ) (number : ℕ) → is_reply_of job number row ≡ true → IsKnown F R row.job row.number → IsKnown F R job number
known-key F R row job number is known = let key = reply-key row job number is in rw (key.0, key.1) at known

quiet-at : (rows : List KeptRow) (row : KeptRow) (found : Option KeptRow) (mine below : Bool) → (mine ≡ true → (below ≡ true) ⊎ ((kept : KeptRow) × (found ≡ Some kept)))
    → rows ≡ kept_rows below found → rows ≡ kept_rows below (option_or found (cond mine (Some row) None))
quiet-at rows row found false below known are = rw (or-none found) are
quiet-at rows row found true true known are = are
quiet-at rows row (Some x) true false known are = are
quiet-at rows row None true false known are = absurd (elim (known refl) [ inl wrong ↦ cc wrong | inr some ↦ cc some.1 ])

-- a row that is below the floor, or comes second, keeps nothing
pub kept-quiet : (F : List Floor) (R kept : List KeptRow) (standing : List Floor) (row : KeptRow) (G : List Floor) → AreKept F R kept standing
    → AllByRecursion (λ (f : Floor). f.floor ≤ greatest_floor f.job F) G → IsKnown F R row.job row.number → AreKept (F ++ G) (R ++ row ∷ []) kept standing
kept-quiet F R kept standing row G are stand known = record {
  replies_are = λ job number.
      let p = is_reply_of job number in
      rw (greatest-same job F G stand, find-append p R (row ∷ []))
      (quiet-at (filter p kept) row (find p R) (p row) (nat_lt number (greatest_floor job F)) (λ is. known-key F R row job number is known) (are.replies_are job number));
  floors_are = λ job. rw (greatest-same job F G stand) (are.floors_are job);
}
