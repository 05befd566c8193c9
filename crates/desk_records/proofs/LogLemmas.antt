-- The log after a change, and what it says of a number.
use Rattle.std.proofs.Common.{◌≡◌, ◌≤◌, ℕ, Bool, true, false, cond, List, [], ◌∷◌, ◌++◌, Option, None, Some, find, refl}
use Rattle.std.proofs.Common.{sym, ap, ◌∙◌, arith, max, inl, inr, append-nil}
use Rattle.std.specs.Prelude.{◌&&◌, bytes_eq, nat_lt, option_map, if◌then◌else◌}
use Rattle.std.specs.Option.{option_or}
use Rattle.std.specs.List.{AllByRecursion}
use Rattle.std.proofs.lemmas.Bool.Decides.{nat_tests}
use Rattle.std.proofs.lemmas.List.Folds.{find-append}
use Rattle.sms_keeper.specs.declared.change.Change.{Change}
use Rattle.sms_keeper.specs.declared.effect.Effect.{Effect}
use Rattle.sms_keeper.specs.declared.effect.Effect.TheVariants as effects
use Rattle.sms_keeper.specs.declared.floor.Floor.{Floor}
use Rattle.sms_keeper.specs.declared.kept_row.KeptRow.{KeptRow}
use Rattle.sms_keeper.specs.declared.request_key.RequestKey.{RequestKey}
use Rattle.sms_keeper.specs.Log.{LogView, floor_in, is_open, kept_in, kept_with, key_of, same_key}
use Rattle.sms_keeper.specs.Tables.{is_reply_of, row_of}
use Rattle.desk_law.specs.Kept.{greatest_floor}
use Rattle.desk_law.proofs.ByteLemmas.{same-bytes}
use Rattle.desk_law.proofs.FloorLemmas.{greatest-more}
use Rattle.desk_records.specs.Effects.{floor_put}
use Rattle.desk_records.specs.Logged.{IsLogged, SameLog, floor_after, under_floors}
use Rattle.desk_records.specs.Tied.{IsLogOf, reply_of_row}
use Rattle.desk_records.proofs.KeyLemmas.{or-none, reply-key}
use Rattle.desk_records.proofs.GreatestLemmas.{greatest-one, greatest-same}
use Rattle.desk_records.proofs.KeptLemmas.{IsKnown, known-key}

-- logs that find the same are of the same floors and rows
pub log-same : (F : List Floor) (R : List KeptRow) (old new : LogView) → SameLog old new → IsLogOf F R old → IsLogOf F R new
log-same F R old new same is = record {
  floors_are = λ job. same.floors job ∙ is.floors_are job;
  replies_are = λ job number above. same.kept (record { job = job; number = number }) ∙ is.replies_are job number above;
}

-- Floors.

raised-at : (F : List Floor) (floors : List (List ℕ × ℕ)) (raised : List ℕ) (floor : ℕ) (job : List ℕ) (b : Bool) → bytes_eq raised job ≡ b → ((j : List ℕ) → floor_in j floors ≡ greatest_floor j F)
    → (if b then max floor (floor_in raised floors) else floor_in job floors) ≡ (if b then max floor (greatest_floor job F) else greatest_floor job F)
raised-at F floors raised floor job true is are = ap (λ n. max floor n) (are raised ∙ ap (λ j. greatest_floor j F) (same-bytes raised job is))
raised-at F floors raised floor job false is are = are job

floor-after : (F : List Floor) (floors : List (List ℕ × ℕ)) (effect : Effect) (job : List ℕ) → ((j : List ℕ) → floor_in j floors ≡ greatest_floor j F) → floor_after effect floors job ≡ greatest_floor job (F ++ floor_put effect)
floor-after F floors (effects.Floor raised floor) job are = raised-at F floors raised floor job (bytes_eq raised job) refl are ∙ sym (greatest-one F raised floor job)
floor-after F floors effects.Nothing job are = rw (append-nil F) (are job)
floor-after F floors (effects.PutSet set) job are = rw (append-nil F) (are job)
floor-after F floors (effects.DropSet dsn) job are = rw (append-nil F) (are job)
floor-after F floors (effects.Activated count statuses) job are = rw (append-nil F) (are job)
floor-after F floors (effects.SetStatus target status) job are = rw (append-nil F) (are job)

-- Replies.

above-less : (number a b : ℕ) → a ≤ b → nat_lt number b ≡ false → nat_lt number a ≡ false
above-less number a b less above = grind (arith, nat_tests, less, above)

-- the key of the change, under which nothing was kept
own-kept : (old : LogView) (floors : List (List ℕ × ℕ)) (change : Change) (key : RequestKey) → nat_lt change.request.number (floor_in change.request.job floors) ≡ false
    → kept_in (key_of change.request) old.kept ≡ None → same_key (key_of change.request) key ≡ true
    → kept_with (under_floors old floors) change.request change.place change.reply key ≡ Some (record { place = change.place; op = change.request.op; reply = change.reply })
own-kept old floors change key above none same = rw (above, none, same) refl

and-false : {X : Type 0} (a : Bool) (x y : X) → (if a && false then x else y) ≡ y
and-false true x y = refl
and-false false x y = refl

-- each other key
other-kept : (old : LogView) (floors : List (List ℕ × ℕ)) (change : Change) (key : RequestKey) → same_key (key_of change.request) key ≡ false
    → kept_with (under_floors old floors) change.request change.place change.reply key ≡ kept_in key old.kept
other-kept old floors change key other = rw other (and-false (is_open (under_floors old floors) change.request) _ _)

-- what is found where nothing was, with one row more
own-found : (R : List KeptRow) (row : KeptRow) (p : KeptRow → Bool) → p row ≡ true → find p R ≡ None → find p (R ++ row ∷ []) ≡ Some row
own-found R row p mine none = rw (find-append p R (row ∷ []), none, mine) refl

other-found : (R : List KeptRow) (row : KeptRow) (p : KeptRow → Bool) → p row ≡ false → find p (R ++ row ∷ []) ≡ find p R
other-found R row p other = rw (find-append p R (row ∷ []), other) (or-none (find p R))

replies-after : (F : List Floor) (R : List KeptRow) (old new : LogView) (change : Change) (G : List Floor) → IsLogOf F R old → find (is_reply_of change.request.job change.request.number) R ≡ None
    → ((job : List ℕ) → floor_in job new.floors ≡ greatest_floor job (F ++ G))
    → (job : List ℕ) (number : ℕ) (b : Bool) → is_reply_of job number (row_of change) ≡ b → nat_lt number (greatest_floor job (F ++ G)) ≡ false
    → kept_with (under_floors old new.floors) change.request change.place change.reply (record { job = job; number = number }) ≡ option_map reply_of_row (find (is_reply_of job number) (R ++ row_of change ∷ []))
replies-after F R old new change G is none floors job number true mine above =
    let key = reply-key (row_of change) job number mine in
    let mine_above : nat_lt change.request.number (greatest_floor change.request.job (F ++ G)) ≡ false = rw (key.0, key.1) above in
    let old_above = above-less change.request.number _ _ (greatest-more change.request.job F G) mine_above in
    let none_kept : kept_in (key_of change.request) old.kept ≡ None = is.replies_are change.request.job change.request.number old_above ∙ ap (option_map reply_of_row) none in
    let new_above : nat_lt change.request.number (floor_in change.request.job new.floors) ≡ false = rw (floors change.request.job) mine_above in
    let here : find (is_reply_of job number) R ≡ None = rw (key.0, key.1) at none in
    own-kept old new.floors change (record { job = job; number = number }) new_above none_kept mine ∙ sym (ap (option_map reply_of_row) (own-found R (row_of change) (is_reply_of job number) mine here))
replies-after F R old new change G is none floors job number false mine above =
    let old_above = above-less number _ _ (greatest-more job F G) above in
    other-kept old new.floors change (record { job = job; number = number }) mine ∙ is.replies_are job number old_above
    ∙ sym (ap (option_map reply_of_row) (other-found R (row_of change) (is_reply_of job number) mine))

-- the change was made in the log
pub log-fresh : (F : List Floor) (R : List KeptRow) (old new : LogView) (change : Change) → IsLogOf F R old → find (is_reply_of change.request.job change.request.number) R ≡ None → IsLogged change old new
    → IsLogOf (F ++ floor_put change.effect) (R ++ row_of change ∷ []) new
log-fresh F R old new change is none logged =
    let floors : (job : List ℕ) → floor_in job new.floors ≡ greatest_floor job (F ++ floor_put change.effect) = λ job. logged.floors_are job ∙ floor-after F old.floors change.effect job is.floors_are in
    record {
      floors_are = floors;
      replies_are = λ job number above.
          logged.replies_are (record { job = job; number = number })
          ∙ replies-after F R old new change (floor_put change.effect) is none floors job number (is_reply_of job number (row_of change)) refl above;
    }

quiet-found : (row : KeptRow) (found : Option KeptRow) (mine : Bool) → (mine ≡ true → (kept : KeptRow) × (found ≡ Some kept)) → option_or found (cond mine (Some row) None) ≡ found
quiet-found row found false known = or-none found
quiet-found row (Some x) true known = refl
quiet-found row None true known = absurd (let some = known refl in cc some.1)

known-found : (F : List Floor) (R : List KeptRow) (job : List ℕ) (number : ℕ) → nat_lt number (greatest_floor job F) ≡ false → IsKnown F R job number → (kept : KeptRow) × (find (is_reply_of job number) R ≡ Some kept)
known-found F R job number above (inl below) = absurd (let no : true ≡ false = sym below ∙ above in cc)
known-found F R job number above (inr found) = found

-- a row that is below the floor, or comes second, and floors that stand already
pub log-quiet : (F : List Floor) (R : List KeptRow) (log : LogView) (row : KeptRow) (G : List Floor) → IsLogOf F R log → AllByRecursion (λ (f : Floor). f.floor ≤ greatest_floor f.job F) G
    → IsKnown F R row.job row.number → IsLogOf (F ++ G) (R ++ row ∷ []) log
log-quiet F R log row G is stand known = record {
  floors_are = λ job. is.floors_are job ∙ sym (greatest-same job F G stand);
  replies_are = λ job number above.
      let p = is_reply_of job number in
      let old_above : nat_lt number (greatest_floor job F) ≡ false = rw (greatest-same job F G stand) at above in
      let same : find p (R ++ row ∷ []) ≡ find p R =
      find-append p R (row ∷ []) ∙ quiet-found row (find p R) (p row) (λ mine. known-found F R job number old_above (known-key F R row job number mine known)) in
      is.replies_are job number old_above ∙ sym (ap (option_map reply_of_row) same);
}
