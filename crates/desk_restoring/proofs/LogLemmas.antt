-- A log that gets floors and replies one by one.
use Rattle.std.proofs.Common.{◌≡◌, ◌<◌, ℕ, ◌+◌, Bool, true, false, List, [], ◌∷◌, ◌++◌, Option, None, Some, find}
use Rattle.std.proofs.Common.{length, get_or, take, drop, refl, sym, ap, ◌∙◌, subst, max}
use Rattle.std.specs.Prelude.{◌&&◌, bytes_eq, nat_lt, option_map, if◌then◌else◌}
use Rattle.std.specs.Option.{option_or}
use Rattle.std.proofs.lemmas.List.{drop_more}
use Rattle.std.proofs.lemmas.List.Folds.{find-append}
use Rattle.sms_construct.specs.declared.request.Request.{Request}
use Rattle.sms_keeper.specs.declared.floor.Floor.{Floor}
use Rattle.sms_keeper.specs.declared.kept_row.KeptRow.{KeptRow}
use Rattle.sms_keeper.specs.declared.request_key.RequestKey.{RequestKey}
use Rattle.sms_keeper.specs.Log.{LogView, floor_in, floor_with, is_open, kept_in, kept_with, same_key}
use Rattle.sms_keeper.specs.Tables.{is_reply_of}
use Rattle.desk_law.specs.Kept.{greatest_floor}
use Rattle.desk_law.proofs.ByteLemmas.{same-bytes}
use Rattle.desk_law.proofs.PlacedRowLemmas.{own-key}
use Rattle.desk_records.specs.Logged.{SameLog}
use Rattle.desk_records.specs.Tied.{IsLogOf, reply_of_row}
use Rattle.desk_records.proofs.GreatestLemmas.{greatest-one}
use Rattle.desk_records.proofs.KeyLemmas.{or-none, reply-key}
use Rattle.desk_records.proofs.LogLemmas.{log-same}
use Rattle.desk_restoring.specs.Opened.{greatest_place}
use Rattle.desk_restoring.proofs.ListLemmas.{take-next}

-- Floors.

raised-at : (F : List Floor) (floors : List (List ℕ × ℕ)) (raised : List ℕ) (floor : ℕ) (job : List ℕ) (b : Bool) → bytes_eq raised job ≡ b → ((j : List ℕ) → floor_in j floors ≡ greatest_floor j F)
    → (if b then max floor (floor_in raised floors) else floor_in job floors) ≡ (if b then max floor (greatest_floor job F) else greatest_floor job F)
raised-at F floors raised floor job true is are = ap (λ (n : ℕ). max floor n) (are raised ∙ ap (λ (j : List ℕ). greatest_floor j F) (same-bytes raised job is))
raised-at F floors raised floor job false is are = are job

pub floors-next : (F : List Floor) (i : ℕ) (row : Floor) (floors : List (List ℕ × ℕ)) (job : List ℕ) → i < length F → row ≡ get_or F i row → ((j : List ℕ) → floor_in j floors ≡ greatest_floor j (take i F))
    → floor_with floors row.job row.floor job ≡ greatest_floor job (take (i + 1) F)
floors-next F i row floors job lt read are =
    raised-at (take i F) floors row.job row.floor job (bytes_eq row.job job) refl are ∙ (sym (greatest-one (take i F) row.job row.floor job) ∙ sym (ap (greatest_floor job) (take-next F i row lt read)))

-- Replies.

-- the request of a row, under its key
abbrev pub request_of : KeptRow → Request
request_of row = record { job = row.job; number = row.number; op = row.request.op }

-- the key of a row
abbrev key_of_row : KeptRow → RequestKey
key_of_row row = record { job = row.job; number = row.number }

own-next-at : (R : List KeptRow) (log : LogView) (row : KeptRow) (found : Option KeptRow) → find (is_reply_of row.job row.number) R ≡ found → nat_lt row.number (floor_in row.job log.floors) ≡ false
    → kept_in (key_of_row row) log.kept ≡ option_map reply_of_row found
    → kept_with log (request_of row) row.place row.reply (key_of_row row) ≡ option_map reply_of_row (option_or found (find (is_reply_of row.job row.number) (row ∷ [])))
own-next-at R log row None is above kept =
    let own : same_key (key_of_row row) (key_of_row row) ≡ true = own-key row in rw (above, kept, own) refl
own-next-at R log row (Some other) is above kept = rw (above, kept) refl

own-next : (F : List Floor) (R : List KeptRow) (log : LogView) (row : KeptRow) → IsLogOf F R log → nat_lt row.number (greatest_floor row.job F) ≡ false
    → kept_with log (request_of row) row.place row.reply (key_of_row row) ≡ option_map reply_of_row (find (is_reply_of row.job row.number) (R ++ row ∷ []))
own-next F R log row is above =
    let p = is_reply_of row.job row.number in
    let test : nat_lt row.number (floor_in row.job log.floors) ≡ false = ap (nat_lt row.number) (is.floors_are row.job) ∙ above in
    own-next-at R log row (find p R) refl test (is.replies_are row.job row.number above) ∙ sym (ap (option_map reply_of_row) (find-append p R (row ∷ [])))

and-false : {X : Type 0} (a : Bool) (x y : X) → (if a && false then x else y) ≡ y
and-false true x y = refl
and-false false x y = refl

other-next : (F : List Floor) (R : List KeptRow) (log : LogView) (row : KeptRow) (job : List ℕ) (number : ℕ) → IsLogOf F R log → is_reply_of job number row ≡ false → nat_lt number (greatest_floor job F) ≡ false
    → kept_with log (request_of row) row.place row.reply (record { job = job; number = number }) ≡ option_map reply_of_row (find (is_reply_of job number) (R ++ row ∷ []))
other-next F R log row job number is other above =
    let p = is_reply_of job number in
    let stays : kept_with log (request_of row) row.place row.reply (record { job = job; number = number }) ≡ kept_in (record { job = job; number = number }) log.kept =
    rw other (and-false (is_open log (request_of row)) _ _) in
    let same : find p (R ++ row ∷ []) ≡ find p R = rw (find-append p R (row ∷ []), other) (or-none (find p R)) in
    stays ∙ (is.replies_are job number above ∙ sym (ap (option_map reply_of_row) same))

kept-next : (F : List Floor) (R : List KeptRow) (log : LogView) (row : KeptRow) (job : List ℕ) (number : ℕ) (b : Bool) → is_reply_of job number row ≡ b → IsLogOf F R log → nat_lt number (greatest_floor job F) ≡ false
    → kept_with log (request_of row) row.place row.reply (record { job = job; number = number }) ≡ option_map reply_of_row (find (is_reply_of job number) (R ++ row ∷ []))
kept-next F R log row job number true mine is above =
    let key = reply-key row job number mine in
    let own_above : nat_lt row.number (greatest_floor row.job F) ≡ false = rw (key.0, key.1) above in
    let Stands : List ℕ → ℕ → Type 0 = λ (k : List ℕ) (n : ℕ).
    kept_with log (request_of row) row.place row.reply (record { job = k; number = n }) ≡ option_map reply_of_row (find (is_reply_of k n) (R ++ row ∷ [])) in
    subst (λ (k : List ℕ). Stands k number) key.0 (subst (λ (n : ℕ). Stands row.job n) key.1 (own-next F R log row is own_above))
kept-next F R log row job number false other is above = other-next F R log row job number is other above

pub log-next : (F : List Floor) (R : List KeptRow) (i : ℕ) (row : KeptRow) (old more new : LogView) → i < length R → row ≡ get_or R i row → IsLogOf F (take i R) old → SameLog old more
    → ((key : RequestKey) → kept_in key new.kept ≡ kept_with more (request_of row) row.place row.reply key) → new.floors ≡ more.floors → IsLogOf F (take (i + 1) R) new
log-next F R i row old more new lt read is same kept floors =
    let before : IsLogOf F (take i R) more = log-same F (take i R) old more same is in
    subst (λ (l : List KeptRow). IsLogOf F l new) (sym (take-next R i row lt read)) (record {
      floors_are = λ job. ap (floor_in job) floors ∙ before.floors_are job;
      replies_are = λ job number above. kept (record { job = job; number = number }) ∙ kept-next F (take i R) more row job number (is_reply_of job number row) refl before above;
    })

-- Places.

pub places-next : (rows : List KeptRow) (i : ℕ) (row : KeptRow) → i < length rows → row ≡ get_or rows i row → greatest_place (drop i rows) ≡ max row.place (greatest_place (drop (i + 1) rows))
places-next rows i row lt read = ap greatest_place (drop_more rows i row lt ∙ ap (λ (y : KeptRow). y ∷ drop (i + 1) rows) (sym read))
