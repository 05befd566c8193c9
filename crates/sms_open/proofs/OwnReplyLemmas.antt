-- The replies and floors that a history keeps: each reply stands above its job's floor, and tells no floor that is too
-- great.
use Rattle.std.proofs.Common.{◌≡◌, ◌≤◌, ℕ, Bool, true, false, List, [], ◌∷◌, ◌++◌, Option, None, Some, filter, find}
use Rattle.std.proofs.Common.{length, max, refl, sym, ap, subst, arith}
use Rattle.std.specs.Prelude.{◌==◌, if◌then◌else◌, nat_lt}
use Rattle.std.specs.List.{AllByRecursion}
use Rattle.std.proofs.lemmas.Bool.Decides.{nat_tests}
use Rattle.sms_construct.specs.declared.entry.Entry.{Entry}
use Rattle.sms_keeper.specs.declared.floor.Floor.{Floor}
use Rattle.sms_keeper.specs.declared.kept_row.KeptRow.{KeptRow}
use Rattle.sms_keeper.specs.Tables.{is_floor_of, is_reply_of}
use Rattle.desk_law.specs.Kept.{all_floors, all_rows, floor_told, floors_of, greatest_floor, is_fault, row_of_entry}
use Rattle.desk_law.specs.Kept.{rows_of, rows_of_entry}
use Rattle.desk_law.specs.KeptRows.{AreKeptRows, IsKeptRow}
use Rattle.desk_law.specs.Records.{AreKept, floor_rows, kept_rows}
use Rattle.desk_law.specs.State.{Opening}
use Rattle.desk_law.proofs.ByteLemmas.{bytes-self}
use Rattle.desk_law.proofs.FloorLemmas.{append-assoc, greatest-more}
use Rattle.desk_law.proofs.PlaceLemmas.{each-both, find-each}
use Rattle.desk_law.proofs.PlacedRowLemmas.{own-key}
use Rattle.desk_law.proofs.RowLemmas.{found-passes}
use Rattle.desk_law.proofs.SetLemmas.{each-append}
use Rattle.desk_records.proofs.GreatestLemmas.{greatest-append}
use Rattle.desk_records.proofs.KeptLemmas.{kept-floor}
use Rattle.desk_records.proofs.KeyLemmas.{reply-key}
use Rattle.desk_records.proofs.TiedLemmas.{each-weaker}
use Rattle.sms_open.specs.Tests.{AreSoundReplies, IsSoundReply, most_place, times_floor, times_kept}
use Rattle.sms_open.proofs.EachLemmas.{counted-length, each-keyed}

-- Floors that replies tell.

-- a floor that the reply tells isn't above that of the job that it names
abbrev TellsLow : List Floor → KeptRow → Type 0
TellsLow floors row = AllByRecursion (λ (told : Floor). told.floor ≤ greatest_floor told.job floors) (floor_told row.reply)

low-more : (floors more : List Floor) (row : KeptRow) → TellsLow floors row → TellsLow (floors ++ more) row
low-more floors more row low =
    each-weaker (λ (told : Floor). told.floor ≤ greatest_floor told.job floors) (λ (told : Floor). told.floor ≤ greatest_floor told.job (floors ++ more))
    (λ told below. omega (arith, below, greatest-more told.job floors more)) (floor_told row.reply) low

-- floors are at most the greatest among more
each-among : (front floors rest : List Floor) → AllByRecursion (λ (told : Floor). told.floor ≤ greatest_floor told.job (front ++ (floors ++ rest))) floors
each-among front [] rest = tt
each-among front (f ∷ floors) rest =
    let own : greatest_floor f.job (f ∷ (floors ++ rest)) ≡ max f.floor (greatest_floor f.job (floors ++ rest)) = rw (bytes-self f.job) refl in (
      omega (arith, own, greatest-append f.job front (f ∷ (floors ++ rest))),
      subst (λ (all : List Floor). AllByRecursion (λ (told : Floor). told.floor ≤ greatest_floor told.job all) floors) (append-assoc front (f ∷ []) (floors ++ rest)) (each-among (front ++ f ∷ []) floors rest),
    )

one-low : (floors : List Floor) (e : Entry) (b : Bool) → TellsLow floors (row_of_entry e) → AllByRecursion (TellsLow floors) (if b then [] else row_of_entry e ∷ [])
one-low floors e true low = tt
one-low floors e false low = (low, tt)

entries-low : (front : List Floor) (h : List Entry) → AllByRecursion (TellsLow (front ++ floors_of h)) (rows_of h)
entries-low front [] = tt
entries-low front (e ∷ h) =
    let floors = front ++ (floor_told e.answer.reply ++ floors_of h) in
    each-append (TellsLow floors) (rows_of_entry e) (rows_of h)
    (one-low floors e (is_fault e.answer.reply) (each-among front (floor_told e.answer.reply) (floors_of h)))
    (subst (λ (all : List Floor). AllByRecursion (TellsLow all) (rows_of h)) (append-assoc front (floor_told e.answer.reply) (floors_of h)) (entries-low (front ++ floor_told e.answer.reply) h))

-- all replies of an opening and a history tell low floors
pub all-low : (o : Opening) (h : List Entry) → AllByRecursion (IsSoundReply o.rows.floors) o.rows.replies → AllByRecursion (TellsLow (all_floors o h)) (all_rows o h)
all-low o h sound =
    each-append (TellsLow (all_floors o h)) o.rows.replies (rows_of h)
    (each-weaker (IsSoundReply o.rows.floors) (TellsLow (all_floors o h)) (λ row is. low-more o.rows.floors (floors_of h) row is.told) o.rows.replies sound)
    (entries-low o.rows.floors h)

-- Replies that are kept.

-- the reply's number isn't below its job's floor, and it tells a low floor
abbrev StandsOver : List Floor → KeptRow → Type 0
StandsOver floors row = (greatest_floor row.job floors ≤ row.number) × TellsLow floors row

not-below : (n m : ℕ) → nat_lt n m ≡ false → m ≤ n
not-below n m is = grind (arith, nat_tests, is)

found-over : (floors : List Floor) (rows : List KeptRow) (job : List ℕ) (number : ℕ) (below : Bool) (found : Option KeptRow) → nat_lt number (greatest_floor job floors) ≡ below
    → find (is_reply_of job number) rows ≡ found → AllByRecursion (TellsLow floors) rows → AllByRecursion (StandsOver floors) (kept_rows below found)
found-over floors rows job number true found above is low = tt
found-over floors rows job number false None above is low = tt
found-over floors rows job number false (Some row) above is low =
    let key = reply-key row job number (found-passes (is_reply_of job number) rows row is) in
    let over : greatest_floor row.job floors ≤ row.number = rw (key.0, key.1) (not-below number (greatest_floor job floors) above) in
    ((over, find-each (TellsLow floors) (is_reply_of job number) rows row low is), tt)

each-over : (floors : List Floor) (rows kept : List KeptRow) (standing : List Floor) → AreKept floors rows kept standing → AllByRecursion (TellsLow floors) rows → AllByRecursion (StandsOver floors) kept
each-over floors rows kept standing are low =
    each-keyed (StandsOver floors) (λ (row : KeptRow). is_reply_of row.job row.number) kept own-key
    (λ row. subst (AllByRecursion (StandsOver floors)) (sym (are.replies_are row.job row.number)) (found-over floors rows row.job row.number _ _ refl refl low))

-- Floors that stand.

some-floor : (job : List ℕ) (n : ℕ) (b : Bool) → (n == 0) ≡ b → AllByRecursion (λ (floor : Floor). 1 ≤ floor.floor) (if b then [] else record { job = job; floor = n } ∷ [])
some-floor job n true is = tt
some-floor job n false is = (grind (arith, nat_tests, is), tt)

each-stands : (floors : List Floor) (rows kept : List KeptRow) (standing : List Floor) → AreKept floors rows kept standing → AllByRecursion (λ (floor : Floor). 1 ≤ floor.floor) standing
each-stands floors rows kept standing are =
    each-keyed (λ (floor : Floor). 1 ≤ floor.floor) (λ (floor : Floor). is_floor_of floor.job) standing (λ floor. bytes-self floor.job)
    (λ floor. subst (AllByRecursion (λ (one : Floor). 1 ≤ one.floor)) (sym (are.floors_are floor.job)) (some-floor floor.job (greatest_floor floor.job floors) _ refl))

-- What stands once.

few-rows : (below : Bool) (found : Option KeptRow) → length (kept_rows below found) ≤ 1
few-rows true found = omega arith
few-rows false None = omega arith
few-rows false (Some row) = omega arith

pub once-kept : (floors : List Floor) (rows kept : List KeptRow) (standing : List Floor) (job : List ℕ) (number : ℕ) → AreKept floors rows kept standing → times_kept job number kept ≤ 1
once-kept floors rows kept standing job number are =
    let count : times_kept job number kept ≡ length (filter (is_reply_of job number) kept) = counted-length (is_reply_of job number) (times_kept job number) refl (λ row more. refl) kept in
    let long : length (filter (is_reply_of job number) kept) ≡ length (kept_rows (nat_lt number (greatest_floor job floors)) (find (is_reply_of job number) rows)) = ap length (are.replies_are job number) in
    omega (arith, count, long, few-rows (nat_lt number (greatest_floor job floors)) (find (is_reply_of job number) rows))

few-floors : (job : List ℕ) (n : ℕ) (b : Bool) → (n == 0) ≡ b → length (floor_rows job n) ≤ 1
few-floors job n true is = rw is (omega arith)
few-floors job n false is = rw is (omega arith)

pub once-floor : (floors : List Floor) (rows kept : List KeptRow) (standing : List Floor) (job : List ℕ) → AreKept floors rows kept standing → times_floor job standing ≤ 1
once-floor floors rows kept standing job are =
    let count : times_floor job standing ≡ length (filter (is_floor_of job) standing) = counted-length (is_floor_of job) (times_floor job) refl (λ floor more. refl) standing in
    let long : length (filter (is_floor_of job) standing) ≡ length (floor_rows job (greatest_floor job floors)) = ap length (are.floors_are job) in
    omega (arith, count, long, few-floors job (greatest_floor job floors) _ refl)

-- The sixth test.

sound-row : (last : ℕ) (floors standing : List Floor) (row : KeptRow) → ((job : List ℕ) → greatest_floor job standing ≡ greatest_floor job floors) → row.place ≤ most_place → IsKeptRow last row → StandsOver floors row
    → IsSoundReply standing row
sound-row last floors standing row same few kept over = record {
  kept = record { fate = kept.fate; job = kept.job; number = kept.number; some = kept.some; within = few };
  above = (let high = over.0 in omega (arith, same row.job, high));
  told = each-weaker (λ (told : Floor). told.floor ≤ greatest_floor told.job floors) (λ (told : Floor). told.floor ≤ greatest_floor told.job standing)
      (λ told low. omega (arith, low, same told.job)) (floor_told row.reply) over.1;
}

-- replies that are kept ones of a history whose replies tell low floors, at places that aren't over the greatest
pub sound-replies : (last : ℕ) (floors : List Floor) (rows kept : List KeptRow) (standing : List Floor) → AreKept floors rows kept standing → AllByRecursion (TellsLow floors) rows → AreKeptRows last kept
    → AllByRecursion (λ (row : KeptRow). row.place ≤ most_place) kept → AreSoundReplies kept standing
sound-replies last floors rows kept standing are low are_kept few =
    let same : (job : List ℕ) → greatest_floor job standing ≡ greatest_floor job floors = λ job. kept-floor floors rows kept standing job are in record {
      each = each-both (λ (row : KeptRow). row.place ≤ most_place) (λ (row : KeptRow). IsKeptRow last row × StandsOver floors row) (IsSoundReply standing) kept
          (λ row place both. sound-row last floors standing row same place both.0 both.1) few
          (each-both (IsKeptRow last) (StandsOver floors) (λ (row : KeptRow). IsKeptRow last row × StandsOver floors row) kept (λ row one other. (one, other)) are_kept.each (each-over floors rows kept standing are low));
      apart = are_kept.apart;
      floors_stand = each-stands floors rows kept standing are;
    }
