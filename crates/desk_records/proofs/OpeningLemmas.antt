-- What is tied before the first entry.
use Rattle.std.proofs.Common.{◌≡◌, ℕ, ◌+◌, true, false, List, [], Option, None, Some, filter, refl, sym, ap, subst}
use Rattle.std.proofs.Common.{arith, append-nil}
use Rattle.std.specs.Prelude.{Bool, IfSome, nat_lt}
use Rattle.std.specs.List.{AllByRecursion}
use Rattle.sms_construct.specs.declared.target.Target.{Target}
use Rattle.sms_construct.specs.declared.target.Target.TheVariants as targets
use Rattle.sms_keeper.specs.declared.floor.Floor.{Floor}
use Rattle.sms_keeper.specs.declared.rows.Rows.{Rows}
use Rattle.sms_keeper.specs.Log.{LogView}
use Rattle.sms_keeper.specs.Tables.{AreSame, is_deck, no_rows}
use Rattle.desk_law.specs.State.{Opening, start_of}
use Rattle.desk_law.specs.Kept.{all_floors, all_rows, greatest_floor}
use Rattle.desk_law.specs.Records.{AreKept, IsTables, empty_opening, kept_rows}
use Rattle.desk_law.specs.Lawful.{IsLawfulOpening}
use Rattle.desk_law.specs.Volumes.{times_target}
use Rattle.desk_records.specs.Tied.{IsGoodRow, IsLogOf, IsSoundOpening, IsTied}
use Rattle.desk_records.proofs.TableLemmas.{tables-same}

none-kept : (b : Bool) → [] ≡ kept_rows b None
none-kept true = refl
none-kept false = refl

empty-kept : AreKept [] [] [] []
empty-kept = record { replies_are = λ job number. none-kept (nat_lt number 0); floors_are = λ job. refl }

no-status : (target : Target) → 0 ≡ times_target None target
no-status (targets.Group name) = refl
no-status (targets.Volume volser) = refl
no-status (targets.Set dsn) = refl

empty-lawful : IsLawfulOpening empty_opening
empty-lawful = record {
  sets = tt;
  once = λ volser track. omega arith;
  names = λ dsn. omega arith;
  statuses = λ target. no-status target;
  connected = tt;
  config = tt;
}

-- a desk may begin with nothing
pub empty-sound : IsSoundOpening empty_opening
empty-sound = record {
  lawful = empty-lawful;
  good = tt;
  kept = empty-kept;
  base_fits = omega arith;
  decks_fit = omega arith;
}

-- an empty log is that of no rows
empty-log : (log : LogView) → log.kept ≡ [] → log.floors ≡ [] → IsLogOf [] [] log
empty-log log kept floors = record { floors_are = λ job. rw floors refl; replies_are = λ job number above. rw kept refl }

opening-tables : (o : Opening) (told : Option Rows) → AreKept (all_floors o []) (all_rows o []) o.rows.replies o.rows.floors → IfSome told (λ rows. AreSame rows o.rows) → IfSome told (λ rows. IsTables o [] (start_of o) rows)
opening-tables o None kept same = tt
opening-tables o (Some rows) kept same = tables-same o [] (start_of o) o.rows rows same (record {
  sets_are = λ dsn. refl;
  kept_are = kept;
  decks_are = λ count. ap (filter (is_deck count)) (sym (append-nil o.rows.decks));
  statuses_are = λ target. refl;
})

-- a desk that goes on from sound rows, with their log and a keeper that tells them
pub tied-opened : (o : Opening) (log : LogView) (told : Option Rows) (count : ℕ) → IsSoundOpening o → IsLogOf o.rows.floors o.rows.replies log → IfSome told (λ rows. AreSame rows o.rows)
    → IsTied o [] (start_of o) log told count count
tied-opened o log told count sound is same =
    let floors : all_floors o [] ≡ o.rows.floors = append-nil o.rows.floors in
    let rows : all_rows o [] ≡ o.rows.replies = append-nil o.rows.replies in
    let base : o.base + 0 ≡ o.base = omega arith in
    record {
      sound = sound;
      reaches = refl;
      good = subst (λ (F : List Floor). AllByRecursion (IsGoodRow (λ job. greatest_floor job F) (o.base + 0)) (all_rows o [])) (sym floors) (rw (rows, base) sound.good);
      log_is = rw (floors, rows) is;
      tables = opening-tables o told (rw (floors, rows) sound.kept) same;
      counted = omega arith;
    }

-- a new desk, with an empty log and a keeper of empty tables
pub tied-new : (log : LogView) (told : Option Rows) (count : ℕ) → log.kept ≡ [] → log.floors ≡ [] → IfSome told (λ rows. AreSame rows no_rows)
    → IsTied empty_opening [] (start_of empty_opening) log told count count
tied-new log told count kept floors same = tied-opened empty_opening log told count empty-sound (empty-log log kept floors) same
