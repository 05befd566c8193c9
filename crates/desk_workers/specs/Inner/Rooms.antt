-- Room for the answers of workers.
use Rattle.std.specs.Prelude.{ℕ, ◌≡◌, ◌<◌, ◌≤◌, List, [], length, slice_index_or}
use Rattle.std.specs.VecDeque.{deque_capacity}
use Rattle.sms_keeper.specs.declared.keeper.Keeper.{Ghosts}
use Rattle.sms_desk.specs.declared.job_seat.JobSeat.{JobSeat}
use Rattle.desk_plan.specs.Sharing.{times}
use Rattle.desk_workers.specs.Inner.Merged.{SameLockSeats}

module _ {P : Type 0} {keeper : Ghosts P} where
  -- the seats are as they were, without answers, but for their room
  pub record AreKept (old new : List (JobSeat P keeper)) : Type 0 where
    pub count : length new ≡ length old
    pub same : SameLockSeats old new
    pub none : (k : ℕ) (d : JobSeat P keeper) → k < length old → (slice_index_or new k d).answers.items ≡ []

  -- each of the first so many seats has room for the answers that the plan gives it
  abbrev pub HaveRoom : List ℕ → ℕ → List (JobSeat P keeper) → Type 0
  HaveRoom plan count seats = (k : ℕ) (d : JobSeat P keeper) → k < count → k < length seats →
      times k plan ≤ deque_capacity (slice_index_or seats k d).answers
