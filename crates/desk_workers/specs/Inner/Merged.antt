-- Answers that are put back in order.
use Rattle.std.specs.Prelude.{ℕ, ◌≡◌, ◌<◌, List, ◌++◌, length, slice_index_or, take}
use Rattle.sms_construct.specs.declared.entry.Answer.{Answer}
use Rattle.sms_keeper.specs.declared.keeper.Keeper.{Ghosts}
use Rattle.sms_desk.specs.declared.job_seat.JobSeat.{JobSeat}
use Rattle.desk_plan.specs.Sharing.{those, times}

module _ {P : Type 0} {keeper : Ghosts P} where
  -- each seat has as many answers as the plan gives it
  abbrev pub AreQueues : List ℕ → List (JobSeat P keeper) → Type 0
  AreQueues plan seats =
      (k : ℕ) (d : JobSeat P keeper) → k < length seats → length (slice_index_or seats k d).answers.items ≡ times k plan

  -- the lock's seat in it is the same
  abbrev pub SameLockSeats : List (JobSeat P keeper) → List (JobSeat P keeper) → Type 0
  SameLockSeats old new = (k : ℕ) (d : JobSeat P keeper) → k < length old →
      ((slice_index_or new k d).seat ≡ (slice_index_or old k d).seat) ×
      ((slice_index_or new k d).held ≡ (slice_index_or old k d).held)

  -- the answers up to a place of the plan stand behind the others, and each seat has the rest of its own
  pub record MergesFront (plan : List ℕ) (i : ℕ) (old new : List (JobSeat P keeper))
      (before after : List Answer) : Type 0 where
    pub merged : List Answer
    pub behind : after ≡ before ++ merged
    pub each : length merged ≡ i
    pub theirs : (k : ℕ) (d : JobSeat P keeper) → k < length old →
        (slice_index_or old k d).answers.items ≡ those k (take i plan) merged ++ (slice_index_or new k d).answers.items
    pub count : length new ≡ length old
    pub same : SameLockSeats old new

  -- the answers of the seats stand behind the others, in the order of the plan
  pub record HasMerged (plan : List ℕ) (old new : List (JobSeat P keeper)) (before after : List Answer) : Type 0 where
    pub merged : List Answer
    pub behind : after ≡ before ++ merged
    pub each : length merged ≡ length plan
    pub theirs : (k : ℕ) (d : JobSeat P keeper) → k < length old →
        those k plan merged ≡ (slice_index_or old k d).answers.items
    pub count : length new ≡ length old
    pub same : SameLockSeats old new
