-- What a worker has done.
use Rattle.std.specs.Prelude.{ℕ, ◌≡◌, ◌≤◌, List, [], ◌∷◌, ◌++◌, length}
use Rattle.std.specs.VecDeque.{deque_capacity}
use Rattle.atomic_table.specs.Seated.{TableId}
use Rattle.sms_construct.specs.declared.entry.Answer.{Answer}
use Rattle.sms_keeper.specs.declared.keeper.Keeper.{Ghosts}
use Rattle.sms_script.specs.declared.item.Item.{Item}
use Rattle.turn_lock.specs.Views.{StartsWith}
use Rattle.desk_signing.specs.Signing.{entries_in, events}
use Rattle.sms_desk.specs.declared.job_seat.JobSeat.{JobSeat}
use Rattle.sms_desk.specs.Seats.{IsJobOf, job_mine, job_number, job_seen}
use Rattle.desk_plan.specs.Sharing.{those, times}
use Rattle.desk_workers.specs.Phases.{AreDueIn, IsDueIn, entries_for, entry_for}

module _ {P : Type 0} {keeper : Ghosts P} where
  -- the seat answered one item
  pub record HasAnswered (lock : TableId) (item : Item) (old new : JobSeat P keeper) : Type 0 where
    pub answer : Answer
    pub answers : new.answers.items ≡ old.answers.items ++ answer ∷ []
    pub capacity : deque_capacity new.answers ≡ deque_capacity old.answers
    pub job : IsJobOf lock new
    pub number : job_number new ≡ job_number old
    pub seen_more : StartsWith (job_seen new) (job_seen old)
    pub mine : job_mine new ≡ job_mine old ++ events (entry_for item answer)
    pub due : IsDueIn (entries_in (job_seen new)) item.request answer

  -- the seat answered the items that the plan gives it
  pub record HasWorked (lock : TableId) (me : ℕ) (plan : List ℕ) (items : List Item)
      (old new : JobSeat P keeper) : Type 0 where
    pub job : IsJobOf lock new
    pub number : job_number new ≡ job_number old
    pub capacity : deque_capacity new.answers ≡ deque_capacity old.answers
    pub seen_more : StartsWith (job_seen new) (job_seen old)
    pub each : length new.answers.items ≡ times me plan
    pub mine : job_mine new ≡ events (entries_for new.answers.items (those me plan items))
    pub due : AreDueIn (entries_in (job_seen new)) new.answers.items (those me plan items)

  -- the seat has made nothing yet, and has room for the answers that the plan gives it
  pub record IsReady (lock : TableId) (me : ℕ) (plan : List ℕ) (j : JobSeat P keeper) : Type 0 where
    pub job : IsJobOf lock j
    pub mine : job_mine j ≡ []
    pub answers : j.answers.items ≡ []
    pub room : times me plan ≤ deque_capacity j.answers
