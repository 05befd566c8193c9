-- What the workers of a desk have done in a phase.
use Rattle.std.specs.Prelude.{ℕ, ◌≡◌, ◌<◌, List, [], ◌++◌, length, slice_index_or}
use Rattle.atomic_table.specs.Seated.{TableId}
use Rattle.sms_construct.specs.declared.entry.Answer.{Answer}
use Rattle.sms_keeper.specs.declared.keeper.Keeper.{Ghosts}
use Rattle.sms_script.specs.declared.item.Item.{Item}
use Rattle.turn_lock.specs.Views.{StartsWith}
use Rattle.desk_signing.specs.Signing.{entries_in, events}
use Rattle.sms_desk.specs.declared.job_seat.JobSeat.{JobSeat}
use Rattle.sms_desk.specs.Seats.{IsJobOf, job_mine, job_number, job_seen}
use Rattle.desk_plan.specs.Sharing.{those}
use Rattle.desk_workers.specs.Phases.{AreDueIn, entries_for}

module _ {P : Type 0} {keeper : Ghosts P} where
  -- the seat is one of the desk, has made nothing and has no answers
  pub record IsIdle (lock : TableId) (j : JobSeat P keeper) : Type 0 where
    pub job : IsJobOf lock j
    pub mine : job_mine j ≡ []
    pub answers : j.answers.items ≡ []

  -- from one seat to the other it made the entries of these answers to these items, and nothing else
  pub record HasMade (lock : TableId) (answers : List Answer) (items : List Item)
      (old new : JobSeat P keeper) : Type 0 where
    pub job : IsJobOf lock new
    pub number : job_number new ≡ job_number old
    pub seen_more : StartsWith (job_seen new) (job_seen old)
    pub mine : job_mine new ≡ events (entries_for answers items)
    pub due : AreDueIn (entries_in (job_seen new)) answers items

  -- the answers to all items stand behind the others, and each seat made the entries of its own, and nothing else
  pub record HasShared (lock : TableId) (plan : List ℕ) (items : List Item) (old new : List (JobSeat P keeper))
      (before after : List Answer) : Type 0 where
    pub answers : List Answer
    pub behind : after ≡ before ++ answers
    pub each : length answers ≡ length items
    pub count : length new ≡ length old
    pub made : (k : ℕ) (d : JobSeat P keeper) → k < length old →
        HasMade lock (those k plan answers) (those k plan items) (slice_index_or old k d) (slice_index_or new k d)
