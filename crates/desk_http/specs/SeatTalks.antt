-- What a clerk of a seat has entered.
use Rattle.std.specs.Prelude.{◌≡◌, ℕ, List, ◌++◌, All}
use Rattle.atomic_table.specs.Seated.{TableId}
use Rattle.sms_keeper.specs.declared.keeper.Keeper.{Ghosts}
use Rattle.turn_lock.specs.declared.signed.Signed.{Signed}
use Rattle.turn_lock.specs.Views.{StartsWith}
use Rattle.desk_signing.specs.declared.event.Event.{Event}
use Rattle.desk_signing.specs.Signing.{entries_in, events}
use Rattle.sms_desk.specs.declared.job_seat.JobSeat.{JobSeat}
use Rattle.sms_desk.specs.Seats.{job_mine, job_number, job_seen}
use Rattle.http_talk.specs.declared.talk.Talk.{Talk}
use Rattle.desk_http.specs.Entered.{IsPlaced, entries_of}

-- what is known of a seat: the table of its desk's lock, its number, what it has seen, and the entries that it made
pub record SeatView : Type 0 where
  pub lock : TableId
  pub number : ℕ
  pub seen : List (Signed Event)
  pub mine : List Event

-- what is known of the seat of the desk with this lock
abbrev pub view_of : {P : Type 0} {keeper : Ghosts P} → TableId → JobSeat P keeper → SeatView
view_of lock j = record { lock = lock; number = job_number j; seen = job_seen j; mine = job_mine j }

-- a clerk: the seat as it was handed in, the seat now, and the requests and answers so far
pub record SeatClerkView : Type 0 where
  pub start : SeatView
  pub seat : SeatView
  pub talks : List Talk

-- the seat has seen more of the one list of its desk; what it made is that of the beginning with the entries of the
-- talks behind it, and each talk has its place in what it has seen
pub record HasSubmitted (start now : SeatView) (talks : List Talk) : Type 0 where
  pub lock : now.lock ≡ start.lock
  pub number : now.number ≡ start.number
  pub seen_more : StartsWith now.seen start.seen
  pub mine : now.mine ≡ start.mine ++ events (entries_of talks)
  pub placed : All (λ talk. IsPlaced (entries_in now.seen) talk) talks
