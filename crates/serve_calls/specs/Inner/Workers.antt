-- What workers do at the doors of a desk that they share.
use Rattle.std.specs.Prelude.{ℕ, ◌≡◌, List, Option, Some, IsSome, map, All}
use Rattle.atomic_table.specs.Seated.{TableId}
use Rattle.sms_base.specs.Observed.{Observed}
use Rattle.sms_keeper.specs.declared.keeper.Keeper.{Ghosts}
use Rattle.sms_desk.specs.declared.job_seat.JobSeat.{JobSeat}
use Rattle.sms_desk.specs.Seats.{IsJobOf}
use Rattle.desk_http.specs.SeatTalks.{HasSubmitted, view_of}
use Rattle.serve_door.specs.declared.door_end.DoorEnd.{DoorEnd}
use Rattle.serve_door.specs.declared.visit.Visit.{Visit}
use Rattle.serve_door.specs.Doors.{DoorMoment}
use Rattle.serve_door.specs.Visits.{WasServed, talks_of}
use Rattle.serve_calls.specs.declared.worker.Worker.{Worker}

-- what a worker did: its seat and its door before and after, the visits, and why it served no further link
pub record Shift (A P : Type 0) (keeper : Ghosts P) : Type 0 where
  pub seat_before : JobSeat P keeper
  pub seat_after : JobSeat P keeper
  pub door_before : A
  pub door_after : A
  pub visited : List Visit
  pub ended : DoorEnd

module _ {A P : Type 0} {keeper : Ghosts P} where
  -- the worker has its seat, which is one of the desk with this lock
  pub record HasSeat (lock : TableId) (w : Worker A P keeper) : Type 0 where
    pub its : JobSeat P keeper
    pub is : w.seat ≡ Some its
    pub job : IsJobOf lock its

  -- the worker serves so many links at most
  abbrev pub HasMost : ℕ → Worker A P keeper → Type 0
  HasMost most w = w.most ≡ most

  -- the worker is at its seat
  abbrev pub IsAtSeat : Worker A P keeper → Type 0
  IsAtSeat w = IsSome w.seat

  abbrev pub seat_of : Worker A P keeper → Option (JobSeat P keeper)
  seat_of w = w.seat

  abbrev pub door_of : Worker A P keeper → A
  door_of w = w.door

  abbrev pub visits_of : Worker A P keeper → List Visit
  visits_of w = w.visits

  abbrev pub end_of : Worker A P keeper → DoorEnd
  end_of w = w.end

  module _ {C : Type 0} (seen : C → Observed) (moment : A → DoorMoment C) (lock : TableId) where
    -- by its seat it answered what was heard of the links that it served of its door, so many at most
    pub record IsShift (most : ℕ) (one : Shift A P keeper) : Type 0 where
      pub job : IsJobOf lock one.seat_after
      pub submitted : HasSubmitted (view_of lock one.seat_before) (view_of lock one.seat_after) (talks_of one.visited)
      pub served : WasServed seen most (moment one.door_before) (moment one.door_after) one.visited one.ended

    -- the worker did this
    pub record DidShift (old new : Worker A P keeper) : Type 0 where
      pub one : Shift A P keeper
      pub done : IsShift old.most one
      pub seat_is : old.seat ≡ Some one.seat_before
      pub seat_now : new.seat ≡ Some one.seat_after
      pub door_is : old.door ≡ one.door_before
      pub door_now : new.door ≡ one.door_after
      pub visits_are : new.visits ≡ one.visited
      pub end_is : new.end ≡ one.ended

    -- a worker at each seat and each door did its shift
    pub record DidShifts (most : ℕ) (seats seats' : List (JobSeat P keeper)) (doors doors' : List A)
        (visits : List (List Visit)) (ends : List DoorEnd) : Type 0 where
      pub shifts : List (Shift A P keeper)
      pub each : All (IsShift most) shifts
      pub seats_are : seats ≡ map (λ one. one.seat_before) shifts
      pub seats_now : seats' ≡ map (λ one. one.seat_after) shifts
      pub doors_are : doors ≡ map (λ one. one.door_before) shifts
      pub doors_now : doors' ≡ map (λ one. one.door_after) shifts
      pub visits_are : visits ≡ map (λ one. one.visited) shifts
      pub ends_are : ends ≡ map (λ one. one.ended) shifts
