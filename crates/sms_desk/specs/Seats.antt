-- What a worker's seat has seen, made and held (docs/manual/workers.md, "The desk").
use Rattle.std.specs.Prelude.{◌≡◌, ◌⊎◌, ℕ, suc, ◌+◌, ◌<◌, true, false, List, [], ◌++◌, Option, Some, None, IfSome}
use Rattle.std.specs.Prelude.{IsSome, MatchOption, length, map, All, slice_index_or}
use Rattle.atomic_table.specs.Seated.{TableId}
use Rattle.acs_tree.specs.Slates.{SlateLines}
use Rattle.sms_construct.specs.declared.alloc.Alloc.{Alloc}
use Rattle.sms_construct.specs.declared.entry.Answer.{Answer}
use Rattle.sms_construct.specs.declared.entry.Entry.{Entry}
use Rattle.sms_construct.specs.declared.request.Op.TheVariants as ops
use Rattle.sms_construct.specs.declared.request.Request.{Request}
use Rattle.sms_classes.specs.declared.classified.Classified.{Classified}
use Rattle.sms_keeper.specs.declared.keeper.Keeper.{Ghosts}
use Rattle.turn_lock.specs.declared.seat.Seat.{Seat}
use Rattle.turn_lock.specs.declared.signed.Signed.{Signed}
use Rattle.turn_lock.specs.Contract.{IsOf, mine, number_of, seen}
use Rattle.turn_lock.specs.Views.{StartsWith, made_by}
use Rattle.desk_law.specs.State.{Opening}
use Rattle.desk_law.specs.Kept.{is_entered}
use Rattle.desk_state.specs.declared.work.Work.{Work}
use Rattle.desk_state.specs.Working.{IsWork, WasClassified}
use Rattle.sms_core.specs.Core.{entry_of}
use Rattle.desk_signing.specs.declared.event.Event.{Event}
use Rattle.desk_signing.specs.Signing.{IsLegalList, entries_in, events, opening_in}
use Rattle.sms_desk.specs.declared.held.Held.{Held}
use Rattle.sms_desk.specs.declared.job_seat.JobSeat.{JobSeat}
use Rattle.sms_desk.specs.declared.outfit.Outfit.{Outfit}
use Rattle.sms_desk.specs.declared.signed_core.SignedCore.{SignedCore}
use Rattle.sms_desk.specs.Holding.{IsCurrent, IsHolding, held_count}
use Rattle.sms_desk.specs.Signed.{Adds}

module _ {T E : Type 0} where
  -- the seat is there, and one of the lock
  abbrev pub IsSeated : TableId → Option (Seat T E) → Type 0
  IsSeated lock seat = IfSome seat (IsOf lock)

  -- what the seat has seen
  abbrev pub seen_at : Option (Seat T E) → List (Signed E)
  seen_at None = []
  seen_at (Some s) = seen s

  -- what the seat knows as its own
  abbrev pub mine_of : Option (Seat T E) → List E
  mine_of None = []
  mine_of (Some s) = mine s

  -- the number of the seat
  abbrev pub number_at : Option (Seat T E) → ℕ
  number_at None = 0
  number_at (Some s) = number_of s

-- from what was seen the list went on, and then the answer was added
pub record Submits (old new : List (Signed Event)) (number : ℕ) (request : Request) (answer : Answer) : Type 0 where
  pub between : List (Signed Event)
  pub adds : Adds (old ++ between) new number request answer

-- what is held was active in what was seen
abbrev pub HoldsOf : List (Signed Event) → Option Held → Type 0
HoldsOf list held = IsHolding (opening_in list) (entries_in list) held

-- what is held is active where what was seen ends
abbrev pub HoldsNow : List (Signed Event) → Option Held → Type 0
HoldsNow list held = IsCurrent (opening_in list) (entries_in list) held

-- work for a request after what was seen, where this is on the slate
abbrev pub IsWorkFor : List (Signed Event) → Request → SlateLines → Work → Type 0
IsWorkFor list request written work = IsWork (opening_in list) (entries_in list) request written work

-- after an entry what is held is active at the end of what was seen; without one it may also be what was held before
pub record KeepsUp (list : List (Signed Event)) (old new : Option Held) (answer : Answer) : Type 0 where
  pub entered : is_entered answer.reply ≡ true → HoldsNow list new
  pub not_entered : is_entered answer.reply ≡ false → HoldsNow list new ⊎ (new ≡ old)

-- the outfit has what the history left active
abbrev pub IsOutfit : Opening → List Entry → Outfit → Type 0
IsOutfit o h outfit = IsCurrent o h outfit.held

module _ {P : Type 0} {keeper : Ghosts P} where
  -- what the seat has seen of the signed list
  abbrev pub job_seen : JobSeat P keeper → List (Signed Event)
  job_seen j = seen_at j.seat

  -- the entries that the seat knows as its own
  abbrev pub job_mine : JobSeat P keeper → List Event
  job_mine j = mine_of j.seat

  -- the number of the seat
  abbrev pub job_number : JobSeat P keeper → ℕ
  job_number j = number_at j.seat

  -- the numbers of the seats
  abbrev pub job_numbers : List (JobSeat P keeper) → List ℕ
  job_numbers jobs = map job_number jobs

  -- the seat is one of the desk with this lock; what it has seen is a legal history, and what it holds was active there
  pub record IsJobOf (lock : TableId) (j : JobSeat P keeper) : Type 0 where
    pub seated : IsSeated lock j.seat
    pub begun : 0 < length (job_seen j)
    pub legal : IsLegalList (job_seen j)
    pub holding : HoldsOf (job_seen j) j.held

  -- all seats of the desk
  abbrev pub AreAllJobs : TableId → ℕ → List (JobSeat P keeper) → Type 0
  AreAllJobs lock count jobs = (length jobs ≡ count) × All (IsJobOf lock) jobs

  -- the seat has seen the list, made nothing, and holds what is active there
  pub record IsNewJob (lock : TableId) (list : List (Signed Event)) (j : JobSeat P keeper) : Type 0 where
    pub job : IsJobOf lock j
    pub seen_is : job_seen j ≡ list
    pub mine_is : job_mine j ≡ []
    pub current : HoldsNow list j.held

  -- the seats have the numbers below their count, from the greatest down
  abbrev pub AreNumberedDown : ℕ → List (JobSeat P keeper) → Type 0
  AreNumberedDown count jobs =
      (i : ℕ) (j : JobSeat P keeper) → i < length jobs → job_number (slice_index_or jobs i j) + suc i ≡ count

  -- the seat has no answers
  abbrev pub HasNoAnswers : JobSeat P keeper → Type 0
  HasNoAnswers j = j.answers.items ≡ []

  -- the list begins with what the seat has seen, and the entries of its number are those that it knows as its own
  abbrev pub StandsJob : List (Signed Event) → JobSeat P keeper → Type 0
  StandsJob list j = StartsWith list (job_seen j) × (made_by (job_number j) list ≡ job_mine j)

  -- nothing of the seat but its slate has changed
  pub record SameSeat (old new : JobSeat P keeper) : Type 0 where
    pub seat : new.seat ≡ old.seat
    pub held : new.held ≡ old.held
    pub answers : new.answers ≡ old.answers

  -- the classes of the request under the configuration that the seat holds, with what was written on its slate; none
  -- where it holds none
  abbrev pub IsClassifiedAt : JobSeat P keeper → Request → Option Classified → Type 0
  IsClassifiedAt j request result = MatchOption result (j.held ≡ None) (λ made. IsSome j.held
      × ((alloc : Alloc) → request.op ≡ ops.Alloc alloc →
      WasClassified (opening_in (job_seen j)) (entries_in (job_seen j)) (held_count j.held) request.job alloc made
      j.slate))

  -- the seat made this answer's entry, if it has one, and nothing else
  pub record Submitted (lock : TableId) (old new : JobSeat P keeper) (request : Request)
      (answer : Answer) : Type 0 where
    pub job : IsJobOf lock new
    pub number : job_number new ≡ job_number old
    pub answers : new.answers ≡ old.answers
    -- the list goes on from what the seat had seen and ends with the entry, which is lawful there
    pub did : Submits (job_seen old) (job_seen new) (job_number old) request answer
    pub mine : job_mine new ≡ job_mine old ++ events (entry_of request answer)
    pub held : KeepsUp (job_seen new) old.held new.held answer

  -- the seat made nothing and holds what it held, and may have seen more
  pub record HasLooked (lock : TableId) (old new : JobSeat P keeper) : Type 0 where
    pub job : IsJobOf lock new
    pub number : job_number new ≡ job_number old
    pub answers : new.answers ≡ old.answers
    pub seen_more : StartsWith (job_seen new) (job_seen old)
    pub mine : job_mine new ≡ job_mine old
    pub held : new.held ≡ old.held

  -- a turn with this list ended with this answer, and the seat came back
  pub record TookTurn (lock : TableId) (number : ℕ) (list : List (Signed Event))
      (seat : Seat (SignedCore P keeper) Event) (old new : Option Held) (request : Request)
      (answer : Answer) : Type 0 where
    pub of : IsOf lock seat
    pub number_is : seat.number ≡ number
    pub adds : Adds list (seen seat) number request answer
    pub mine_is : mine seat ≡ made_by number (seen seat)
    pub legal : IsLegalList (seen seat)
    pub holding : HoldsOf (seen seat) new
    pub held : KeepsUp (seen seat) old new answer
