-- How serving the desk ends: each status and its cause.
use Rattle.std.specs.Prelude.{◌≡◌, ◌⊎◌, ℕ, Bool, true, false, List, [], ◌∷◌, ◌++◌, map, All, Option}
use Rattle.std.specs.Io.KnownBytes.{Appends}
use Rattle.desk_common.specs.Causes.{Rose}
use Rattle.desk_common.specs.Fronts.{IsProperPrefix}
use Rattle.sms_base.specs.Observed.{Observed}
use Rattle.serve_door.specs.declared.door_end.DoorEnd.{DoorEnd}
use Rattle.serve_door.specs.declared.door_end.DoorEnd.TheVariants as door_ends
use Rattle.serve_door.specs.declared.visit.Visit.{Visit}
use Rattle.serve_door.specs.Doors.{DoorMoment}
use Rattle.serve_door.specs.Visits.{WasServed}
use Rattle.serve_calls.specs.ServedText.{served_text}
use Rattle.serve_calls.specs.declared.status.ServeStatus.{ServeStatus}
use Rattle.serve_calls.specs.declared.status.ServeStatus.TheVariants.{Done, BadWords, WriteFault, NoMemory, AcceptFault}

-- the statuses with which nothing is written
abbrev pub leaves_sink : ServeStatus → Bool
leaves_sink Done = false
leaves_sink BadWords = true
leaves_sink WriteFault = false
leaves_sink NoMemory = true
leaves_sink AcceptFault = false

-- a door before and after, its visits, and why no further link of it was served
pub record ServedDoor (C : Type 0) : Type 0 where
  pub before : DoorMoment C
  pub after : DoorMoment C
  pub visits : List Visit
  pub end : DoorEnd

-- each door, in their order, was served at most so often, and has its visits
pub record AreServed {C : Type 0} (seen : C → Observed) (most : ℕ) (old new : List (DoorMoment C))
    (visits : List (List Visit)) (ends : List DoorEnd) : Type 0 where
  pub doors : List (ServedDoor C)
  pub old_are : old ≡ map (λ door. door.before) doors
  pub new_are : new ≡ map (λ door. door.after) doors
  pub visits_are : visits ≡ map (λ door. door.visits) doors
  pub ends_are : ends ≡ map (λ door. door.end) doors
  pub each : All (λ door. WasServed seen most door.before door.after door.visits door.end) doors

-- the door was served as often as was asked, or has ended
abbrev pub IsOver : DoorEnd → Type 0
IsOver end = (end ≡ door_ends.Served) ⊎ (end ≡ door_ends.Ended)

-- it was, or it failed
abbrev pub IsOverOrFailed : DoorEnd → Type 0
IsOverOrFailed end = IsOver end ⊎ (end ≡ door_ends.AcceptFault)

-- one of the doors failed
pub record HasFailed (ends : List DoorEnd) : Type 0 where
  pub before : List DoorEnd
  pub behind : List DoorEnd
  pub failed : ends ≡ before ++ door_ends.AcceptFault ∷ behind

-- the status of doors that ended so, where the whole text is written: that a door failed is told where one did
abbrev pub AllowsStatus : List DoorEnd → ServeStatus → Type 0
AllowsStatus ends Done = All IsOver ends
AllowsStatus ends BadWords = ⊥
AllowsStatus ends WriteFault = ⊥
AllowsStatus ends NoMemory = ⊥
AllowsStatus ends AcceptFault = All IsOverOrFailed ends × HasFailed ends

-- what a sink took, where it tells that, and its count of faults
pub record Writing : Type 0 where
  pub taken : Option (List ℕ)
  pub faults : ℕ

-- the whole text was written
pub record WasWritten (old new : Writing) (text : List ℕ) : Type 0 where
  pub written : Appends old.taken new.taken text
  pub faults : new.faults ≡ old.faults

-- a proper front of the text was written before the sink's count of faults rose
pub record WasCut (old new : Writing) (text : List ℕ) : Type 0 where
  pub front : List ℕ
  pub proper : IsProperPrefix front text
  pub written : Appends old.taken new.taken front
  pub rose : Rose old.faults new.faults

-- the whole text was written, and the status is this one; or a proper front of it was; or memory was wanting
abbrev pub IsTold : ServeStatus → Writing → Writing → List ℕ → ServeStatus → Type 0
IsTold done old new text status =
    ((status ≡ done) × WasWritten old new text)
    ⊎ (((status ≡ WriteFault) × WasCut old new text) ⊎ (status ≡ NoMemory))

-- what each status says of the ends of the doors, and of what was written of the text
abbrev pub IsServeEnd : List DoorEnd → Writing → Writing → List ℕ → ServeStatus → Type 0
IsServeEnd ends old new text Done = All IsOver ends × WasWritten old new text
IsServeEnd ends old new text BadWords = ⊥
IsServeEnd ends old new text WriteFault = All IsOverOrFailed ends × WasCut old new text
IsServeEnd ends old new text NoMemory = Unit {0}
IsServeEnd ends old new text AcceptFault =
    All IsOverOrFailed ends × HasFailed ends × WasWritten old new text

-- the doors were served, and it ended so; so many entries there are
pub record WereServed {C : Type 0} (seen : C → Observed) (most : ℕ) (old new : List (DoorMoment C))
    (visits : List (List Visit)) (entries : ℕ) (before after : Writing) (status : ServeStatus) : Type 0 where
  pub ends : List DoorEnd
  pub served : AreServed seen most old new visits ends
  pub is_end : IsServeEnd ends before after (served_text visits entries) status

-- memory was wanting before any door was asked for a link; the keeper was not touched
pub record WereUnasked {D P : Type 0} (old new : List D) (before after : P) (visits : List (List Visit))
    (status : ServeStatus) : Type 0 where
  pub doors : new ≡ old
  pub keeper : after ≡ before
  pub none : visits ≡ []
  pub wanting : status ≡ NoMemory
