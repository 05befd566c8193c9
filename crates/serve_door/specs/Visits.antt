-- What serving the links of a door does.
use Rattle.std.specs.Prelude.{ℕ, ◌≡◌, ◌≤◌, ◌<◌, ◌+◌, Bool, true, false, List, [], ◌∷◌, length, map, All, flat_map}
use Rattle.std.specs.Prelude.{IfSome, if◌then◌else◌}
use Rattle.desk_common.specs.Causes.{Rose, counted}
use Rattle.sms_base.specs.Counts.{after_calls}
use Rattle.sms_base.specs.Door.{HandsBack, faults_behind}
use Rattle.sms_base.specs.Observed.{Observed}
use Rattle.http_talk.specs.Conversation.{IsConversation}
use Rattle.http_talk.specs.declared.end.End.{End}
use Rattle.http_talk.specs.declared.end.End.TheVariants as ends
use Rattle.http_talk.specs.declared.talk.Talk.{Talk}
use Rattle.serve_door.specs.declared.door_end.DoorEnd.{DoorEnd}
use Rattle.serve_door.specs.declared.door_end.DoorEnd.TheVariants as door_ends
use Rattle.serve_door.specs.declared.visit.Visit.{Visit}
use Rattle.serve_door.specs.Doors.{CameBack, DoorMoment, WereGiven}

-- the pieces of a connection that are read at most
abbrev pub most_turns : ℕ
most_turns = 1000000

-- the talks of visits, in their order
abbrev pub talks_of : List Visit → List Talk
talks_of visits = flat_map (λ visit. visit.talks) visits

-- the conversation ended by a fault of its link
abbrev pub is_link_fault : End → Bool
is_link_fault (ends.Closed cut) = false
is_link_fault ends.ReadFault = true
is_link_fault ends.WriteFault = true
is_link_fault (ends.Refused status) = false
is_link_fault ends.Turns = false
is_link_fault ends.NoMemory = false

-- the count of link faults behind a visit
abbrev pub counted_for : ℕ → Visit → ℕ
counted_for faults visit = if is_link_fault visit.end then counted faults else faults

-- the count behind several visits: one more for each that a fault of its link ended
abbrev pub counted_over : ℕ → List Visit → ℕ
counted_over faults [] = faults
counted_over faults (visit ∷ visits) = counted_over (counted_for faults visit) visits

-- a link as it was given and as it was handed back, and its visit
pub record Served (C : Type 0) : Type 0 where
  pub given : C
  pub back : C
  pub visit : Visit

-- the link was given with no faults, and its visit has the talks and the end of a conversation over it
pub record IsVisit {C : Type 0} (seen : C → Observed) (one : Served C) : Type 0 where
  pub reads : (seen one.given).read_faults ≡ 0
  pub writes : (seen one.given).write_faults ≡ 0
  pub conversation : IsConversation most_turns (seen one.given) (seen one.back) one.visit.talks one.visit.end

-- each link that the door gave has its visit, in their order, and was handed back
pub record Serves {C : Type 0} (seen : C → Observed) (old new : DoorMoment C) (visits : List Visit) : Type 0 where
  pub served : List (Served C)
  pub visits_are : visits ≡ map (λ one. one.visit) served
  pub each : All (IsVisit seen) served
  pub given : new.given ≡ old.given + length visits
  pub waiting : WereGiven old.waiting new.waiting (map (λ one. one.given) served)
  pub back : CameBack old.back new.back (map (λ one. one.back) served)
  pub link_faults : new.link_faults ≡ counted_over old.link_faults visits

-- the door was asked for the links of these visits, and so often more
abbrev pub WasAsked : {C : Type 0} → DoorMoment C → DoorMoment C → List Visit → ℕ → Type 0
WasAsked old new visits further = new.asked ≡ after_calls old.asked (length visits + further)

-- why no further link is served; a door that ended or failed is asked no more
abbrev pub IsDoorEnd : {C : Type 0} → ℕ → DoorMoment C → DoorMoment C → List Visit → DoorEnd → Type 0
IsDoorEnd most old new visits door_ends.Served =
    (length visits ≡ most) × (new.door_faults ≡ old.door_faults) × WasAsked old new visits 0
IsDoorEnd most old new visits door_ends.Ended =
    (new.ended ≡ true) × IfSome new.waiting (λ links. links ≡ []) × (new.door_faults ≡ old.door_faults)
    × (length visits < most) × WasAsked old new visits 1
IsDoorEnd most old new visits door_ends.AcceptFault =
    Rose old.door_faults new.door_faults × (length visits < most) × WasAsked old new visits 1
IsDoorEnd most old new visits door_ends.NoMemory = (new.door_faults ≡ old.door_faults) × WasAsked old new visits 0

-- at most so many links of the door were served, and it ended so
pub record WasServed {C : Type 0} (seen : C → Observed) (most : ℕ) (old new : DoorMoment C) (visits : List Visit)
    (end : DoorEnd) : Type 0 where
  pub serves : Serves seen old new visits
  pub few : length visits ≤ most
  pub is_end : IsDoorEnd most old new visits end

-- a link was served and handed back, and nothing else happened at the door
pub record IsServedLink {C : Type 0} (seen : C → Observed) (old new : DoorMoment C) (link : C) (visit : Visit)
    : Type 0 where
  pub after : C
  pub conversation : IsConversation most_turns (seen link) (seen after) visit.talks visit.end
  pub back : HandsBack old.given old.back new.back after
  pub link_faults : new.link_faults
      ≡ faults_behind old.link_faults (seen after).read_faults (seen after).write_faults
  pub asked : new.asked ≡ old.asked
  pub given : new.given ≡ old.given
  pub ended : new.ended ≡ old.ended
  pub door_faults : new.door_faults ≡ old.door_faults
  pub waiting : new.waiting ≡ old.waiting
