-- All connections that are served by one clerk, between two events (docs/manual/smsd.md, "The served desk").
use Rattle.std.specs.Prelude.{ℕ, ◌≡◌, ◌≢◌, ◌==◌, ◌<◌, ◌≤◌, ◌+◌, ◌-◌, ◌^◌, true, false, List, [], ◌∷◌, ◌++◌, map, length}
use Rattle.std.specs.Prelude.{All, Option, None, Some, ⊤, if◌then◌else◌}
use Rattle.std.specs.List.{flat_map}
use Rattle.slab.specs.Slab.{Slab, get, slab_len}
use Rattle.desk_common.specs.Causes.{Rose}
use Rattle.sms_base.specs.Counts.{after_calls, one_call_more}
use Rattle.ready_wires.specs.Wires.{WireSeen}
use Rattle.ready_wires.specs.Events.{ReadySeen, IsAwaited, IsQuietSince, Tells}
use Rattle.http_page.specs.Pages.{PageAsk}
use Rattle.http_talk.specs.Hearing.{ClerkMoment}
use Rattle.http_talk.specs.declared.talk.Talk.{Talk}
use Rattle.http_flow.specs.Exchange.{Basis, Terms, Exchange, Heard}
use Rattle.http_flow.specs.Flow.{FlowView}
use Rattle.http_flow.specs.declared.page.Page.{Page}
use Rattle.serve_poll.specs.Visitors.{IsOn, IsBounded, IsLeft, IsWaiting, WasTold, VisitorSeen}
use Rattle.serve_poll.specs.declared.hall.Hall.{Hall}
use Rattle.serve_poll.specs.declared.serving.LoopEnd.{LoopEnd}
use Rattle.serve_poll.specs.declared.serving.LoopEnd.TheVariants as ends
use Rattle.serve_poll.specs.declared.step.Left.{Left}
use Rattle.serve_poll.specs.declared.step.Left.TheVariants as lefts
use Rattle.serve_poll.specs.declared.visitor.Visitor.{Visitor}

-- an exchange, and the number of the connection that asked
pub record Asked : Type 0 where
  pub by : ℕ
  pub exchange : Exchange

-- a connection as it was handed back, and why
pub record Gone (C : Type 0) : Type 0 where
  pub visitor : Visitor C
  pub why : Left

-- the exchanges that the connection of this number asked for, in their order
abbrev pub asked_by : ℕ → List Asked → List Exchange
asked_by number all = flat_map (λ h. if h.by == number then h.exchange ∷ [] else []) all

-- on which terms connections are served, and what one is told that is turned away
pub record House : Type 0 where
  pub terms : Terms
  pub away : List ℕ

-- a connection is in turn: it is still to be told of as ready, nothing was done with it since that was asked for, and
-- where it rests it waits to be read or to take what is due
pub record IsInTurn (told : Option (List ℕ)) (key : ℕ) (wire : WireSeen) (flow : FlowView) : Type 0 where
  pub awaited : IsAwaited told key
  pub untried : wire.marks.tried ≡ false
  pub waits : wire.watch.rests ≡ true → IsWaiting wire flow

module _ {C : Type 0} (seen : C → WireSeen) where
  -- a connection at one moment
  abbrev pub seen_visitor : Visitor C → VisitorSeen
  seen_visitor v = record { number = v.number; wire = seen v.conn; flow = v.conversation }

  -- each connection that is served is in turn
  abbrev pub AreWatched : Option (List ℕ) → Slab (Visitor C) → Type 0
  AreWatched awaited seats =
      (key : ℕ) (v : Visitor C) → get seats key ≡ Some v → IsInTurn awaited key (seen v.conn) v.conversation

  -- the same but for the one at this key
  abbrev pub AreWatchedBut : ℕ → Option (List ℕ) → Slab (Visitor C) → Type 0
  AreWatchedBut key awaited seats = (other : ℕ) (v : Visitor C) → other ≢ key → get seats other ≡ Some v
      → IsInTurn awaited other (seen v.conn) v.conversation

module _ (house : House) where
  -- its number is one that was given, it is at this place and watched under it, was never watched in vain, and wasn't
  -- told of as idle since; what is kept for it is bounded, and its conversation has just the exchanges that bear its
  -- number
  pub record IsSeated (idle : Option (List ℕ)) (all : List Asked) (count : ℕ) (place : ℕ → Option ℕ) (key : ℕ)
      (v : VisitorSeen) : Type 0 where
    pub given : v.number < count
    pub placed : place v.number ≡ Some key
    pub watched : v.wire.watch.key ≡ Some key
    pub in_turn : v.wire.watch.vain ≡ false
    pub quiet : IsQuietSince v.wire.watch.since idle key
    pub bounded : IsBounded house.terms v.flow
    pub on : IsOn house.terms v.wire v.flow (asked_by v.number all)

  -- what is known of a connection that was handed back: one that was turned away asked nothing and was told so; each
  -- other has just the exchanges that bear its number, and left for its cause
  abbrev pub WasServed : Option (List ℕ) → List Asked → VisitorSeen → Left → Type 0
  WasServed idle all v lefts.Answered =
      IsOn house.terms v.wire v.flow (asked_by v.number all) × IsLeft idle v.wire v.flow lefts.Answered
  WasServed idle all v lefts.InputEnded =
      IsOn house.terms v.wire v.flow (asked_by v.number all) × IsLeft idle v.wire v.flow lefts.InputEnded
  WasServed idle all v lefts.Failed =
      IsOn house.terms v.wire v.flow (asked_by v.number all) × IsLeft idle v.wire v.flow lefts.Failed
  WasServed idle all v lefts.TurnedAway = (asked_by v.number all ≡ []) × WasTold v.wire house.away
  WasServed idle all v lefts.Unwatched =
      IsOn house.terms v.wire v.flow (asked_by v.number all) × IsLeft idle v.wire v.flow lefts.Unwatched
  WasServed idle all v lefts.Idle =
      IsOn house.terms v.wire v.flow (asked_by v.number all) × IsLeft idle v.wire v.flow lefts.Idle

-- of connections that left, of which the first left when so many had left or may be served, each that was turned away
-- came when as many were served as may be: as many connections had come before it as had left and as may be served
abbrev pub WereFull : {C : Type 0} → ℕ → List (Gone C) → Type 0
WereFull n [] = ⊤
WereFull n (x ∷ xs) = (x.why ≡ lefts.TurnedAway → x.visitor.number ≡ n) × WereFull (n + 1) xs

module _ {C : Type 0} (house : House) (seen : C → WireSeen) where
  -- a connection that was handed back; it was never watched in vain
  pub record HasLeft (idle : Option (List ℕ)) (all : List Asked) (count : ℕ) (place : ℕ → Option ℕ) (x : Gone C)
      : Type 0 where
    pub given : x.visitor.number < count
    pub placed : place x.visitor.number ≡ None
    pub in_turn : (seen x.visitor.conn).watch.vain ≡ false
    pub served : WasServed house idle all (seen_visitor seen x.visitor) x.why

  -- each exchange is of one connection, and each connection, whether it is served or was handed back, has just its own:
  -- what came of it asked for them, and what it took is their answers; none is lost, and no more are served than may be
  pub record AreSeated (told told' : ReadySeen) (all : List Asked) (back back' : Option (List C)) (count most : ℕ)
      (seats : Slab (Visitor C)) : Type 0 where
    pub place : ℕ → Option ℕ
    pub gone : List (Gone C)
    pub few : All (λ h. h.by < count) all
    pub seated : (key : ℕ) (v : Visitor C) → get seats key ≡ Some v
        → IsSeated house told'.idle all count place key (seen_visitor seen v)
    pub left : All (HasLeft told'.idle all count place) gone
    pub room : most ≤ seats.capacity
    pub within : slab_len seats ≤ most
    pub full : WereFull most gone
    pub none_lost : count ≡ slab_len seats + length gone
    pub came : told'.came ≡ after_calls told.came count
    pub came_back : Tells back back' (map (λ x. x.visitor.conn) gone)

  -- these exchanges, in their order, are those of the connections that are served or were handed back
  pub record Stands (told told' : ReadySeen) (xs : List Exchange) (back back' : Option (List C)) (hall : Hall C)
      : Type 0 where
    pub all : List Asked
    pub exchanges : xs ≡ map (λ h. h.exchange) all
    pub are_seated : AreSeated told told' all back back' hall.count hall.most hall.seats

  module _ {B : Type 0} (shows : Basis B → List Talk → PageAsk → Page → Type 0) where
    -- the clerk heard further requests and showed further pages; whatever was asked before, these with them are those
    -- of the connections
    pub record KeepsStanding (clerk clerk' : ClerkMoment (Basis B)) (told told' : ReadySeen)
        (back back' : Option (List C)) (hall hall' : Hall C) : Type 0 where
      pub more : List Exchange
      pub heard : Heard shows clerk clerk' more
      pub stands : (xs : List Exchange) (first : ReadySeen) (before : Option (List C))
          → Stands first told xs before back hall → Stands first told' (xs ++ more) before back' hall'

  -- the same where the clerk heard nothing
  abbrev pub StaysStanding : ReadySeen → ReadySeen → Option (List C) → Option (List C) → Hall C → Hall C → Type 0
  StaysStanding told told' back back' hall hall' =
      (all : List Asked) (first : ReadySeen) (before : Option (List C))
      → AreSeated first told all before back hall.count hall.most hall.seats
      → AreSeated first told' all before back' hall'.count hall'.most hall'.seats

-- a connection came just now, and nothing else happened
pub record HasArrived (before now : ReadySeen) : Type 0 where
  pub came : now.came ≡ one_call_more before.came
  pub idle : now.idle ≡ before.idle

-- this key was told of as idle just now, and nothing else happened
pub record WasIdle (key : ℕ) (before now : ReadySeen) : Type 0 where
  pub came : now.came ≡ before.came
  pub idle : Tells before.idle now.idle (key ∷ [])

-- why no further event is awaited, when so many of `turns` were asked for
abbrev pub IsLoopEnd : ℕ → ℕ → ReadySeen → ReadySeen → ℕ → LoopEnd → Type 0
IsLoopEnd turns made told told' count ends.Turns = made ≡ turns
IsLoopEnd turns made told told' count ends.Ended = told'.ended ≡ true
IsLoopEnd turns made told told' count ends.Failed = Rose told.faults told'.faults
IsLoopEnd turns made told told' count ends.Numbers = count ≡ 2 ^ 64 - 1

-- so many events were asked for, and no further one for this
pub record WasAsked (turns : ℕ) (told told' : ReadySeen) (count : ℕ) (end : LoopEnd) : Type 0 where
  pub made : ℕ
  pub within : made ≤ turns
  pub calls : told'.calls ≡ after_calls told.calls made
  pub why : IsLoopEnd turns made told told' count end
