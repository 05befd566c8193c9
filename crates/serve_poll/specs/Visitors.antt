-- A connection that is being served (docs/manual/smsd.md, "The served desk").
use Rattle.std.specs.Prelude.{ℕ, ◌≡◌, ◌≢◌, ◌<◌, ◌≤◌, ◌+◌, ◌⊎◌, true, List, [], ◌++◌, length, Option, Some, ⊤}
use Rattle.ready_wires.specs.Wires.{WireSeen, IsTold}
use Rattle.ready_wires.specs.Events.{WasToldSince}
use Rattle.http_page.specs.Pages.{PageAsk}
use Rattle.http_talk.specs.Hearing.{ClerkMoment}
use Rattle.http_talk.specs.declared.talk.Talk.{Talk}
use Rattle.http_flow.specs.Exchange.{Basis, Terms, Exchange, Heard, most_due}
use Rattle.http_flow.specs.Flow.{FlowView, IsFlow, IsOneText, most_message}
use Rattle.http_flow.specs.declared.page.Page.{Page}
use Rattle.http_flow.specs.declared.phase.Phase.{Phase}
use Rattle.http_flow.specs.declared.phase.Phase.TheVariants as phases
use Rattle.serve_poll.specs.declared.step.Left.{Left}
use Rattle.serve_poll.specs.declared.step.Left.TheVariants as lefts
use Rattle.serve_poll.specs.declared.step.Step.{Step}
use Rattle.serve_poll.specs.declared.step.Step.TheVariants as steps

-- whatever came of the connection and whatever it took is that of a conversation of these exchanges that stands so
pub record IsOn (terms : Terms) (seen : WireSeen) (flow : FlowView) (xs : List Exchange) : Type 0 where
  pub came : List ℕ
  pub taken : List ℕ
  pub told_came : IsTold seen.came came
  pub told_taken : IsTold seen.taken taken
  pub is_flow : IsFlow terms came taken xs flow

-- the most bytes that are read at once
abbrev pub most_piece : ℕ
most_piece = 4096

-- the bytes that are due are a part of few bytes and one answer
abbrev pub IsFew : Terms → List ℕ → Type 0
IsFew terms due =
    (sent missing front last : List ℕ) × (sent ++ (due ++ missing) ≡ front ++ last) × (length front < most_due)
    × IsOneText terms last

-- what is kept for a connection is bounded, whatever it sends
pub record IsBounded (terms : Terms) (flow : FlowView) : Type 0 where
  pub rest : length flow.rest < most_message + most_piece
  pub waiting : flow.phase ≡ phases.Waits → length flow.rest < most_message
  pub due : IsFew terms flow.due

-- bytes were sent, and nothing was heard
pub record Sends (terms : Terms) (wire wire' : WireSeen) (flow flow' : FlowView) : Type 0 where
  pub on : (xs : List Exchange) → IsOn terms wire flow xs → IsOn terms wire' flow' xs
  pub bounded : IsBounded terms flow → IsBounded terms flow'
  pub watch : wire'.watch ≡ wire.watch

-- a connection at one moment
pub record VisitorSeen : Type 0 where
  pub number : ℕ
  pub wire : WireSeen
  pub flow : FlowView

module _ {B : Type 0} (terms : Terms) (shows : Basis B → List Talk → PageAsk → Page → Type 0) where
  -- a piece came, and what it asked was heard
  pub record Hears (a b : ClerkMoment (Basis B)) (wire wire' : WireSeen) (flow flow' : FlowView) : Type 0 where
    pub more : List Exchange
    pub heard : Heard shows a b more
    pub on : (xs : List Exchange) → IsOn terms wire flow xs → IsOn terms wire' flow' (xs ++ more)
    pub bounded : IsBounded terms flow → IsBounded terms flow'
    pub watch : wire'.watch ≡ wire.watch

  -- the connection was served a while: the clerk heard what it asked, and nothing else
  pub record Advances (a b : ClerkMoment (Basis B)) (old new : VisitorSeen) : Type 0 where
    pub number : new.number ≡ old.number
    pub hears : Hears a b old.wire new.wire old.flow new.flow

-- all is sent behind a last answer, a refusal or want of memory
abbrev pub IsDone : Phase → Type 0
IsDone phases.Waits = ⊥
IsDone phases.Full = ⊥
IsDone phases.Closed = ⊤
IsDone (phases.Refused status) = ⊤
IsDone phases.NoMemory = ⊤

-- it waits to be read, where nothing is due, or to take what is due
abbrev pub IsWaiting : WireSeen → FlowView → Type 0
IsWaiting wire flow =
    ((flow.due ≡ []) × (flow.phase ≡ phases.Waits) × (wire.marks.read_waits ≡ true))
    ⊎ ((flow.due ≢ []) × (wire.marks.write_waits ≡ true))

-- why a step is the last of a connection
abbrev pub IsLastStep : WireSeen → FlowView → Left → Type 0
IsLastStep wire flow lefts.Answered = (flow.due ≡ []) × IsDone flow.phase
IsLastStep wire flow lefts.InputEnded = (flow.due ≡ []) × (flow.phase ≡ phases.Waits) × (wire.marks.ended ≡ true)
IsLastStep wire flow lefts.Failed = wire.marks.failed ≡ true
IsLastStep wire flow lefts.TurnedAway = ⊥
IsLastStep wire flow lefts.Unwatched = ⊥
IsLastStep wire flow lefts.Idle = ⊥

-- a step that waits or is the last has its cause; behind each other a call gave or took bytes
abbrev pub IsStep : WireSeen → FlowView → Step → Type 0
IsStep wire flow steps.Again = wire.marks.moved ≡ true
IsStep wire flow steps.Waits = IsWaiting wire flow × (wire.marks.tried ≡ true)
IsStep wire flow (steps.Over left) = IsLastStep wire flow left

-- nothing was read of it, and it took these bytes, or a front of them where it would have waited or failed
pub record WasTold (wire : WireSeen) (text : List ℕ) : Type 0 where
  pub came : IsTold wire.came []
  pub front : List ℕ
  pub rest : List ℕ
  pub whole : text ≡ front ++ rest
  pub taken : IsTold wire.taken front
  pub why : (rest ≡ []) ⊎ ((wire.marks.write_waits ≡ true) ⊎ (wire.marks.failed ≡ true))

-- why a connection left, where that is seen of it and of the keys that were told of as idle
abbrev pub IsLeft : Option (List ℕ) → WireSeen → FlowView → Left → Type 0
IsLeft idle wire flow lefts.Answered = IsLastStep wire flow lefts.Answered
IsLeft idle wire flow lefts.InputEnded = IsLastStep wire flow lefts.InputEnded
IsLeft idle wire flow lefts.Failed = IsLastStep wire flow lefts.Failed
IsLeft idle wire flow lefts.TurnedAway = ⊥
IsLeft idle wire flow lefts.Unwatched = wire.watch.failed ≡ true
IsLeft idle wire flow lefts.Idle =
    (key : ℕ) × (wire.watch.key ≡ Some key) × WasToldSince wire.watch.since idle key
