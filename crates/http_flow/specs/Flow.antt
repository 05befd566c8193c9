-- What is known of a connection while others are served between its pieces (docs/manual/smsd.md, "The served desk").
use Rattle.std.specs.Prelude.{◌≡◌, ◌≢◌, ◌<◌, ◌≤◌, ◌+◌, ◌⊎◌, ℕ, true, false, List, [], ◌++◌, length}
use Rattle.http_page.specs.Pages.{PageAsk}
use Rattle.http_talk.specs.Hearing.{ClerkMoment}
use Rattle.http_talk.specs.declared.talk.Talk.{Talk}
use Rattle.http_flow.specs.Exchange.{Terms, Exchange, Reads, is_closed, due_for, IsRefused, PendsFor, FewBefore, Heard}
use Rattle.http_flow.specs.Exchange.{Basis, most_due, room_of, text_of}
use Rattle.http_flow.specs.declared.page.Page.{Page}
use Rattle.http_flow.specs.declared.phase.Phase.{Phase}
use Rattle.http_flow.specs.declared.phase.Phase.TheVariants as phases

-- a conversation: the bytes that came and aren't answered, how many there must be before more can be said of them, the
-- bytes that are still to be sent, and how it stands
pub record FlowView : Type 0 where
  pub rest : List ℕ
  pub need : ℕ
  pub due : List ℕ
  pub phase : Phase

-- a message has fewer bytes: a head of 8,192 and a body of 262,144
abbrev pub most_message : ℕ
most_message = 270336

-- how a conversation stands behind these exchanges and a rest: which bytes are due in all, behind those that were
-- before, and which are held
abbrev pub StandsSo : Terms → List ℕ → List Exchange → List ℕ → List ℕ → List ℕ → ℕ → Phase → Type 0
StandsSo terms before xs rest all held need phases.Waits =
    (is_closed xs ≡ false) × (all ≡ before ++ due_for xs) × (held ≡ rest) × PendsFor terms.port rest need
StandsSo terms before xs rest all held need phases.Full =
    (is_closed xs ≡ false) × (all ≡ before ++ due_for xs) × (held ≡ rest)
StandsSo terms before xs rest all held need phases.Closed = (is_closed xs ≡ true) × (all ≡ before ++ due_for xs)
StandsSo terms before xs rest all held need (phases.Refused status) =
    (is_closed xs ≡ false) × (all ≡ before ++ (due_for xs ++ terms.refusal status)) × IsRefused terms.port rest status
StandsSo terms before xs rest all held need phases.NoMemory = (is_closed xs ≡ true) × (all ≡ before ++ due_for xs)

-- all bytes that came are what these exchanges asked and a rest; what was handed over, with what is still to be sent
-- behind it, is their answers and perhaps a refusal, in their order
pub record IsFlow (terms : Terms) (came taken : List ℕ) (xs : List Exchange) (v : FlowView) : Type 0 where
  pub rest : List ℕ
  pub reads : Reads terms.port came xs rest
  pub stands : StandsSo terms [] xs rest (taken ++ v.due) v.rest v.need v.phase

-- what is kept is bounded: while it waits, by a message
abbrev pub IsKept : FlowView → Type 0
IsKept v = v.phase ≡ phases.Waits → length v.rest < most_message

-- the bytes of one answer, of one refusal, or none
abbrev pub IsOneText : Terms → List ℕ → Type 0
IsOneText terms bytes =
    (bytes ≡ []) ⊎ (((x : Exchange) × (bytes ≡ text_of x)) ⊎ ((status : ℕ) × (bytes ≡ terms.refusal status)))

-- the bytes that are due are few but for one answer, or no more than those that were due before
abbrev pub OwesFew : Terms → List ℕ → List ℕ → Type 0
OwesFew terms before all = (missing : List ℕ) × ((all ++ missing ≡ before)
    ⊎ ((front last : List ℕ) × (all ++ missing ≡ front ++ last) × (length front < most_due) × IsOneText terms last))

-- a refusal is put behind few bytes
abbrev pub IsRefusedEarly : List ℕ → List Exchange → FlowView → Type 0
IsRefusedEarly before xs v = (status : ℕ) → v.phase ≡ phases.Refused status → length (before ++ due_for xs) < most_due

-- where further questions may be held, some bytes are due, or the clerk has no room
abbrev pub IsHeld : {B : Type 0} → ClerkMoment (Basis B) → FlowView → Type 0
IsHeld clerk v = v.phase ≡ phases.Full → (v.due ≢ []) ⊎ (room_of clerk ≡ false)

-- where nothing is due and it goes on, nothing was asked
abbrev pub IsSaid : List Exchange → FlowView → Type 0
IsSaid xs v = (v.phase ≡ phases.Waits) ⊎ (v.phase ≡ phases.Full) → v.due ≡ [] → xs ≡ []

module _ {B : Type 0} (terms : Terms) (shows : Basis B → List Talk → PageAsk → Page → Type 0) where
  -- a piece came, and nothing but what it asked was heard: whatever came and was handed over before, it goes on so
  pub record GoesOn (clerk clerk' : ClerkMoment (Basis B)) (old new : FlowView) (piece : List ℕ) : Type 0 where
    pub more : List Exchange
    pub heard : Heard shows clerk clerk' more
    pub few : FewBefore old.due more
    pub owes : OwesFew terms old.due new.due
    pub held : IsHeld clerk' new
    pub said : IsSaid more new
    pub kept : IsKept new
    pub shorter : length new.rest ≤ length old.rest + length piece
    pub flows : (came taken : List ℕ) (xs : List Exchange) → IsFlow terms came taken xs old
        → IsFlow terms (came ++ piece) taken (xs ++ more) new

  -- whole questions of the bytes that were held were answered behind what was due
  pub record HasTurned (clerk clerk' : ClerkMoment (Basis B)) (old new : FlowView) : Type 0 where
    pub more : List Exchange
    pub rest : List ℕ
    pub reads : Reads terms.port old.rest more rest
    pub heard : Heard shows clerk clerk' more
    pub few : FewBefore old.due more
    pub early : IsRefusedEarly old.due more new
    pub held : IsHeld clerk' new
    pub said : IsSaid more new
    pub kept : IsKept new
    pub shorter : length new.rest ≤ length old.rest
    pub stands : StandsSo terms old.due more rest new.due new.rest new.need new.phase
