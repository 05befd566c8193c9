-- What the bytes of a connection asked, and what was answered (docs/manual/smsd.md, "The served desk").
use Rattle.std.specs.Prelude.{◌≡◌, ◌<◌, ◌≤◌, ◌⊎◌, ℕ, Bool, true, false, ◌||◌, IsTrue, List, [], ◌∷◌, ◌++◌, length, ⊤}
use Rattle.std.specs.List.{flat_map}
use Rattle.http_answer.specs.AnswerText.{answer_text}
use Rattle.http_message.specs.Message.{Message}
use Rattle.http_message.specs.Conversation.{Asks, Stops, Waits}
use Rattle.http_page.specs.Pages.{PageAsk, AsksPage, IsPageComing, IsFromHere, IsFromElsewhere, HasNoPage}
use Rattle.http_talk.specs.Hearing.{ClerkMoment}
use Rattle.http_talk.specs.declared.talk.Talk.{Talk}
use Rattle.http_flow.specs.PageText.{page_text}
use Rattle.http_flow.specs.declared.page.Page.{Page}

-- on which terms connections are served: the port of the site, and the bytes of the refusal with each status
pub record Terms : Type 0 where
  pub port : ℕ
  pub refusal : ℕ → List ℕ

-- a request of the desk with its answer, or a page that was asked for and shown, and whether the connection is closed
-- behind it; or that memory was wanting, for the answer of a request that was heard, or for what came
pub data Exchange : Type 0 where
  talked : Talk → Bool → Exchange
  shown : PageAsk → Page → Bool → Exchange
  unsaid : Talk → Bool → Exchange
  unheard : Exchange

-- the connection is closed behind it, as it is where memory was wanting
abbrev pub closes_of : Exchange → Bool
closes_of (talked talk closes) = closes
closes_of (shown ask page closes) = closes
closes_of (unsaid talk closes) = true
closes_of unheard = true

-- the bytes of the answer
abbrev pub text_of : Exchange → List ℕ
text_of (talked talk closes) = answer_text closes talk.answer
text_of (shown ask page closes) = page_text page closes
text_of (unsaid talk closes) = []
text_of unheard = []

-- the request of the desk that was heard, if one was
abbrev pub talks_of : Exchange → List Talk
talks_of (talked talk closes) = talk ∷ []
talks_of (shown ask page closes) = []
talks_of (unsaid talk closes) = talk ∷ []
talks_of unheard = []

-- the bytes begin with this message of the desk, asked from here
pub record AsksDesk (port : ℕ) (bytes : List ℕ) (message : Message) (after : List ℕ) : Type 0 where
  pub asks : Asks bytes message after
  pub here : IsFromHere port bytes

-- the bytes begin with what was asked
abbrev pub AsksFor : ℕ → List ℕ → Exchange → List ℕ → Type 0
AsksFor port bytes (talked talk closes) after =
    AsksDesk port bytes (record { request = talk.request; closes = closes }) after
AsksFor port bytes (shown ask page closes) after = AsksPage port bytes ask closes after
AsksFor port bytes (unsaid talk closes) after =
    AsksDesk port bytes (record { request = talk.request; closes = closes }) after
AsksFor port bytes unheard after = bytes ≡ after

-- the bytes are what these exchanges asked, of which the last alone may close the connection, and then the rest
abbrev pub Reads : ℕ → List ℕ → List Exchange → List ℕ → Type 0
Reads port bytes [] rest = bytes ≡ rest
Reads port bytes (x ∷ xs) rest =
    (after : List ℕ) × AsksFor port bytes x after × (IsTrue (closes_of x) → xs ≡ []) × Reads port after xs rest

-- one of them closes the connection
abbrev pub is_closed : List Exchange → Bool
is_closed [] = false
is_closed (x ∷ xs) = closes_of x || is_closed xs

-- the bytes due for them
abbrev pub due_for : List Exchange → List ℕ
due_for xs = flat_map text_of xs

-- the requests of the desk among them, with their answers
abbrev pub talks_in : List Exchange → List Talk
talks_in xs = flat_map talks_of xs

-- the front is refused so: it is asked from elsewhere; or it is no page, and its message is refused
abbrev pub IsRefused : ℕ → List ℕ → ℕ → Type 0
IsRefused port bytes status =
    ((status ≡ 403) × IsFromElsewhere port bytes)
    ⊎ (Stops bytes status × IsFromHere port bytes × HasNoPage bytes)

-- nothing whole stands at the front, and more may be read
abbrev pub Pends : ℕ → List ℕ → Type 0
Pends port bytes = Waits bytes ⊎ IsPageComing port bytes

-- nothing comes before so many bytes stand there
pub record PendsFor (port : ℕ) (bytes : List ℕ) (need : ℕ) : Type 0 where
  pub now : Pends port bytes
  pub later : (more : List ℕ) → length (bytes ++ more) < need → Pends port (bytes ++ more)

-- so many bytes may be due before one more question is answered
abbrev pub most_due : ℕ
most_due = 65536

-- fewer bytes were due, these among them, before the last of these exchanges, if anything was asked
abbrev pub FewBefore : List ℕ → List Exchange → Type 0
FewBefore before xs = ((xs ≡ []) ⊎ (xs ≡ unheard ∷ []))
    ⊎ ((ys : List Exchange) × (zs : List Exchange) × (xs ≡ ys ++ zs) × (length zs ≤ 1)
    × (length (before ++ due_for ys) < most_due))

-- what pages rest on of what a clerk began with, beside the talks; and whether behind these talks it has room for one
-- more question
pub record Basis (B : Type 0) : Type 0 where
  pub begun : B
  pub has_room : List Talk → Bool

-- the clerk has room for one more question
abbrev pub room_of : {B : Type 0} → ClerkMoment (Basis B) → Bool
room_of clerk = clerk.start.has_room clerk.talks

module _ {B : Type 0} (shows : Basis B → List Talk → PageAsk → Page → Type 0) where
  -- a page shows what was answered before it
  abbrev pub IsShown : Basis B → List Talk → Exchange → Type 0
  IsShown basis talks (talked talk closes) = ⊤
  IsShown basis talks (shown ask page closes) = shows basis talks ask page
  IsShown basis talks (unsaid talk closes) = ⊤
  IsShown basis talks unheard = ⊤

  -- each of these exchanges came where the clerk had room, and each page shows what was answered before it
  abbrev pub AreShown : Basis B → List Talk → List Exchange → Type 0
  AreShown basis talks [] = ⊤
  AreShown basis talks (x ∷ xs) =
      (basis.has_room talks ≡ true) × IsShown basis talks x × AreShown basis (talks ++ talks_of x) xs

  -- the clerk heard the requests of these exchanges, answered them so, and showed these pages, each where it had room
  pub record Heard (old new : ClerkMoment (Basis B)) (xs : List Exchange) : Type 0 where
    pub grown : new.talks ≡ old.talks ++ talks_in xs
    pub start : new.start ≡ old.start
    pub pages : AreShown old.start old.talks xs
