-- What answering the questions at the front of a buffer does.
use Rattle.std.specs.Prelude.{◌≡◌, ◌⊎◌, ℕ, ◌≤◌, ◌<◌, Bool, true, false, List, [], ◌∷◌, ◌++◌, length, drop}
use Rattle.std.specs.Prelude.{Result, Ok, Err}
use Rattle.http_answer.specs.AnswerText.{answer_text}
use Rattle.http_page.specs.Pages.{PageAsk}
use Rattle.http_talk.specs.Hearing.{ClerkMoment}
use Rattle.http_talk.specs.declared.talk.Talk.{Talk}
use Rattle.sms_construct.specs.declared.entry.Answer.{Answer}
use Rattle.sms_construct.specs.declared.request.Request.{Request}
use Rattle.http_flow.specs.Exchange.{Terms, Exchange, Reads, is_closed, due_for, IsRefused, PendsFor, FewBefore, Heard}
use Rattle.http_flow.specs.Exchange.{Basis, most_due, room_of}
use Rattle.http_flow.specs.declared.answering.Answered.{Answered}
use Rattle.http_flow.specs.declared.answering.Answered.TheVariants as answered
use Rattle.http_flow.specs.declared.answering.Front.{Front}
use Rattle.http_flow.specs.declared.answering.Front.TheVariants as fronts
use Rattle.http_flow.specs.declared.page.Page.{Page}

-- one request was answered; or memory was wanting, before it was heard or behind that
abbrev pub IsOne : {S T E : Type 0} → ClerkMoment S → ClerkMoment S → Request → Bool → List ℕ → List ℕ → Result T E
    → Type 0
IsOne old new request closes out out' (Ok unit) =
    (answer : Answer) × (new.talks ≡ old.talks ++ record { request = request; answer = answer } ∷ [])
    × (new.start ≡ old.start) × (out' ≡ out ++ answer_text closes answer)
IsOne old new request closes out out' (Err e) =
    ((new.talks ≡ old.talks)
    ⊎ ((answer : Answer) × (new.talks ≡ old.talks ++ record { request = request; answer = answer } ∷ [])))
    × (new.start ≡ old.start) × (out' ≡ out)

-- a refusal was put behind what is due, or memory for it was wanting
abbrev pub IsRefusal : (ℕ → List ℕ) → ℕ → List ℕ → List ℕ → Answered → Type 0
IsRefusal refusal status out out' (answered.On len) = ⊥
IsRefusal refusal status out out' answered.Last = ⊥
IsRefusal refusal status out out' (answered.Waits need) = ⊥
IsRefusal refusal status out out' (answered.Refused told) = (told ≡ status) × (out' ≡ out ++ refusal status)
IsRefusal refusal status out out' answered.NoMemory = out' ≡ out

-- what the first question came to
abbrev pub IsNextEnd : Terms → List ℕ → List Exchange → List ℕ → List ℕ → List ℕ → Answered → Type 0
IsNextEnd terms buf xs rest out out' (answered.On len) =
    (is_closed xs ≡ false) × (rest ≡ drop len buf) × (0 < len) × (len ≤ length buf) × (out' ≡ out ++ due_for xs)
IsNextEnd terms buf xs rest out out' answered.Last = (is_closed xs ≡ true) × (out' ≡ out ++ due_for xs)
IsNextEnd terms buf xs rest out out' (answered.Waits need) =
    (xs ≡ []) × (rest ≡ buf) × (out' ≡ out) × PendsFor terms.port buf need
IsNextEnd terms buf xs rest out out' (answered.Refused status) =
    (xs ≡ []) × (rest ≡ buf) × (out' ≡ out ++ terms.refusal status) × IsRefused terms.port buf status
IsNextEnd terms buf xs rest out out' answered.NoMemory = (is_closed xs ≡ true) × (out' ≡ out ++ due_for xs)

-- why it went no further
abbrev pub IsFrontEnd : Terms → List ℕ → List Exchange → List ℕ → List ℕ → List ℕ → Front → Type 0
IsFrontEnd terms buf xs rest before out (fronts.Waits at need) =
    (rest ≡ drop at buf) × (is_closed xs ≡ false) × (out ≡ before ++ due_for xs) × PendsFor terms.port rest need
IsFrontEnd terms buf xs rest before out (fronts.Full at) =
    (rest ≡ drop at buf) × (is_closed xs ≡ false) × (out ≡ before ++ due_for xs)
IsFrontEnd terms buf xs rest before out fronts.Closed = (is_closed xs ≡ true) × (out ≡ before ++ due_for xs)
IsFrontEnd terms buf xs rest before out (fronts.Refused status) =
    (is_closed xs ≡ false) × (out ≡ before ++ (due_for xs ++ terms.refusal status)) × IsRefused terms.port rest status
    × (length (before ++ due_for xs) < most_due)
IsFrontEnd terms buf xs rest before out fronts.NoMemory = (is_closed xs ≡ true) × (out ≡ before ++ due_for xs)

-- questions may be held where as many bytes are due as may be, or the clerk has no room
abbrev pub IsFullFor : {B : Type 0} → ClerkMoment (Basis B) → List ℕ → Front → Type 0
IsFullFor clerk out front =
    (at : ℕ) → front ≡ fronts.Full at → (most_due ≤ length out) ⊎ (room_of clerk ≡ false)

-- the place where the rest begins lies in the buffer
abbrev pub IsPlace : List ℕ → Front → Type 0
IsPlace buf (fronts.Waits at need) = at ≤ length buf
IsPlace buf (fronts.Full at) = at ≤ length buf
IsPlace buf fronts.Closed = 0 ≤ length buf
IsPlace buf (fronts.Refused status) = 0 ≤ length buf
IsPlace buf fronts.NoMemory = 0 ≤ length buf

module _ {B : Type 0} (terms : Terms) (shows : Basis B → List Talk → PageAsk → Page → Type 0) where
  -- the first question of a buffer was answered, if it is whole
  pub record IsNext (old new : ClerkMoment (Basis B)) (buf out out' : List ℕ) (result : Answered) : Type 0 where
    pub xs : List Exchange
    pub rest : List ℕ
    pub one : length xs ≤ 1
    pub reads : Reads terms.port buf xs rest
    pub heard : Heard shows old new xs
    pub is_end : IsNextEnd terms buf xs rest out out' result

  -- the questions up to `at` were answered behind what was due, and none of them closes the connection
  pub record HasAnswered (old new : ClerkMoment (Basis B)) (buf : List ℕ) (at : ℕ) (before out : List ℕ) : Type 0 where
    pub xs : List Exchange
    pub within : at ≤ length buf
    pub reads : Reads terms.port buf xs (drop at buf)
    pub goes_on : is_closed xs ≡ false
    pub heard : Heard shows old new xs
    pub out_is : out ≡ before ++ due_for xs
    pub few : FewBefore before xs

  -- so many questions of a buffer were answered, and it went no further for this
  pub record IsFront (old new : ClerkMoment (Basis B)) (buf before out : List ℕ) (front : Front) : Type 0 where
    pub xs : List Exchange
    pub rest : List ℕ
    pub place : IsPlace buf front
    pub reads : Reads terms.port buf xs rest
    pub heard : Heard shows old new xs
    pub few : FewBefore before xs
    pub is_end : IsFrontEnd terms buf xs rest before out front
    pub full : IsFullFor new out front
