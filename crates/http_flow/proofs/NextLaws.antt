-- The first question of a buffer.
use Rattle.std.proofs.Common.{◌≡◌, ◌≤◌, ◌<◌, ◌+◌, ◌-◌, ℕ, Bool, true, false, List, [], ◌∷◌, ◌++◌, length, take, drop, inl, inr, refl, ap, sym, ◌∙◌, arith}
use Rattle.std.proofs.Common.{append-nil, append_assoc, Ok, Err}
use Rattle.std.specs.Prelude.{Result, OnErr, OnOk, is_err}
use Rattle.std.proofs.lemmas.List.{drop-drop, length-append, length-drop}
use Rattle.http_answer.specs.AnswerText.{answer_text}
use Rattle.http_message.specs.Message.{Message}
use Rattle.http_message.specs.Conversation.{Asks, Stops}
use Rattle.http_message.specs.Reading.{IsAskedAt, WaitsFor}
use Rattle.http_page.specs.Pages.{PageAsk, PageHead, HasPageHead, AsksPage, IsPageAt, IsFromHere, IsFromElsewhere, HasNoPage, ask_of}
use Rattle.http_talk.specs.Hearing.{ClerkMoment}
use Rattle.http_talk.specs.declared.talk.Talk.{Talk}
use Rattle.sms_construct.specs.declared.request.Request.{Request}
use Rattle.http_flow.specs.Exchange.{Basis, Terms, Exchange, talked, shown, unsaid, unheard, AsksDesk, AsksFor, closes_of, is_closed, due_for, text_of, PendsFor, IsRefused, Heard, room_of}
use Rattle.http_flow.specs.PageText.{page_text}
use Rattle.http_flow.specs.Inner.Fronts.{IsOne, IsRefusal, IsNext}
use Rattle.http_flow.specs.declared.answering.Answered.{Answered}
use Rattle.http_flow.specs.declared.answering.Answered.TheVariants as answered
use Rattle.http_flow.specs.declared.page.Page.{Page}
use Rattle.http_flow.proofs.ExchangeLaws.{Reads-one, closed_one, due-one, HasPageHead-append, Heard-still, Heard-nil, Heard-talked, Heard-shown, Heard-unsaid, Heard-unheard}

-- the desk's message comes, or more of it
pub pends_desk : (port : ℕ) (buf : List ℕ) (need : ℕ) → WaitsFor buf need → PendsFor port buf need
pends_desk port buf need w = record { now = inl w.now; later = λ more l. inl (w.later more l) }

-- the body of a page comes
pub pends_page : (port : ℕ) (buf : List ℕ) (page : PageHead) (start : ℕ) → IsPageAt port buf page start → length buf - start < page.size → PendsFor port buf (start + page.size)
pends_page port buf page start h short = record {
  now = inr (record { page = page; rest = drop start buf; head = h.head; short = omega (arith, short, length-drop start buf) });
  later = λ more l. inr (record {
    page = page;
    rest = drop start buf ++ more;
    head = HasPageHead-append port buf page (drop start buf) more h.head;
    short = omega (arith, l, h.within, length-append buf more, length-append (drop start buf) more, length-drop start buf);
  });
}

module _ {B : Type 0} (terms : Terms) (shows : Basis B → List Talk → PageAsk → Page → Type 0) (a b : ClerkMoment (Basis B)) (buf out out' : List ℕ) (room : room_of a ≡ true) where
  -- nothing was heard, since memory was wanting
  next_still : b.talks ≡ a.talks → b.start ≡ a.start → out' ≡ out → IsNext terms shows a b buf out out' answered.NoMemory
  next_still talks start is = record {
    xs = unheard ∷ [];
    rest = buf;
    one = omega arith;
    reads = Reads-one terms.port buf buf unheard refl;
    heard = Heard-unheard shows a b room talks start;
    is_end = (refl, is ∙ sym (append-nil out));
  }

  pub next_waits : (need : ℕ) → b.talks ≡ a.talks → b.start ≡ a.start → out' ≡ out → PendsFor terms.port buf need → IsNext terms shows a b buf out out' (answered.Waits need)
  next_waits need talks start is pends = record { xs = []; rest = buf; one = omega arith; reads = refl; heard = Heard-still shows a b talks start; is_end = (refl, refl, is, pends) }

  pub next_memory : b.talks ≡ a.talks → b.start ≡ a.start → out' ≡ out → IsNext terms shows a b buf out out' answered.NoMemory
  next_memory talks start is = next_still talks start is

  -- a page wasn't put
  pub shown_wanting : {T E : Type 0} (r : Result T E) → b ≡ a → OnErr r (out' ≡ out) → is_err r ≡ true → IsNext terms shows a b buf out out' answered.NoMemory
  shown_wanting (Ok t) same h err = absurd (cc err)
  shown_wanting (Err e) same h err = next_still (ap (λ (m : ClerkMoment (Basis B)). m.talks) same) (ap (λ (m : ClerkMoment (Basis B)). m.start) same) h

  -- a refusal
  pub next_refused : (status : ℕ) (r : Answered) → b.talks ≡ a.talks → b.start ≡ a.start → IsRefused terms.port buf status → IsRefusal terms.refusal status out out' r → IsNext terms shows a b buf out out' r
  next_refused status (answered.On len) talks start why h = absurd h
  next_refused status answered.Last talks start why h = absurd h
  next_refused status (answered.Waits need) talks start why h = absurd h
  next_refused status (answered.Refused told) talks start why h = record { xs = []; rest = buf; one = omega arith; reads = refl; heard = Heard-still shows a b talks start; is_end = (refl, refl, rw h.0 h.1, rw h.0 why) }
  next_refused status answered.NoMemory talks start why h = next_still talks start h

  -- an answer that goes on, and one that is the last
  next_on : (x : Exchange) (after : List ℕ) (len : ℕ) → AsksFor terms.port buf x after → after ≡ drop len buf → 0 < len → len ≤ length buf → closes_of x ≡ false → out' ≡ out ++ text_of x → Heard shows a b (x ∷ []) → IsNext terms shows a b buf out out' (answered.On len)
  next_on x after len asks at some within closes is heard = record {
    xs = x ∷ [];
    rest = after;
    one = omega arith;
    reads = Reads-one terms.port buf after x asks;
    heard = heard;
    is_end = (closed_one x false closes, at, some, within, is ∙ ap (λ l. out ++ l) (sym (due-one x)));
  }

  next_last : (x : Exchange) (after : List ℕ) → AsksFor terms.port buf x after → closes_of x ≡ true → out' ≡ out ++ text_of x → Heard shows a b (x ∷ []) → IsNext terms shows a b buf out out' answered.Last
  next_last x after asks closes is heard = record {
    xs = x ∷ [];
    rest = after;
    one = omega arith;
    reads = Reads-one terms.port buf after x asks;
    heard = heard;
    is_end = (closed_one x true closes, is ∙ ap (λ l. out ++ l) (sym (due-one x)));
  }

  -- a request was heard, and memory for its answer was wanting
  next_unsaid : (talk : Talk) (closes : Bool) (after : List ℕ) → AsksDesk terms.port buf (record { request = talk.request; closes = closes }) after → out' ≡ out → b.talks ≡ a.talks ++ talk ∷ [] → b.start ≡ a.start → IsNext terms shows a b buf out out' answered.NoMemory
  next_unsaid talk closes after asks is grown start = record {
    xs = unsaid talk closes ∷ [];
    rest = after;
    one = omega arith;
    reads = Reads-one terms.port buf after (unsaid talk closes) asks;
    heard = Heard-unsaid shows a b talk closes room grown start;
    is_end = (refl, is ∙ sym (append-nil out));
  }

  -- a message of the desk
  asks_desk : (len : ℕ) (request : Request) (closes : Bool) → IsAskedAt buf len (record { request = request; closes = closes }) → IsFromHere terms.port buf → AsksDesk terms.port buf (record { request = request; closes = closes }) (drop len buf)
  asks_desk len request closes at here = record { asks = at.asks; here = here }

  pub desk_on : {T E : Type 0} (r : Result T E) (len : ℕ) (request : Request) (closes : Bool) → IsAskedAt buf len (record { request = request; closes = closes }) → IsFromHere terms.port buf → IsOne a b request closes out out' r → is_err r ≡ false → closes ≡ false → IsNext terms shows a b buf out out' (answered.On len)
  desk_on (Err e) len request closes at here h ok goes = absurd (cc ok)
  desk_on (Ok t) len request closes at here h ok goes =
      let talk : Talk = record { request = request; answer = h.0 } in
      next_on (talked talk closes) (drop len buf) len (asks_desk len request closes at here) refl at.some at.within goes h.3 (Heard-talked shows a b talk closes room h.1 h.2)

  pub desk_last : {T E : Type 0} (r : Result T E) (len : ℕ) (request : Request) (closes : Bool) → IsAskedAt buf len (record { request = request; closes = closes }) → IsFromHere terms.port buf → IsOne a b request closes out out' r → is_err r ≡ false → closes ≡ true → IsNext terms shows a b buf out out' answered.Last
  desk_last (Err e) len request closes at here h ok last = absurd (cc ok)
  desk_last (Ok t) len request closes at here h ok last =
      let talk : Talk = record { request = request; answer = h.0 } in
      next_last (talked talk closes) (drop len buf) (asks_desk len request closes at here) last h.3 (Heard-talked shows a b talk closes room h.1 h.2)

  pub desk_wanting : {T E : Type 0} (r : Result T E) (len : ℕ) (request : Request) (closes : Bool) → IsAskedAt buf len (record { request = request; closes = closes }) → IsFromHere terms.port buf → IsOne a b request closes out out' r → is_err r ≡ true → IsNext terms shows a b buf out out' answered.NoMemory
  desk_wanting (Ok t) len request closes at here h err = absurd (cc err)
  desk_wanting (Err e) len request closes at here h err = elim h.0 [
    | inl same ↦ next_still same h.1 h.2
    | inr k ↦ let talk : Talk = record { request = request; answer = k.0 } in next_unsaid talk closes (drop len buf) (asks_desk len request closes at here) h.2 k.1 h.1
  ]

  -- a page
  asks_page_at : (page : PageHead) (start : ℕ) (body : List ℕ) → IsPageAt terms.port buf page start → page.size ≤ length buf - start → body ≡ take page.size (drop start buf) → AsksPage terms.port buf (record { posts = page.posts; path = page.path; body = body }) page.closes (drop (start + page.size) buf)
  asks_page_at page start body at long is = record {
    page = page;
    rest = drop start buf;
    head = at.head;
    long = omega (arith, long, length-drop start buf);
    ask_is = ap (λ (l : List ℕ). record { posts = page.posts; path = page.path; body = l }) is;
    closes_is = refl;
    after_is = sym (drop-drop page.size start buf);
  }

  page_on : (page : PageHead) (start : ℕ) (body : List ℕ) (shown_page : Page) → IsPageAt terms.port buf page start → page.size ≤ length buf - start → body ≡ take page.size (drop start buf) → b ≡ a → shows a.start a.talks (record { posts = page.posts; path = page.path; body = body }) shown_page → page.closes ≡ false → out' ≡ out ++ page_text shown_page page.closes → IsNext terms shows a b buf out out' (answered.On (start + page.size))
  page_on page start body shown_page at long is same shows_it goes written =
      next_on (shown (record { posts = page.posts; path = page.path; body = body }) shown_page page.closes) (drop (start + page.size) buf) (start + page.size) (asks_page_at page start body at long is) refl (omega (arith, at.some)) (omega (arith, at.within, long)) goes written
      (rw same (Heard-shown shows a (record { posts = page.posts; path = page.path; body = body }) shown_page page.closes room shows_it))

  page_last : (page : PageHead) (start : ℕ) (body : List ℕ) (shown_page : Page) → IsPageAt terms.port buf page start → page.size ≤ length buf - start → body ≡ take page.size (drop start buf) → b ≡ a → shows a.start a.talks (record { posts = page.posts; path = page.path; body = body }) shown_page → page.closes ≡ true → out' ≡ out ++ page_text shown_page page.closes → IsNext terms shows a b buf out out' answered.Last
  page_last page start body shown_page at long is same shows_it last written =
      next_last (shown (record { posts = page.posts; path = page.path; body = body }) shown_page page.closes) (drop (start + page.size) buf) (asks_page_at page start body at long is) last written
      (rw same (Heard-shown shows a (record { posts = page.posts; path = page.path; body = body }) shown_page page.closes room shows_it))

  -- what was shown
  abbrev WasShown : PageHead → List ℕ → Type 0
  WasShown page body = (shown_page : Page) × shows a.start a.talks (record { posts = page.posts; path = page.path; body = body }) shown_page × (out' ≡ out ++ page_text shown_page page.closes)

  pub shown_on : {T E : Type 0} (r : Result T E) (page : PageHead) (start : ℕ) (body : List ℕ) → IsPageAt terms.port buf page start → page.size ≤ length buf - start → body ≡ take page.size (drop start buf) → b ≡ a → OnOk r (WasShown page body) → is_err r ≡ false → page.closes ≡ false → IsNext terms shows a b buf out out' (answered.On (start + page.size))
  shown_on (Err e) page start body at long is same h ok goes = absurd (cc ok)
  shown_on (Ok t) page start body at long is same h ok goes = page_on page start body h.0 at long is same h.1 goes h.2

  pub shown_last : {T E : Type 0} (r : Result T E) (page : PageHead) (start : ℕ) (body : List ℕ) → IsPageAt terms.port buf page start → page.size ≤ length buf - start → body ≡ take page.size (drop start buf) → b ≡ a → OnOk r (WasShown page body) → is_err r ≡ false → page.closes ≡ true → IsNext terms shows a b buf out out' answered.Last
  shown_last (Err e) page start body at long is same h ok last = absurd (cc ok)
  shown_last (Ok t) page start body at long is same h ok last = page_last page start body h.0 at long is same h.1 last h.2
