-- Laws of exchanges.
use Rattle.std.proofs.Common.{◌≡◌, ◌≤◌, ◌<◌, ◌⊎◌, ℕ, Bool, true, false, List, [], ◌∷◌, ◌++◌, length, take, drop, refl, ap, sym, ◌∙◌, arith, append_assoc}
use Rattle.std.proofs.Common.{append-nil, inr}
use Rattle.std.proofs.lemmas.List.{take-append-le, drop-append-le, length-append}
use Rattle.std.proofs.lemmas.List.Concat.{flat_map-append}
use Rattle.http_answer.specs.AnswerText.{answer_text}
use Rattle.http_message.specs.Message.{Message}
use Rattle.http_message.proofs.ReadingLaws.{WholeHead-append, Asks-append}
use Rattle.http_page.specs.Pages.{PageAsk, PageHead, HasPageHead, AsksPage}
use Rattle.http_page.proofs.LookLaws.{one_head}
use Rattle.http_talk.specs.Hearing.{ClerkMoment}
use Rattle.http_talk.specs.declared.talk.Talk.{Talk}
use Rattle.sms_construct.specs.declared.entry.Answer.{Answer}
use Rattle.http_flow.specs.Exchange.{Basis, Exchange, talked, shown, unsaid, unheard, closes_of, text_of, talks_of, AsksDesk, AsksFor, Reads, is_closed, due_for, talks_in, FewBefore, most_due, AreShown, Heard, room_of}
use Rattle.http_flow.specs.PageText.{status_line}
use Rattle.http_flow.specs.declared.page.Page.{Page}
use Rattle.http_flow.specs.declared.page.PageStatus.{PageStatus}
use Rattle.http_flow.specs.declared.page.PageStatus.TheVariants as statuses

pub is_closed-append : (xs ys : List Exchange) → is_closed xs ≡ false → is_closed (xs ++ ys) ≡ is_closed ys
is_closed-append [] ys h = refl
is_closed-append (x ∷ xs) ys h = grind (arith, is_closed-append xs ys)

-- more bytes leave what was asked as it is
AsksDesk-append : (port : ℕ) (bytes : List ℕ) (m : Message) (after more : List ℕ) → AsksDesk port bytes m after → AsksDesk port (bytes ++ more) m (after ++ more)
AsksDesk-append port bytes m after more h = record {
  asks = Asks-append bytes m after more h.asks;
  here = λ head rest whole. rw (sym (one_head (bytes ++ more) h.asks.head head (h.asks.rest ++ more) rest (WholeHead-append bytes h.asks.head h.asks.rest more h.asks.whole) whole)) (h.here h.asks.head h.asks.rest h.asks.whole);
}

pub HasPageHead-append : (port : ℕ) (bytes : List ℕ) (page : PageHead) (rest more : List ℕ) → HasPageHead port bytes page rest → HasPageHead port (bytes ++ more) page (rest ++ more)
HasPageHead-append port bytes page rest more h = record { head = h.head; whole = WholeHead-append bytes h.head rest more h.whole; here = h.here; is_page = h.is_page }

AsksPage-append : (port : ℕ) (bytes : List ℕ) (ask : PageAsk) (closes : Bool) (after more : List ℕ) → AsksPage port bytes ask closes after → AsksPage port (bytes ++ more) ask closes (after ++ more)
AsksPage-append port bytes ask closes after more h = record {
  page = h.page;
  rest = h.rest ++ more;
  head = HasPageHead-append port bytes h.page h.rest more h.head;
  long = omega (arith, h.long, length-append h.rest more);
  ask_is = rw (take-append-le h.page.size h.rest more h.long) h.ask_is;
  closes_is = h.closes_is;
  after_is = ap (λ l. l ++ more) h.after_is ∙ sym (drop-append-le h.page.size h.rest more h.long);
}

pub AsksFor-append : (port : ℕ) (bytes : List ℕ) (x : Exchange) (after more : List ℕ) → AsksFor port bytes x after → AsksFor port (bytes ++ more) x (after ++ more)
AsksFor-append port bytes (talked talk closes) after more h = AsksDesk-append port bytes (record { request = talk.request; closes = closes }) after more h
AsksFor-append port bytes (shown ask page closes) after more h = AsksPage-append port bytes ask closes after more h
AsksFor-append port bytes (unsaid talk closes) after more h = AsksDesk-append port bytes (record { request = talk.request; closes = closes }) after more h
AsksFor-append port bytes unheard after more h = ap (λ l. l ++ more) h

-- exchanges behind exchanges that close nothing
pub Reads-join : (port : ℕ) (bytes : List ℕ) (xs : List Exchange) (rest : List ℕ) (ys : List Exchange) (last : List ℕ) → Reads port bytes xs rest → is_closed xs ≡ false → Reads port rest ys last → Reads port bytes (xs ++ ys) last
Reads-join port bytes [] rest ys last h goes_on k = rw h k
Reads-join port bytes (x ∷ xs) rest ys last h goes_on k = (h.0, h.1, (λ closes. grind arith), Reads-join port h.0 xs rest ys last h.3 (grind arith) k)

pub Reads-append : (port : ℕ) (bytes : List ℕ) (xs : List Exchange) (rest more : List ℕ) → Reads port bytes xs rest → Reads port (bytes ++ more) xs (rest ++ more)
Reads-append port bytes [] rest more h = ap (λ l. l ++ more) h
Reads-append port bytes (x ∷ xs) rest more h = (h.0 ++ more, AsksFor-append port bytes x h.0 more h.1, h.2, Reads-append port h.0 xs rest more h.3)

pub Reads-one : (port : ℕ) (bytes after : List ℕ) (x : Exchange) → AsksFor port bytes x after → Reads port bytes (x ∷ []) after
Reads-one port bytes after x h = (after, h, (λ _. refl), refl)

pub closed_one : (x : Exchange) (b : Bool) → closes_of x ≡ b → is_closed (x ∷ []) ≡ b
closed_one x true h = grind arith
closed_one x false h = grind arith

pub due-append : (xs ys : List Exchange) → due_for (xs ++ ys) ≡ due_for xs ++ due_for ys
due-append xs ys = flat_map-append text_of xs ys

pub due-one : (x : Exchange) → due_for (x ∷ []) ≡ text_of x
due-one x = append-nil (text_of x)

pub talks-append : (xs ys : List Exchange) → talks_in (xs ++ ys) ≡ talks_in xs ++ talks_in ys
talks-append xs ys = flat_map-append talks_of xs ys

-- each answer and each page has some bytes
abbrev has_none : List ℕ → Bool
has_none [] = true
has_none (x ∷ xs) = false

answer_some : (closes : Bool) (answer : Answer) → answer_text closes answer ≡ [] → ⊥
answer_some closes answer h = let bad : false ≡ true = ap has_none h in absurd (cc bad)

status_some : (status : PageStatus) (more : List ℕ) → status_line status ++ more ≡ [] → ⊥
status_some statuses.Shown more h = let bad : false ≡ true = ap has_none h in absurd (cc bad)
status_some statuses.Bad more h = let bad : false ≡ true = ap has_none h in absurd (cc bad)
status_some statuses.Missing more h = let bad : false ≡ true = ap has_none h in absurd (cc bad)
status_some statuses.NotAllowed more h = let bad : false ≡ true = ap has_none h in absurd (cc bad)

pub nothing_behind : (bytes more : List ℕ) → bytes ++ more ≡ [] → (bytes ≡ []) × (more ≡ [])
nothing_behind [] more h = (refl, h)
nothing_behind (x ∷ bytes) more h = let bad : x ∷ (bytes ++ more) ≡ [] = h in absurd (cc bad)

-- where nothing is due, nothing was asked
due_first : (x : Exchange) (xs : List Exchange) → is_closed (x ∷ xs) ≡ false → text_of x ≡ [] → ⊥
due_first (talked talk closes) xs goes_on h = answer_some closes talk.answer h
due_first (shown ask page closes) xs goes_on h = status_some page.status _ h
due_first (unsaid talk closes) xs goes_on h = let bad : true ≡ false = goes_on in absurd (cc bad)
due_first unheard xs goes_on h = let bad : true ≡ false = goes_on in absurd (cc bad)

pub due_none : (xs : List Exchange) → is_closed xs ≡ false → due_for xs ≡ [] → xs ≡ []
due_none [] goes_on h = refl
due_none (x ∷ xs) goes_on h = absurd (due_first x xs goes_on (nothing_behind (text_of x) (due_for xs) h).0)

-- few bytes were due before the last one
pub few_more : (before : List ℕ) (xs zs : List Exchange) → length (before ++ due_for xs) < most_due → length zs ≤ 1 → FewBefore before (xs ++ zs)
few_more before xs zs few one = inr (xs, zs, refl, one, few)

module _ {B : Type 0} (shows : Basis B → List Talk → PageAsk → Page → Type 0) where
  pub AreShown-append : (start : Basis B) (talks : List Talk) (xs ys : List Exchange) → AreShown shows start talks xs → AreShown shows start (talks ++ talks_in xs) ys → AreShown shows start talks (xs ++ ys)
  AreShown-append start talks [] ys h k = rw (append-nil talks) at k
  AreShown-append start talks (x ∷ xs) ys h k = (h.0, h.1, AreShown-append start (talks ++ talks_of x) xs ys h.2 (rw (append_assoc talks (talks_of x) (talks_in xs)) k))

  pub Heard-nil : (a : ClerkMoment (Basis B)) → Heard shows a a []
  Heard-nil a = record { grown = sym (append-nil a.talks); start = refl; pages = tt }

  pub Heard-still : (a b : ClerkMoment (Basis B)) → b.talks ≡ a.talks → b.start ≡ a.start → Heard shows a b []
  Heard-still a b talks start = record { grown = talks ∙ sym (append-nil a.talks); start = start; pages = tt }

  pub Heard-join : (a b c : ClerkMoment (Basis B)) (xs ys : List Exchange) → Heard shows a b xs → Heard shows b c ys → Heard shows a c (xs ++ ys)
  Heard-join a b c xs ys h k = record {
    grown = k.grown ∙ ap (λ l. l ++ talks_in ys) h.grown ∙ append_assoc a.talks (talks_in xs) (talks_in ys) ∙ ap (λ l. a.talks ++ l) (sym (talks-append xs ys));
    start = k.start ∙ h.start;
    pages = AreShown-append a.start a.talks xs ys h.pages (rw (h.start, h.grown) at k.pages);
  }

  -- one request was heard
  pub Heard-talked : (a b : ClerkMoment (Basis B)) (talk : Talk) (closes : Bool) → room_of a ≡ true → b.talks ≡ a.talks ++ talk ∷ [] → b.start ≡ a.start → Heard shows a b (talked talk closes ∷ [])
  Heard-talked a b talk closes room grown start = record { grown = grown; start = start; pages = (room, tt, tt) }

  -- one page was shown
  pub Heard-shown : (a : ClerkMoment (Basis B)) (ask : PageAsk) (page : Page) (closes : Bool) → room_of a ≡ true → shows a.start a.talks ask page → Heard shows a a (shown ask page closes ∷ [])
  Heard-shown a ask page closes room is = record { grown = sym (append-nil a.talks); start = refl; pages = (room, is, tt) }

  -- memory was wanting for the answer, or for what came
  pub Heard-unsaid : (a b : ClerkMoment (Basis B)) (talk : Talk) (closes : Bool) → room_of a ≡ true → b.talks ≡ a.talks ++ talk ∷ [] → b.start ≡ a.start → Heard shows a b (unsaid talk closes ∷ [])
  Heard-unsaid a b talk closes room grown start = record { grown = grown; start = start; pages = (room, tt, tt) }

  pub Heard-unheard : (a b : ClerkMoment (Basis B)) → room_of a ≡ true → b.talks ≡ a.talks → b.start ≡ a.start → Heard shows a b (unheard ∷ [])
  Heard-unheard a b room talks start = record { grown = talks ∙ sym (append-nil a.talks); start = start; pages = (room, tt, tt) }
