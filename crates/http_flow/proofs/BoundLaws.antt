-- What waits is shorter than a message.
use Rattle.std.proofs.Common.{◌≡◌, ◌≤◌, ◌<◌, ◌+◌, ◌-◌, ◌⊎◌, ℕ, Bool, true, false, List, [], ◌∷◌, ◌++◌, length, take, drop, None, Some, Ok, Err, refl, ap, sym, ◌∙◌, arith, inl, inr, nat_lt, nat_le}
use Rattle.std.specs.Prelude.{Option, Result, option_map, if◌then◌else◌, bytes_eq, codes, not, ◌&&◌, replicate}
use Rattle.std.proofs.lemmas.List.{length-append, length-replicate}
use Rattle.httparse.specs.Grammar.{RequestHead, print_request}
use Rattle.desk_common.specs.Limits.{most_deck_bytes, most_line_bytes}
use Rattle.desk_common.specs.Steps.{◌⊳◌}
use Rattle.http_head.specs.Heads.{WholeHead, MayGoOn}
use Rattle.http_head.specs.Headers.{Header, headers_of, values_of, has_some, stated_length, asks_close}
use Rattle.http_head.specs.Routes.{route_of, takes_deck}
use Rattle.http_head.specs.Segments.{is_path}
use Rattle.sms_construct.specs.declared.request.Request.{Request}
use Rattle.http_message.specs.Asked.{asked_of}
use Rattle.http_message.specs.Message.{asking, body_reading, behind, most_body, shown_in, shown_of, unfinished}
use Rattle.http_message.specs.Conversation.{IsUnfinished, Waits}
use Rattle.http_message.specs.Refusals.{refuse_if, found_or}
use Rattle.http_message.specs.declared.shown.Taken.{Taken}
use Rattle.http_page.specs.Pages.{PageHead, IsPageComing, page_of, page_size, small_length, asks_page}
use Rattle.http_flow.specs.Exchange.{Pends, PendsFor}
use Rattle.http_flow.specs.Flow.{most_message}

-- the length of what begins with a whole head
whole_length : (bytes : List ℕ) (head : RequestHead) (rest : List ℕ) → WholeHead bytes head rest → length bytes ≤ 8192 + length rest
whole_length bytes head rest h = omega (arith, ap length h.reads.1, length-append (print_request head) rest, h.length_fits)

-- a body that isn't past its limit, and a path whose segments are as asked
long_body : {A T : Type 0} (size most : ℕ) (big : Bool) → nat_lt most size ≡ big → (asked : Option A) (make : A → T) (t : T) → (refuse_if 413 big ⊳ λ _. found_or 400 asked ⊳ λ a. Ok (make a)) ≡ Ok t → (a : A) × (t ≡ make a) × (size ≤ most)
long_body size most true is asked make t h = absurd (cc h)
long_body size most false is None make t h = absurd (cc h)
long_body size most false is (Some a) make t h = (a, cc h, grind (arith, is))

-- what the steps of a head found, where no refusal ended them
module _ {R A T : Type 0} where
  stated_body : (route : R) (deckless : Bool) (stated : Option ℕ) (most : ℕ) (asked : Option A) (make : ℕ → A → T) (t : T) → (refuse_if 411 deckless ⊳ λ _. found_or 400 stated ⊳ λ size. refuse_if 413 (nat_lt most size) ⊳ λ _. found_or 400 asked ⊳ λ a. Ok (make size a)) ≡ Ok t → (size : ℕ) × (a : A) × (t ≡ make size a) × (size ≤ most)
  stated_body route true stated most asked make t h = absurd (cc h)
  stated_body route false None most asked make t h = absurd (cc h)
  stated_body route false (Some size) most asked make t h = let k = long_body size most (nat_lt most size) refl asked (make size) t h in (size, k.0, k.1, k.2)

  abbrev steps : Bool → Option R → Bool → Bool → (R → Bool) → Option ℕ → (R → ℕ) → (R → Option A) → (R → ℕ → A → T) → Result T ℕ
  steps pathless route other coded deckless stated most asked make =
      refuse_if 400 pathless ⊳ λ _. found_or 404 route ⊳ λ r. refuse_if 405 other ⊳ λ _. refuse_if 501 coded ⊳ λ _. refuse_if 411 (deckless r) ⊳ λ _. found_or 400 stated ⊳ λ size. refuse_if 413 (nat_lt (most r) size) ⊳ λ _. found_or 400 (asked r) ⊳ λ a. Ok (make r size a)

  whole_steps : (pathless : Bool) (route : Option R) (other coded : Bool) (deckless : R → Bool) (stated : Option ℕ) (most : R → ℕ) (asked : R → Option A) (make : R → ℕ → A → T) (t : T) → steps pathless route other coded deckless stated most asked make ≡ Ok t → (r : R) × (size : ℕ) × (a : A) × (t ≡ make r size a) × (size ≤ most r)
  whole_steps true route other coded deckless stated most asked make t h = absurd (cc h)
  whole_steps false None other coded deckless stated most asked make t h = absurd (cc h)
  whole_steps false (Some r) true coded deckless stated most asked make t h = absurd (cc h)
  whole_steps false (Some r) false true deckless stated most asked make t h = absurd (cc h)
  whole_steps false (Some r) false false deckless stated most asked make t h = let k = stated_body r (deckless r) stated (most r) (asked r) (make r) t h in (r, k.0, k.1, k.2, k.3)

small_most : (b : Bool) → (if b then most_deck_bytes else most_line_bytes) ≤ most_deck_bytes
small_most true = omega arith
small_most false = omega arith

-- a body that a head takes is within the greatest limit
shown_small : (method target : List ℕ) (minor : ℕ) (headers : List Header) (taken : Taken) → shown_in method target minor headers ≡ Ok taken → taken.size ≤ most_deck_bytes
shown_small method target minor headers taken h =
    let k = whole_steps (not (is_path target)) (route_of target) (not (bytes_eq method (codes "POST"))) (has_some (values_of (codes "transfer-encoding") headers)) (λ route. takes_deck route && not (has_some (values_of (codes "content-length") headers))) (stated_length (values_of (codes "content-length") headers)) most_body (λ route. asked_of route target) (λ route size asked. record { route = route; asked = asked; size = size; closes = asks_close minor headers }) taken h in
    let size : taken.size ≡ k.1 = ap (λ (t : Taken). t.size) k.3 in
    let most : most_body k.0 ≤ most_deck_bytes = small_most (takes_deck k.0) in
    omega (arith, size, most, k.4)

-- an unfinished body is shorter than what its head takes
asking_ends : (o : Option Request) (closes : Bool) (after : List ℕ) → asking o closes after ≡ unfinished → ⊥
asking_ends None closes after h = absurd (cc h)
asking_ends (Some request) closes after h = absurd (cc h)

body_short : (b : Bool) (taken : Taken) (rest : List ℕ) → nat_lt (length rest) taken.size ≡ b → body_reading taken rest ≡ unfinished → length rest < taken.size
body_short true taken rest is h = grind (arith, is)
body_short false taken rest is h = absurd (asking_ends _ taken.closes (drop taken.size rest) (rw is at h))

behind_short : (s : Result Taken ℕ) (rest : List ℕ) → ((taken : Taken) → s ≡ Ok taken → taken.size ≤ most_deck_bytes) → behind s rest ≡ unfinished → length rest < most_deck_bytes
behind_short (Err status) rest small h = absurd (cc h)
behind_short (Ok taken) rest small h = omega (arith, small taken refl, body_short (nat_lt (length rest) taken.size) taken rest refl h)

unfinished_short : (bytes : List ℕ) → IsUnfinished bytes → length bytes < most_message
unfinished_short bytes u =
    let rest = behind_short (shown_of u.head) u.rest (λ taken is. shown_small u.head.method u.head.target u.head.minor (headers_of u.head) taken is) u.is in
    omega (arith, rest, whole_length bytes u.head u.rest u.whole)

-- the body of a page is within the greatest limit
length_small : (b : Bool) (size n : ℕ) → nat_le size most_deck_bytes ≡ b → (if b then Some size else None) ≡ Some n → n ≤ most_deck_bytes
length_small true size n is h = let same : size ≡ n = cc h in grind (arith, is, same)
length_small false size n is h = absurd (cc h)

small_small : (o : Option ℕ) (n : ℕ) → small_length o ≡ Some n → n ≤ most_deck_bytes
small_small None n h = absurd (cc h)
small_small (Some size) n h = length_small (nat_le size most_deck_bytes) size n refl h

stated_small : (coded : Bool) (o : Option ℕ) (n : ℕ) → (if coded then None else small_length o) ≡ Some n → n ≤ most_deck_bytes
stated_small true o n h = absurd (cc h)
stated_small false o n h = small_small o n h

page_small : (asks : Bool) (size : Option ℕ) (make : ℕ → PageHead) (page : PageHead) → ((n : ℕ) → (make n).size ≡ n) → ((n : ℕ) → size ≡ Some n → n ≤ most_deck_bytes) → (if asks then option_map make size else None) ≡ Some page → page.size ≤ most_deck_bytes
page_small false size make page sized small h = absurd (cc h)
page_small true None make page sized small h = absurd (cc h)
page_small true (Some n) make page sized small h = let same : make n ≡ page = cc h in omega (arith, small n refl, sized n, ap (λ (p : PageHead). p.size) same)

page_short : (head : RequestHead) (page : PageHead) → page_of head ≡ Some page → page.size ≤ most_deck_bytes
page_short head page h =
    page_small (asks_page head.method head.target) (page_size (headers_of head)) (λ size. record { posts = bytes_eq head.method (codes "POST"); path = head.target; size = size; closes = asks_close head.minor (headers_of head) }) page (λ n. refl)
    (λ n is. stated_small (has_some (values_of (codes "transfer-encoding") (headers_of head))) (stated_length (values_of (codes "content-length") (headers_of head))) n is) h

coming_short : (port : ℕ) (bytes : List ℕ) → IsPageComing port bytes → length bytes < most_message
coming_short port bytes c = omega (arith, c.short, page_short c.head.head c.page c.head.is_page, whole_length bytes c.head.head c.rest c.head.whole)

-- what waits is shorter than a message
pub pends_short : (port : ℕ) (bytes : List ℕ) → Pends port bytes → length bytes < most_message
pends_short port bytes (inl (inl none)) = omega (arith, ap length none)
pends_short port bytes (inl (inr (inl body))) = unfinished_short bytes body
pends_short port bytes (inl (inr (inr front))) = omega (arith, front.short)
pends_short port bytes (inr coming) = coming_short port bytes coming

-- and waits for no more than a message has
need_or : (port : ℕ) (bytes : List ℕ) (need : ℕ) (b : Bool) → nat_le need most_message ≡ b → PendsFor port bytes need → need ≤ most_message
need_or port bytes need true is h = grind (arith, is)
need_or port bytes need false is h =
    let over : most_message < need = grind (arith, is) in
    let more = replicate (most_message - length bytes) 0 in
    let size : length (bytes ++ more) ≡ length bytes + (most_message - length bytes) = length-append bytes more ∙ ap (λ n. length bytes + n) (length-replicate (most_message - length bytes) 0) in
    let before = pends_short port bytes h.now in
    absurd (omega (arith, over, size, before, pends_short port (bytes ++ more) (h.later more (omega (arith, over, size, before)))))

pub need_small : (port : ℕ) (bytes : List ℕ) (need : ℕ) → PendsFor port bytes need → need ≤ most_message
need_small port bytes need h = need_or port bytes need (nat_le need most_message) refl h
