-- A page is asked for only where the desk's message would be refused.
use Rattle.std.proofs.Common.{◌≡◌, ◌⊎◌, ℕ, Bool, true, false, List, None, Some, Ok, Err, refl, ap, sym, ◌∙◌, inl, inr}
use Rattle.std.specs.Prelude.{Option, Result, codes, bytes_eq, not, is_some, ◌&&◌, ◌||◌, if◌then◌else◌, option_map}
use Rattle.std.proofs.lemmas.Bool.{and_parts}
use Rattle.std.proofs.lemmas.Slice.Eq.{bytes_eq-Decides}
use Rattle.httparse.specs.Grammar.{RequestHead}
use Rattle.http_head.specs.Headers.{Header, headers_of}
use Rattle.http_head.specs.Routes.{route_of}
use Rattle.http_head.specs.Segments.{is_path}
use Rattle.http_head.specs.declared.route.Route.{Route}
use Rattle.http_message.specs.Message.{behind, shown_in, shown_of}
use Rattle.http_message.specs.Conversation.{Refuses}
use Rattle.http_page.specs.Pages.{PageAsk, PageHead, AsksPage, asks_page, page_of}

one_of : (a b : Bool) → (a || b) ≡ true → (a ≡ true) ⊎ (b ≡ true)
one_of true b h = inl refl
one_of false b h = inr h

-- by GET at a path, or by POST at one without a route
refused_ask : (method target : List ℕ) (minor : ℕ) (headers : List Header) (path : Bool) (found : Option Route) → is_path target ≡ path → path ≡ true → route_of target ≡ found → (bytes_eq method (codes "GET") || (bytes_eq method (codes "POST") && not (is_some found))) ≡ true → (shown_in method target minor headers ≡ Err 404) ⊎ (shown_in method target minor headers ≡ Err 405)
refused_ask method target minor headers path None is begins route h = inl (rw (is ∙ begins) (rw route refl))
refused_ask method target minor headers path (Some r) is begins route h = elim (one_of _ _ h) [
  | inl get ↦ let same : method ≡ codes "GET" = (bytes_eq-Decides method (codes "GET")).0 get in inr (rw same (rw (is ∙ begins) (rw route refl)))
  | inr post ↦ absurd (cc (and_parts (bytes_eq method (codes "POST")) false post).1)
]

asked : (asks : Bool) (o : Option PageHead) (page : PageHead) → (if asks then o else None) ≡ Some page → asks ≡ true
asked true o page h = refl
asked false o page h = absurd (cc h)

page_shown : (head : RequestHead) (page : PageHead) → page_of head ≡ Some page → (shown_of head ≡ Err 404) ⊎ (shown_of head ≡ Err 405)
page_shown head page h =
    let asks = asked (asks_page head.method head.target) _ page h in
    let parts = and_parts (is_path head.target) _ asks in
    refused_ask head.method head.target head.minor (headers_of head) (is_path head.target) (route_of head.target) refl parts.0 refl parts.1

pub page_is_refused : (port : ℕ) (bytes : List ℕ) (ask : PageAsk) (closes : Bool) (after : List ℕ) → AsksPage port bytes ask closes after → Refuses bytes 404 ⊎ Refuses bytes 405
page_is_refused port bytes ask closes after h = elim (page_shown h.head.head h.page h.head.is_page) [
  | inl is ↦ inl (record { head = h.head.head; rest = h.rest; whole = h.head.whole; is = ap (λ s. behind s h.rest) is })
  | inr is ↦ inr (record { head = h.head.head; rest = h.rest; whole = h.head.whole; is = ap (λ s. behind s h.rest) is })
]
