-- What the head at the front of a buffer shows, and that it is one alone.
use Rattle.std.proofs.Common.{◌≡◌, ◌≤◌, ◌<◌, ℕ, Bool, true, false, List, [], ◌∷◌, ◌++◌, length, drop, take, map, None, Some, refl, ap, sym, ◌∙◌, arith, append-nil, length-append}
use Rattle.std.specs.List.{list_all}
use Rattle.std.specs.Prelude.{Option, option_map, if◌then◌else◌}
use Rattle.httparse.specs.Grammar.{RequestHead, print_request}
use Rattle.httparse.specs.Spans.{header_bytes, span_bytes}
use Rattle.httparse.specs.declared.spans.HeaderSpan.{HeaderSpan}
use Rattle.httparse.specs.declared.spans.RequestSpans.{RequestSpans}
use Rattle.httparse.proofs.GrammarLemmas.{ReadsRequest-append, request_prefix_free}
use Rattle.desk_common.specs.Limits.{most_deck_bytes}
use Rattle.http_head.specs.Heads.{IsHeadAt, WholeHead, HasNoWholeHead}
use Rattle.http_head.specs.Headers.{headers_of}
use Rattle.http_page.specs.Sites.{is_own, is_asked_here}
use Rattle.http_page.specs.Pages.{PageHead, asks_page, page_size, page_in, page_of, IsFromElsewhere, IsFromHere, HasNoPage, HasPageHead, IsPageAt}

-- a front is one head at most
pub one_head : (buf : List ℕ) (h k : RequestHead) (r s : List ℕ) → WholeHead buf h r → WholeHead buf k s → h ≡ k
one_head buf h k r s one two = (request_prefix_free buf [] h k r s one.reads (rw (append-nil buf) two.reads)).0

-- a request head has bytes
some_head : (head : RequestHead) → 0 < length (print_request head)
unfolding print_request
some_head head = grind (arith, length-append)

-- where there is no whole head nothing shows
pub none_here : (port : ℕ) (buf : List ℕ) → HasNoWholeHead buf → IsFromHere port buf
none_here port buf none head rest whole = absurd (none head rest whole)

pub none_page : (buf : List ℕ) → HasNoWholeHead buf → HasNoPage buf
none_page buf none head rest whole = absurd (none head rest whole)

-- the first header names no other site, so the others decide
pub own_rest : (port : ℕ) (buf : List ℕ) (rest headers : List HeaderSpan) (x : HeaderSpan) (others : List HeaderSpan) → rest ≡ x ∷ others → is_own port (header_bytes buf x) ≡ true → list_all (is_own port) (map (header_bytes buf) rest) ≡ list_all (is_own port) (map (header_bytes buf) headers) → list_all (is_own port) (map (header_bytes buf) others) ≡ list_all (is_own port) (map (header_bytes buf) headers)
own_rest port buf rest headers x others is own same =
    let first : list_all (is_own port) (map (header_bytes buf) (x ∷ others)) ≡ list_all (is_own port) (map (header_bytes buf) headers) = rw is at same in
    grind (arith, own, first)

-- no length is stated
unstated : (asks : Bool) {o : Option ℕ} (make : ℕ → PageHead) → o ≡ None → (if asks then option_map make o else None) ≡ None
unstated true make is = rw is refl
unstated false make is = refl

module _ (port : ℕ) (buf : List ℕ) (headers : List HeaderSpan) (spans : RequestSpans) (head : RequestHead) (h : IsHeadAt buf headers spans head) where
  pub elsewhere_at : is_asked_here port (map (header_bytes buf) (take spans.headers headers)) ≡ false → IsFromElsewhere port buf
  elsewhere_at is = record { head = head; rest = drop spans.len buf; whole = h.whole; elsewhere = rw h.at.fields at is }

  pub here_at : is_asked_here port (map (header_bytes buf) (take spans.headers headers)) ≡ true → IsFromHere port buf
  here_at is other rest whole = rw (one_head buf head other (drop spans.len buf) rest h.whole whole) at (rw h.at.fields at is)

  page_is : (found : Option PageHead) → page_in (span_bytes buf spans.method) (span_bytes buf spans.path) spans.version (map (header_bytes buf) (take spans.headers headers)) ≡ found → page_of head ≡ found
  page_is found is = rw (h.at.method, h.at.path, h.at.version, h.at.fields) at is

  pub no_page_at : page_in (span_bytes buf spans.method) (span_bytes buf spans.path) spans.version (map (header_bytes buf) (take spans.headers headers)) ≡ None → HasNoPage buf
  no_page_at is other rest whole = rw (one_head buf head other (drop spans.len buf) rest h.whole whole) at (page_is None is)

  -- it is asked from here, and asks for no page
  pub not_asked : is_asked_here port (map (header_bytes buf) (take spans.headers headers)) ≡ true → asks_page (span_bytes buf spans.method) (span_bytes buf spans.path) ≡ false → IsFromHere port buf × HasNoPage buf
  not_asked here is = (here_at here, no_page_at (rw is refl))

  pub not_stated : is_asked_here port (map (header_bytes buf) (take spans.headers headers)) ≡ true → page_size (map (header_bytes buf) (take spans.headers headers)) ≡ None → IsFromHere port buf × HasNoPage buf
  not_stated here is = (here_at here, no_page_at (unstated _ _ is))

  pub page_at : (page : PageHead) → is_asked_here port (map (header_bytes buf) (take spans.headers headers)) ≡ true → page_in (span_bytes buf spans.method) (span_bytes buf spans.path) spans.version (map (header_bytes buf) (take spans.headers headers)) ≡ Some page → page.size ≤ most_deck_bytes → IsPageAt port buf page spans.len
  page_at page here is small = record {
    within = h.within.section.len_fits;
    some = omega (arith, h.at.len, some_head head);
    early = omega (arith, h.at.len, h.whole.length_fits);
    small = small;
    head = record { head = head; whole = h.whole; here = rw h.at.fields at here; is_page = page_is (Some page) is };
  }
