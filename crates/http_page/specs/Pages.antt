-- Which pages are asked for (docs/manual/smsd.md, "Pages").
use Rattle.std.specs.Prelude.{◌≡◌, ◌≤◌, ◌<◌, ℕ, Bool, true, false, ◌&&◌, ◌||◌, not, List, length, take, drop, codes}
use Rattle.std.specs.Prelude.{bytes_eq, nat_le, Option, None, Some, is_some, option_map, if◌then◌else◌}
use Rattle.httparse.specs.Grammar.{RequestHead}
use Rattle.httparse.specs.Spans.{IsWithin, span_bytes}
use Rattle.httparse.specs.declared.spans.Span.{Span}
use Rattle.desk_common.specs.Limits.{most_deck_bytes}
use Rattle.http_head.specs.Heads.{WholeHead}
use Rattle.http_head.specs.Headers.{Header, headers_of, values_of, has_some, stated_length, asks_close}
use Rattle.http_head.specs.Limits.{most_head_bytes}
use Rattle.http_head.specs.Routes.{route_of}
use Rattle.http_head.specs.Segments.{is_path}
use Rattle.http_page.specs.Sites.{is_asked_here}
use Rattle.http_page.specs.declared.look.Look.{Look}
use Rattle.http_page.specs.declared.look.Look.TheVariants as looks

-- what a head asks of the pages: whether by POST, the path, the length of the body, and whether the connection is
-- closed behind the page
pub record PageHead : Type 0 where
  pub posts : Bool
  pub path : List ℕ
  pub size : ℕ
  pub closes : Bool

-- a page that is asked for: whether by POST, the path, and the body
pub record PageAsk : Type 0 where
  pub posts : Bool
  pub path : List ℕ
  pub body : List ℕ

-- a head of this method and target asks for a page: by GET, or by POST where the desk has no such route
abbrev pub asks_page : List ℕ → List ℕ → Bool
asks_page method target =
    is_path target
    && (bytes_eq method (codes "GET") || (bytes_eq method (codes "POST") && not (is_some (route_of target))))

-- a length within the limit
abbrev pub small_length : Option ℕ → Option ℕ
small_length None = None
small_length (Some size) = if nat_le size most_deck_bytes then Some size else None

-- the length of the body, if it is stated and within the limit
abbrev pub page_size : List Header → Option ℕ
page_size headers =
    if has_some (values_of (codes "transfer-encoding") headers) then None else
    small_length (stated_length (values_of (codes "content-length") headers))

-- what a head of this method, target, version and headers asks of the pages, if it does
abbrev pub page_in : List ℕ → List ℕ → ℕ → List Header → Option PageHead
page_in method target minor headers =
    if asks_page method target then
    option_map
    (λ size. record {
      posts = bytes_eq method (codes "POST");
      path = target;
      size = size;
      closes = asks_close minor headers;
    })
    (page_size headers)
    else None

-- what a head asks of the pages, if it does
abbrev pub page_of : RequestHead → Option PageHead
page_of head = page_in head.method head.target head.minor (headers_of head)

-- the page that a head asks for with this body
abbrev pub ask_of : PageHead → List ℕ → PageAsk
ask_of page rest = record { posts = page.posts; path = page.path; body = take page.size rest }

-- the bytes begin with a whole head that is asked from elsewhere
pub record IsFromElsewhere (port : ℕ) (bytes : List ℕ) : Type 0 where
  pub head : RequestHead
  pub rest : List ℕ
  pub whole : WholeHead bytes head rest
  pub elsewhere : is_asked_here port (headers_of head) ≡ false

-- a whole head at the front is asked from the site of this port
abbrev pub IsFromHere : ℕ → List ℕ → Type 0
IsFromHere port bytes =
    (head : RequestHead) (rest : List ℕ) → WholeHead bytes head rest → is_asked_here port (headers_of head) ≡ true

-- a whole head at the front asks for no page
abbrev pub HasNoPage : List ℕ → Type 0
HasNoPage bytes = (head : RequestHead) (rest : List ℕ) → WholeHead bytes head rest → page_of head ≡ None

-- the bytes begin with a whole head that asks for a page from here
pub record HasPageHead (port : ℕ) (bytes : List ℕ) (page : PageHead) (rest : List ℕ) : Type 0 where
  pub head : RequestHead
  pub whole : WholeHead bytes head rest
  pub here : is_asked_here port (headers_of head) ≡ true
  pub is_page : page_of head ≡ Some page

-- the bytes begin with the question for this page, and then come the others
pub record AsksPage (port : ℕ) (bytes : List ℕ) (ask : PageAsk) (closes : Bool) (after : List ℕ) : Type 0 where
  pub page : PageHead
  pub rest : List ℕ
  pub head : HasPageHead port bytes page rest
  pub long : page.size ≤ length rest
  pub ask_is : ask ≡ ask_of page rest
  pub closes_is : closes ≡ page.closes
  pub after_is : after ≡ drop page.size rest

-- the bytes begin with the head of such a question, whose body is still coming
pub record IsPageComing (port : ℕ) (bytes : List ℕ) : Type 0 where
  pub page : PageHead
  pub rest : List ℕ
  pub head : HasPageHead port bytes page rest
  pub short : length rest < page.size

-- where the head of such a question lies
pub record IsPageAt (port : ℕ) (buf : List ℕ) (page : PageHead) (start : ℕ) : Type 0 where
  pub within : start ≤ length buf
  pub some : 0 < start
  pub early : start ≤ most_head_bytes
  pub small : page.size ≤ most_deck_bytes
  pub head : HasPageHead port buf page (drop start buf)

-- what a look at the front shows
abbrev pub IsLook : ℕ → List ℕ → Look → Type 0
IsLook port buf looks.Desk = IsFromHere port buf × HasNoPage buf
IsLook port buf looks.Elsewhere = IsFromElsewhere port buf
IsLook port buf (looks.Page posts path start size closes) =
    IsPageAt port buf
    (record { posts = posts; path = span_bytes buf path; size = size; closes = closes }) start
    × IsWithin (length buf) path
