-- Where the line feed stands that ends as many headers as a head may have.
use Rattle.std.proofs.Common.{◌≡◌, ◌≢◌, ◌≤◌, ◌<◌, ◌+◌, ◌-◌, ℕ, suc, zero, Bool, true, false, List, [], ◌∷◌, ◌++◌, length, take, drop, refl, sym, ap, ◌∙◌, arith, append_assoc}
use Rattle.std.specs.Prelude.{◌↔◌, IsTrue, if◌then◌else◌, slice_index_or}
use Rattle.std.specs.List.{All, flat_map}
use Rattle.std.proofs.lemmas.List.{append-nil, append_cancel_right, get_or-drop, length-append, length-drop, take_at, take_rest}
use Rattle.std.proofs.lemmas.Bool.{false≢true}
use Rattle.std.proofs.lemmas.List.Elements.{All-head, All-tail}
use Rattle.httparse.specs.Ascii.{colon, line_feed, space}
use Rattle.httparse.specs.Grammar.{AllPass, Field, IsField, IsToken, IsRequestHead, LineEnd, RequestHead, crlf, lf, is_token_byte}
use Rattle.httparse.specs.Grammar.{is_uri_byte, is_value_byte, print_blank, print_end, print_field, print_request}
use Rattle.httparse.specs.Grammar.{print_version}
use Rattle.httparse.specs.Pieces.{is_newline}
use Rattle.httparse.proofs.GrammarLemmas.{cons-append, print_request-append}
use Rattle.httparse.proofs.PieceLemmas.{token_is_no_newline}
use Rattle.http_head.specs.Heads.{AreAllHeaders, HasAllHeaders, line_feeds}
use Rattle.http_head.specs.Inner.Feeds.{behind_empty, IsFeedBehind}
use Rattle.http_head.proofs.Feeds.{feeds-append, feeds_end}
use Rattle.http_head.proofs.HeaderLemmas.{has_at}

-- ---- line feeds stand at the ends of lines alone

no_feed : (test : ℕ → Bool) → test line_feed ≡ false → (b : ℕ) → test b ≡ true → line_feeds (b ∷ []) ≡ 0
no_feed test other b is =
    let differs : b ≢ 10 = λ e. false≢true (sym other ∙ ap test (sym e) ∙ is) in
    grind (arith, differs)

-- bytes of a kind that the line feed is not
none_of : (test : ℕ → Bool) → test line_feed ≡ false → (bytes : List ℕ) → AllPass test bytes → line_feeds bytes ≡ 0
none_of test other [] all = refl
none_of test other (b ∷ bytes) all =
    omega (arith, feeds-append (b ∷ []) bytes, no_feed test other b (All-head (λ v. test v ≡ true) b bytes all), none_of test other bytes (All-tail (λ v. test v ≡ true) b bytes all))

no_token_feed : is_token_byte 10 ≡ false
unfolding is_token_byte
no_token_feed = refl

-- the line's name is a token, its value has no control byte but the tab, and one line feed ends it
feeds_line : (f : Field) → IsField f → line_feeds (print_field f) ≡ 1
feeds_line f is =
    let name = none_of is_token_byte no_token_feed f.name is.name.1 in
    let raw = none_of is_value_byte refl f.raw is.raw in
    omega (arith, feeds-append (f.name ++ colon ∷ f.raw) (print_end f.end), feeds-append f.name (colon ∷ f.raw), feeds-append (colon ∷ []) f.raw, feeds_end f.end, name, raw)

feeds_lines : (fs : List Field) → All IsField fs → line_feeds (flat_map print_field fs) ≡ length fs
feeds_lines [] all = refl
feeds_lines (f ∷ fs) all =
    omega (arith, feeds-append (print_field f) (flat_map print_field fs), feeds_line f (All-head IsField f fs all), feeds_lines fs (All-tail IsField f fs all))

-- the first line and the header lines of a head
abbrev lines_of : RequestHead → List ℕ
lines_of h = h.method ++ (space ∷ (h.target ++ (space ∷ (print_version h.minor ++ (print_end h.line_end ++ flat_map print_field h.fields)))))

feeds_version : (minor : ℕ) → minor ≤ 1 → line_feeds (print_version minor) ≡ 0
feeds_version zero h = refl
feeds_version (suc zero) h = refl
feeds_version (suc (suc n)) h = absurd (omega (arith, h))

feeds_of_lines : (h : RequestHead) → IsRequestHead h → line_feeds (lines_of h) ≡ length h.fields + 1
feeds_of_lines h is =
    let fields = flat_map print_field h.fields in
    let behind_version = print_end h.line_end ++ fields in
    let behind_target = print_version h.minor ++ behind_version in
    let behind_method = h.target ++ space ∷ behind_target in
    omega (
      arith,
      feeds-append h.method (space ∷ behind_method),
      feeds-append (space ∷ []) behind_method,
      feeds-append h.target (space ∷ behind_target),
      feeds-append (space ∷ []) behind_target,
      feeds-append (print_version h.minor) behind_version,
      feeds-append (print_end h.line_end) fields,
      none_of is_token_byte no_token_feed h.method is.method.1,
      none_of is_uri_byte refl h.target is.target.1,
      feeds_version h.minor is.minor,
      feeds_end h.line_end,
      feeds_lines h.fields is.fields,
    )

-- ---- the lines end at the line feed that has as many before it

same_cons : (x y : ℕ) (xs ys : List ℕ) → x ∷ xs ≡ y ∷ ys → (x ≡ y) × (xs ≡ ys)
same_cons x y xs ys e = (cc, cc)

split_last : (a b : List ℕ) (x m : ℕ) (more : List ℕ) → a ++ x ∷ [] ≡ b ++ m ∷ more → (t : List ℕ) × (a ≡ b ++ t) × (t ++ x ∷ [] ≡ m ∷ more)
split_last a [] x m more e = (a, refl, e)
split_last [] (c ∷ cs) x m more e = absurd (omega (arith, ap length e, length-append cs (m ∷ more)))
split_last (d ∷ ds) (c ∷ cs) x m more e =
    let parts = same_cons d c (ds ++ x ∷ []) (cs ++ m ∷ more) e in
    let (t, same, behind) = split_last ds cs x m more parts.1 in
    (t, ap (λ z. z ∷ ds) parts.0 ∙ ap (λ l. c ∷ l) same, behind)

other_end : (t : List ℕ) → t ++ 10 ∷ [] ≡ 13 ∷ [] → ⊥
other_end [] e = absurd (omega (arith, (same_cons 10 13 [] [] e).0))
other_end (x ∷ xs) e = absurd (omega (arith, ap length e, length-append xs (10 ∷ [])))

-- an empty line of a line feed alone follows the lines
ends : (lines blanks body : List ℕ) (last : LineEnd) → lines ++ 10 ∷ 10 ∷ [] ≡ blanks ++ (body ++ print_end last) → lines ++ 10 ∷ [] ≡ blanks ++ body
ends lines blanks body lf e =
    append_cancel_right (lines ++ 10 ∷ []) (blanks ++ body) (10 ∷ []) (append_assoc lines (10 ∷ []) (10 ∷ []) ∙ e ∙ sym (append_assoc blanks body (10 ∷ [])))
ends lines blanks body crlf e =
    let front = append_cancel_right (lines ++ 10 ∷ []) ((blanks ++ body) ++ 13 ∷ []) (10 ∷ [])
    (append_assoc lines (10 ∷ []) (10 ∷ []) ∙ e ∙ sym (append_assoc blanks body (13 ∷ 10 ∷ [])) ∙ sym (append_assoc (blanks ++ body) (13 ∷ []) (10 ∷ []))) in
    let (t, same, other) = split_last lines (blanks ++ body) 10 13 [] front in
    absurd (other_end t other)

-- a first byte that ends no empty line
record Begins (text : List ℕ) : Type 0 where
  first : ℕ
  more : List ℕ
  is : text ≡ first ∷ more
  other : is_newline first ≡ false

begin : (method rest : List ℕ) → IsToken method → Begins (method ++ rest)
begin [] rest is = absurd (omega (arith, is.0))
begin (m ∷ ms) rest is = record { first = m; more = ms ++ rest; is = refl; other = token_is_no_newline m (All-head (λ v. is_token_byte v ≡ true) m ms is.1) }

skip_blank : (es : List LineEnd) (x : ℕ) (xs : List ℕ) → is_newline x ≡ false → behind_empty (print_blank es ++ x ∷ xs) ≡ x ∷ xs
skip_blank [] x xs other = ap (λ b. if b then behind_empty xs else x ∷ xs) other
skip_blank (crlf ∷ es) x xs other = skip_blank es x xs other
skip_blank (lf ∷ es) x xs other = skip_blank es x xs other

printed : (h : RequestHead) → print_request h ++ [] ≡ print_blank h.blank ++ (lines_of h ++ print_end h.last)
printed h =
    print_request-append h [] ∙ ap (λ l. print_blank h.blank ++ l)
    (together h.method h.target (print_version h.minor) (print_end h.line_end) (flat_map print_field h.fields) (print_end h.last))
  where
    together : (b c d e f g : List ℕ) → b ++ 32 ∷ (c ++ 32 ∷ (d ++ (e ++ ((f ++ g) ++ [])))) ≡ (b ++ (32 ∷ (c ++ (32 ∷ (d ++ (e ++ f)))))) ++ g
    together b c d e f g = simp (append_assoc, cons-append, append-nil)

-- the lines behind the empty ones have as many line feeds as headers
abbrev LastFeed : (buf : List ℕ) → HasAllHeaders buf → Type 0
LastFeed buf h = (t : List ℕ) × (behind_empty buf ≡ t ++ 10 ∷ h.rest) × (line_feeds t ≡ 32) × (length h.lines + length (behind_empty buf) ≡ length buf + length t)

last_feed : (buf : List ℕ) (h : HasAllHeaders buf) → LastFeed buf h
last_feed buf h =
    let (head, reads, many) = h.all in
    let blanks = print_blank head.blank in
    let behind_method = space ∷ (head.target ++ (space ∷ (print_version head.minor ++ (print_end head.line_end ++ flat_map print_field head.fields)))) in
    let begins = begin head.method behind_method reads.0.method in
    let m = begins.first in
    let more = begins.more in
    let lines : h.lines ++ 10 ∷ [] ≡ blanks ++ lines_of head = ends h.lines blanks (lines_of head) head.last (reads.1 ∙ printed head) in
    let (t, same, rest) = split_last h.lines blanks 10 m more (lines ∙ ap (λ l. blanks ++ l) begins.is) in
    let behind : t ++ 10 ∷ h.rest ≡ m ∷ (more ++ h.rest) = sym (append_assoc t (10 ∷ []) h.rest) ∙ ap (λ l. l ++ h.rest) rest in
    let cut : buf ≡ blanks ++ (t ++ 10 ∷ h.rest) = h.begins ∙ ap (λ l. l ++ 10 ∷ h.rest) same ∙ append_assoc blanks t (10 ∷ h.rest) in
    let text : behind_empty buf ≡ t ++ 10 ∷ h.rest = ap behind_empty (cut ∙ ap (λ l. blanks ++ l) behind) ∙ skip_blank head.blank m (more ++ h.rest) begins.other ∙ sym behind in
    let feeds : line_feeds t + 1 ≡ line_feeds (lines_of head) = sym (feeds-append t (10 ∷ [])) ∙ ap line_feeds (rest ∙ sym begins.is) in (
      t,
      text,
      omega (arith, feeds, feeds_of_lines head reads.0, many),
      omega (arith, ap length text, ap length cut, length-append blanks (t ++ 10 ∷ h.rest), ap length same, length-append blanks t),
    )

-- two line feeds don't have as many before them
one_place : (t rest : List ℕ) (at : ℕ) → at < length (t ++ 10 ∷ rest) → slice_index_or (t ++ 10 ∷ rest) at 0 ≡ 10 → line_feeds (take at (t ++ 10 ∷ rest)) ≡ line_feeds t → at ≡ length t
one_place [] rest zero inside feed same = refl
one_place [] rest (suc at) inside feed same = absurd (omega (arith, same, feeds-append (10 ∷ []) (take at rest)))
one_place (x ∷ t) rest zero inside feed same = absurd (omega (arith, same, feeds-append (x ∷ []) t, ap (λ b. line_feeds (b ∷ [])) feed))
one_place (x ∷ t) rest (suc at) inside feed same =
    ap suc (one_place t rest at (omega (arith, inside)) feed (omega (arith, same, feeds-append (x ∷ []) t, feeds-append (x ∷ []) (take at (t ++ 10 ∷ rest)))))

-- where such lines stand at the front, they end there
the_place : (buf : List ℕ) (empty at : ℕ) → empty ≤ length buf → drop empty buf ≡ behind_empty buf → IsFeedBehind (drop empty buf) 32 at → (h : HasAllHeaders buf) → length h.lines ≡ empty + at
the_place buf empty at fits behind feed h =
    let (t, text, count, size) = last_feed buf h in
    let same : drop empty buf ≡ t ++ 10 ∷ h.rest = behind ∙ text in
    let place = one_place t h.rest at (rw (sym same) feed.within) (rw (sym same) feed.feed) (rw (sym same) (feed.before ∙ sym count)) in
    omega (arith, fits, place, size, ap length behind, length-drop empty buf)

pub at_last : (buf : List ℕ) (empty at : ℕ) (found : Bool) → empty ≤ length buf → drop empty buf ≡ behind_empty buf → IsFeedBehind (take (length buf - empty) (drop empty buf)) 32 at
    → empty + at < 8192 → (IsTrue found ↔ AreAllHeaders (take (empty + at) buf)) → IsTrue found ↔ HasAllHeaders buf
at_last buf empty at found fits behind feed within are =
    let text : IsFeedBehind (drop empty buf) 32 at = rw (sym (take_rest buf empty)) feed in (
      (λ t. has_at buf (empty + at) (omega (arith, fits, text.within, length-drop empty buf)) within (sym (get_or-drop empty buf at 0) ∙ text.feed) (are.0 t)),
      (λ h.
          let front : take (empty + at) buf ≡ h.lines = ap (λ l. take (empty + at) l) h.begins ∙ take_at h.lines (line_feed ∷ h.rest) (empty + at) (the_place buf empty at fits behind text h) in
          are.1 (rw front h.all)),
    )

pub past_last : (buf : List ℕ) (empty at : ℕ) → empty ≤ length buf → drop empty buf ≡ behind_empty buf → IsFeedBehind (take (length buf - empty) (drop empty buf)) 32 at
    → 8192 ≤ empty + at → HasAllHeaders buf → ⊥
past_last buf empty at fits behind feed past h =
    omega (arith, past, the_place buf empty at fits behind (rw (sym (take_rest buf empty)) feed) h, h.within)

-- where the text has no such line feed, none do
pub no_last : (buf : List ℕ) (empty : ℕ) → drop empty buf ≡ behind_empty buf → line_feeds (take (length buf - empty) (drop empty buf)) ≤ 32 → HasAllHeaders buf → ⊥
no_last buf empty behind few h =
    let (t, text, count, size) = last_feed buf h in
    let least : line_feeds (drop empty buf) ≤ 32 = rw (sym (take_rest buf empty)) few in
    omega (arith, least, ap line_feeds (behind ∙ text), feeds-append t (10 ∷ h.rest), feeds-append (10 ∷ []) h.rest, count)
