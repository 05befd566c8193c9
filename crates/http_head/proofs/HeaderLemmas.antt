-- A parse that finds a head with as many headers as one may have.
use Rattle.std.proofs.Common.{◌≡◌, ◌↔◌, ◌==◌, ◌&&◌, ◌+◌, ◌≤◌, ◌<◌, ℕ, Bool, false, IsTrue, List, [], ◌∷◌, ◌++◌}
use Rattle.std.proofs.Common.{length, drop, take, min, slice_index_or, replicate, inl, inr, refl, ap, sym, ◌∙◌, arith}
use Rattle.std.proofs.Common.{length-append, append-nil}
use Rattle.std.proofs.Math.Seq.{take-append-add}
use Rattle.std.proofs.lemmas.List.{drop_all, drop_more, get_or-replicate, length-map, length-replicate}
use Rattle.std.proofs.lemmas.List.{length-take, take-append-drop}
use Rattle.std.specs.Prelude.{Result, Ok, Err}
use Rattle.httparse.specs.Ascii.{line_feed}
use Rattle.httparse.specs.Grammar.{RequestHead, ReadsRequest, NeverHasRequest, print_request, Field}
use Rattle.httparse.specs.Outcome.{IfComplete}
use Rattle.httparse.specs.Spans.{AreFieldsAt, FindsRequest, IsRequestAt, IsRequestOf, IsRequestWithin, header_bytes}
use Rattle.httparse.specs.Spans.{name_and_value}
use Rattle.httparse.specs.declared.Error.{Error}
use Rattle.httparse.specs.declared.Status.{Status}
use Rattle.httparse.specs.declared.Status.TheVariants.{Complete, Partial}
use Rattle.httparse.specs.declared.spans.HeaderSpan.{HeaderSpan}
use Rattle.httparse.specs.declared.spans.RequestSpans.{RequestSpans}
use Rattle.http_head.specs.Heads.{AreAllHeaders, HasAllHeaders, HasNoWholeHead, MayGoOn, MayRefuse, line_feeds}
use Rattle.http_head.specs.Inner.Full.{is_full}

-- as many fields as headers that were written
fields_are : (buf : List ℕ) (headers : List HeaderSpan) (count : ℕ) (fields : List Field) → AreFieldsAt buf headers count fields → min count (length headers) ≡ length fields
fields_are buf headers count fields h =
    sym (length-take count headers) ∙ sym (length-map (take count headers) (header_bytes buf)) ∙ ap length h ∙ length-map fields name_and_value

-- the head takes the whole text
whole : (buf : List ℕ) (n : ℕ) (h : RequestHead) → length buf ≡ n → ReadsRequest buf h (drop n buf) → ReadsRequest buf h []
whole buf n h len reads = (reads.0, reads.1 ∙ ap (λ l. print_request h ++ l) (drop_all n buf (omega (arith, len))))

told : (lines buf : List ℕ) (headers : List HeaderSpan) (spans : RequestSpans) (h : RequestHead) → length headers ≡ 32 → buf ≡ lines ++ line_feed ∷ line_feed ∷ []
    → spans.len ≡ length buf → spans.headers ≡ 32 → IsRequestAt buf headers spans h → AreAllHeaders lines
told lines buf headers spans h room is len count at =
    (h, rw is at (whole buf spans.len h (sym len) at.reads), omega (arith, fields_are buf headers spans.headers h.fields at.fields, room, count))

-- a head with so many headers is found
found : (buf : List ℕ) (headers : List HeaderSpan) (spans : RequestSpans) (h : RequestHead) → length headers ≡ 32 → spans.headers ≤ length headers → ReadsRequest buf h [] → length h.fields ≡ 32
    → IsRequestAt buf headers spans h → (spans.len ≡ length buf) × (spans.headers ≡ 32)
found buf headers spans h room fits reads many at =
    (at.len ∙ sym (ap length (reads.1 ∙ append-nil (print_request h))), omega (arith, fields_are buf headers spans.headers h.fields at.fields, room, fits, many))

both : (m n x y : ℕ) (b : Bool) → b ≡ ((m == x) && (n == y)) → IsTrue b → (m ≡ x) × (n ≡ y)
both m n x y b h t = (grind arith, grind arith)

one_of : (m n x y : ℕ) (b : Bool) → b ≡ ((m == x) && (n == y)) → m ≡ x → n ≡ y → IsTrue b
one_of m n x y b h e f = grind arith

size : (lines buf : List ℕ) → buf ≡ lines ++ line_feed ∷ line_feed ∷ [] → length buf ≡ length lines + 2
size lines buf is = ap length is ∙ length-append lines (line_feed ∷ line_feed ∷ [])

pub full_is_all : (lines buf : List ℕ) (room : ℕ) (headers : List HeaderSpan) (r : Result (Status RequestSpans) Error) (b : Bool)
    → IfComplete r (IsRequestWithin buf headers) → IfComplete r (IsRequestOf buf headers) → FindsRequest buf room headers r
    → room ≡ 32 → length headers ≡ 32 → buf ≡ lines ++ line_feed ∷ line_feed ∷ [] → b ≡ is_full r (length lines + 2) → IsTrue b ↔ AreAllHeaders lines
full_is_all lines buf room headers (Ok (Complete spans)) b within of finds fits many is full = (
  (λ t.
      let parts = both spans.len spans.headers (length lines + 2) 32 b full t in
      told lines buf headers spans of.0 many is (parts.0 ∙ sym (size lines buf is)) parts.1 of.1),
  (λ all.
      let reads : ReadsRequest buf all.0 [] = rw (sym is) at all.1 in
      let at = finds all.0 [] reads (omega (arith, fits, all.2)) in
      let parts = found buf headers spans all.0 many (omega (arith, within.section.count_fits)) reads all.2 at in
      one_of spans.len spans.headers (length lines + 2) 32 b full (parts.0 ∙ size lines buf is) parts.1),
)
full_is_all lines buf room headers (Ok Partial) b within of finds fits many is full = (
  (λ t. absurd (grind arith)),
  (λ all. absurd (finds all.0 [] (rw (sym is) at all.1) (omega (arith, fits, all.2)))),
)
full_is_all lines buf room headers (Err e) b within of finds fits many is full = (
  (λ t. absurd (grind arith)),
  (λ all. absurd (finds all.0 [] (rw (sym is) at all.1) (omega (arith, fits, all.2)))),
)

-- such lines stand at the front where they end at a line feed
pub has_at : (buf : List ℕ) (n : ℕ) → n < length buf → n < 8192 → slice_index_or buf n 0 ≡ 10 → AreAllHeaders (take n buf) → HasAllHeaders buf
has_at buf n inside within feed all = record {
  lines = take n buf;
  rest = drop (n + 1) buf;
  begins = sym (take-append-drop n buf) ∙ ap (λ l. take n buf ++ l) (drop_more buf n 0 inside ∙ ap (λ b. b ∷ drop (n + 1) buf) feed);
  within = omega (arith, within, length-take n buf);
  all = all;
}

-- two line feeds at any place of a list of them
two_feeds : (m n : ℕ) → n + 2 ≤ m → take {A = ℕ} 2 (drop n (replicate m 10)) ≡ 10 ∷ 10 ∷ []
two_feeds m n h =
    let feeds : List ℕ = replicate m 10 in
    let long : length feeds ≡ m = length-replicate m 10 in
    let first : drop n feeds ≡ slice_index_or feeds n 10 ∷ drop (n + 1) feeds = drop_more feeds n 10 (omega (arith, h, long)) in
    let second : drop (n + 1) feeds ≡ slice_index_or feeds (n + 1) 10 ∷ drop (n + 1 + 1) feeds = drop_more feeds (n + 1) 10 (omega (arith, h, long)) in
    let one : slice_index_or feeds n 10 ≡ 10 = get_or-replicate m n 10 10 (omega (arith, h)) in
    let two : slice_index_or feeds (n + 1) 10 ≡ 10 = get_or-replicate m (n + 1) 10 10 (omega (arith, h)) in
    ap (λ (l : List ℕ). take 2 l) (first ∙ ap (λ (b : ℕ). b ∷ drop (n + 1) feeds) one
    ∙ ap (λ (l : List ℕ). 10 ∷ l) (second ∙ ap (λ (b : ℕ). b ∷ drop (n + 1 + 1) feeds) two))

-- the lines are put before them
pub text_is : (lines new : List ℕ) (m : ℕ) → new ≡ lines → length lines + 2 ≤ m → take (length lines + 2) (new ++ drop (length lines) (replicate m 10)) ≡ lines ++ line_feed ∷ line_feed ∷ []
text_is lines new m same room = rw same (take-append-add lines (drop (length lines) (replicate m 10)) 2 ∙ ap (λ l. lines ++ l) (two_feeds m (length lines) room))

-- what never becomes a head is no whole one
no_whole : (buf : List ℕ) → NeverHasRequest buf → HasNoWholeHead buf
no_whole buf never head rest w = never [] head rest (rw (append-nil buf) w.reads)

-- the fronts of a malformed head: with fewer headers than one may have, or else short, long, or of many lines
pub bad_front : (buf : List ℕ) (b : Bool) → (IsTrue b ↔ HasAllHeaders buf) → b ≡ false → NeverHasRequest buf → MayRefuse buf 400
bad_front buf b is off never = (no_whole buf never, inr (refl, never, λ all. absurd (cc (sym off ∙ is.1 all))))

pub more_front : (buf : List ℕ) → NeverHasRequest buf → length buf < 8192 → line_feeds buf < 34 → MayGoOn buf
more_front buf never short few = record { no_head = no_whole buf never; short = short; hope = inl few }

pub long_front : (buf : List ℕ) → NeverHasRequest buf → (length buf < 8192 → ⊥) → MayRefuse buf 431
long_front buf never long = (no_whole buf never, inl (refl, inl (omega (arith, long))))

pub many_front : (buf : List ℕ) → NeverHasRequest buf → (line_feeds buf < 34 → ⊥) → MayRefuse buf 431
many_front buf never many = (no_whole buf never, inl (refl, inr (omega (arith, many))))
