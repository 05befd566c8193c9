-- Connections that come, are served and leave, one event after the other.
use Rattle.std.proofs.Common.{◌≡◌, ◌≢◌, ◌⊎◌, ◌<◌, ◌≤◌, ◌+◌, ◌-◌, ◌==◌, ℕ, drop, add-one, Bool, true, false, List, [], ◌∷◌, ◌++◌, length, map, refl, ap, sym, ◌∙◌, arith}
use Rattle.std.proofs.Common.{append_assoc, append-nil, length-append, inl, inr}
use Rattle.std.specs.Prelude.{Option, None, Some, All, Contains, if◌then◌else◌}
use Rattle.std.specs.List.{flat_map}
use Rattle.std.proofs.lemmas.Bool.{cases_eq}
use Rattle.std.proofs.lemmas.List.{map-append, drop_all, length-drop, drop-append-le}
use Rattle.std.proofs.lemmas.List.Concat.{flat_map-append}
use Rattle.std.proofs.lemmas.List.Elements.{All-nil, All-push, All-append, All-weaker, All-cons, All-head, All-tail, Contains-append_left, Contains-push, Contains-push_cases}
use Rattle.slab.specs.Slab.{Slab, get, slab_len, Updates}
use Rattle.sms_base.specs.Counts.{after_calls, one_call_more}
use Rattle.ready_wires.specs.Wires.{WireSeen}
use Rattle.ready_wires.specs.Events.{ReadySeen, Tells, WasToldSince, IsQuietSince, count_told}
use Rattle.ready_wires.specs.declared.watch.Watch.{Watch}
use Rattle.http_page.specs.Pages.{PageAsk}
use Rattle.http_talk.specs.Hearing.{ClerkMoment}
use Rattle.http_talk.specs.declared.talk.Talk.{Talk}
use Rattle.http_flow.specs.Exchange.{Basis, Exchange}
use Rattle.http_flow.specs.Flow.{FlowView}
use Rattle.http_flow.specs.declared.page.Page.{Page}
use Rattle.serve_poll.specs.Visitors.{IsOn, IsBounded, IsLeft, WasTold, VisitorSeen, Advances}
use Rattle.serve_poll.specs.Halls.{Asked, Gone, House, asked_by, seen_visitor, IsSeated, WasServed, HasLeft, WereFull, AreSeated, HasArrived, WasIdle}
use Rattle.serve_poll.specs.declared.step.Left.{Left}
use Rattle.serve_poll.specs.declared.step.Left.TheVariants as lefts
use Rattle.serve_poll.specs.declared.visitor.Visitor.{Visitor}

-- exchanges that one connection asked for
abbrev pub signed : ℕ → List Exchange → List Asked
signed number xs = map (λ x. record { by = number; exchange = x }) xs

pub exchanges_signed : (n : ℕ) (xs : List Exchange) → map (λ (h : Asked). h.exchange) (signed n xs) ≡ xs
exchanges_signed n [] = refl
exchanges_signed n (x ∷ xs) = ap (λ l. x ∷ l) (exchanges_signed n xs)

own_signed : (n : ℕ) (xs : List Exchange) → asked_by n (signed n xs) ≡ xs
own_signed n [] = refl
own_signed n (x ∷ xs) = grind (arith, own_signed n xs)

other_signed : (m n : ℕ) (xs : List Exchange) → n ≢ m → asked_by m (signed n xs) ≡ []
other_signed m n [] d = refl
other_signed m n (x ∷ xs) d = grind (arith, other_signed m n xs d)

asked_append : (n : ℕ) (hs ks : List Asked) → asked_by n (hs ++ ks) ≡ asked_by n hs ++ asked_by n ks
asked_append n hs ks = flat_map-append (λ (h : Asked). if h.by == n then h.exchange ∷ [] else []) hs ks

-- the connection that asked has more, and every other has what it had
own_more : (n : ℕ) (all : List Asked) (xs : List Exchange) → asked_by n (all ++ signed n xs) ≡ asked_by n all ++ xs
own_more n all xs = asked_append n all (signed n xs) ∙ ap (λ l. asked_by n all ++ l) (own_signed n xs)

other_more : (m n : ℕ) (all : List Asked) (xs : List Exchange) → n ≢ m → asked_by m (all ++ signed n xs) ≡ asked_by m all
other_more m n all xs d = asked_append m all (signed n xs) ∙ ap (λ l. asked_by m all ++ l) (other_signed m n xs d) ∙ append-nil (asked_by m all)

few_signed : (count n : ℕ) (xs : List Exchange) → n < count → All (λ (h : Asked). h.by < count) (signed n xs)
few_signed count n [] l = All-nil (λ (h : Asked). h.by < count)
few_signed count n (x ∷ xs) l = All-cons (λ (h : Asked). h.by < count) (record { by = n; exchange = x }) (signed n xs) l (few_signed count n xs l)

few_later : (count : ℕ) (all : List Asked) → All (λ (h : Asked). h.by < count) all → All (λ (h : Asked). h.by < count + 1) all
few_later count all few = All-weaker (λ (k : Asked). k.by < count) (λ (k : Asked). k.by < count + 1) (λ k l. omega (arith, l)) all few

-- a number that wasn't given asked nothing
none_asked : (count : ℕ) (hs : List Asked) → All (λ (h : Asked). h.by < count) hs → asked_by count hs ≡ []
none_asked count [] few = refl
none_asked count (h ∷ hs) few =
    let l : h.by < count = All-head (λ (k : Asked). k.by < count) h hs few in
    let rest = none_asked count hs (All-tail (λ (k : Asked). k.by < count) h hs few) in grind (arith, l, rest)

-- places of numbers
abbrev pub with_place : (ℕ → Option ℕ) → ℕ → Option ℕ → ℕ → Option ℕ
with_place place n at m = if m == n then at else place m

place_own : (place : ℕ → Option ℕ) (n : ℕ) (at : Option ℕ) → with_place place n at n ≡ at
place_own place n at = grind arith

place_other : (place : ℕ → Option ℕ) (n m : ℕ) (at : Option ℕ) → n ≢ m → with_place place n at m ≡ place m
place_other place n m at apart = grind (arith, apart)

above : (count n : ℕ) → n < count → count ≢ n
above count n l same = omega (arith, l, same)

some_same : {X : Type 0} (x y : X) → Some x ≡ Some y → x ≡ y
some_same x y e = cc e

pub none_some : {X : Type 0} (x : X) → None ≡ Some x → ⊥
none_some x e = absurd (cc e)

-- numbers at different places differ
apart_keys : (place : ℕ → Option ℕ) (m n other key : ℕ) → place m ≡ Some other → place n ≡ Some key → other ≢ key → n ≢ m
apart_keys place m n other key at_m at_n apart same = apart (some_same other key (sym at_m ∙ ap place (sym same) ∙ at_n))

apart_gone : (place : ℕ → Option ℕ) (m n key : ℕ) → place m ≡ None → place n ≡ Some key → n ≢ m
apart_gone place m n key at_m at_n same = none_some key (sym at_m ∙ ap place (sym same) ∙ at_n)

pub tells_none : {C : Type 0} (back : Option (List C)) → Tells back back []
tells_none None = refl
tells_none (Some before) = inl (ap Some (sym (append-nil before)))

tells_more : {C : Type 0} (back back' back'' : Option (List C)) (gone one all : List C) → Tells back back' gone → Tells back' back'' one → all ≡ gone ++ one → Tells back back'' all
tells_more None back' back'' gone one all g k is = let l : Tells None back'' one = rw g at k in l
tells_more (Some before) back' back'' gone one all g k is = elim g [
  | inl told ↦ let l : Tells (Some (before ++ gone)) back'' one = rw told at k in elim l [
    | inl more ↦ inl (more ∙ ap Some (append_assoc before gone one ∙ ap (λ r. before ++ r) (sym is)))
    | inr none ↦ inr none
  ]
  | inr none ↦ let l : Tells None back'' one = rw none at k in inr l
]

-- nothing was told of idle keys, and no connection came
pub record IsStill (told told' : ReadySeen) : Type 0 where
  pub came : told'.came ≡ told.came
  pub idle : told'.idle ≡ told.idle

contains_none : (key : ℕ) → Contains [] key → ⊥
contains_none key h = omega (arith, h.1)

-- a key that was told of as idle since stays one
contains_more : (n : ℕ) (keys more : List ℕ) (key : ℕ) → Contains (drop n keys) key → Contains (drop n (keys ++ more)) key
contains_more n keys more key h =
    let le : n ≤ length keys = omega (arith, h.1, length-drop n keys) in
    rw (drop-append-le n keys more le) (Contains-append_left (drop n keys) more key h)

told_more : (since : Option ℕ) (idle idle' : Option (List ℕ)) (more : List ℕ) (key : ℕ) → Tells idle idle' more → WasToldSince since idle key → WasToldSince since idle' key
told_more None idle idle' more key tells h = tt
told_more (Some n) None idle' more key tells h = rw tells tt
told_more (Some n) (Some keys) idle' more key tells h = elim tells [
  | inl told ↦ rw told (contains_more n keys more key h)
  | inr none ↦ rw none tt
]

-- the key that was told of is one since, where it was quiet before
pub told_last : (since : Option ℕ) (idle idle' : Option (List ℕ)) (key : ℕ) → Tells idle idle' (key ∷ []) → IsQuietSince since idle key → WasToldSince since idle' key
told_last None idle idle' key tells h = tt
told_last (Some n) None idle' key tells h = rw tells tt
told_last (Some n) (Some keys) idle' key tells h = elim tells [
  | inl told ↦ rw told (rw (drop-append-le n keys (key ∷ []) h.0) (Contains-push (drop n keys) key))
  | inr none ↦ rw none tt
]

-- each other stays quiet
quiet_one : (n : ℕ) (keys : List ℕ) (key other : ℕ) → other ≢ key → n ≤ length keys → (Contains (drop n keys) other → ⊥) → Contains (drop n (keys ++ key ∷ [])) other → ⊥
quiet_one n keys key other apart le h k =
    let c : Contains (drop n keys ++ key ∷ []) other = rw (drop-append-le n keys (key ∷ []) le) at k in
    elim (Contains-push_cases (drop n keys) key other c) [
      | inl before ↦ h before
      | inr last ↦ apart (sym last)
    ]

pub quiet_other : (since : Option ℕ) (idle idle' : Option (List ℕ)) (key other : ℕ) → other ≢ key → Tells idle idle' (key ∷ []) → IsQuietSince since idle other → IsQuietSince since idle' other
quiet_other None idle idle' key other apart tells h = tt
quiet_other (Some n) None idle' key other apart tells h = rw tells tt
quiet_other (Some n) (Some keys) idle' key other apart tells h = elim tells [
  | inl told ↦ rw told (omega (arith, h.0, length-append keys (key ∷ [])), quiet_one n keys key other apart h.0 h.1)
  | inr none ↦ rw none tt
]

-- what was told so far isn't told since
pub quiet_now : (idle : Option (List ℕ)) (key : ℕ) → IsQuietSince (count_told idle) idle key
quiet_now None key = tt
quiet_now (Some keys) key = (omega arith, λ h. contains_none key (rw (drop_all (length keys) keys (omega arith)) at h))

-- connections that were handed back when no seat was free
full_push : {C : Type 0} (n : ℕ) (xs : List (Gone C)) (x : Gone C) → WereFull n xs → (x.why ≡ lefts.TurnedAway → x.visitor.number ≡ n + length xs) → WereFull n (xs ++ x ∷ [])
full_push n [] x h at = ((λ why. omega (arith, at why)), tt)
full_push n (y ∷ ys) x h at = (h.0, full_push (n + 1) ys x h.1 (λ why. omega (arith, at why)))

module _ {C : Type 0} (house : House) (seen : C → WireSeen) where
  -- one connection is out of its seat, to be served
  pub record AreOut (first : ReadySeen) (told : ReadySeen) (all : List Asked) (back back' : Option (List C)) (count most : ℕ) (seats : Slab (Visitor C)) (key : ℕ) (v : Visitor C) : Type 0 where
    pub place : ℕ → Option ℕ
    pub gone : List (Gone C)
    pub few : All (λ h. h.by < count) all
    pub free : get seats key ≡ None
    pub seated : (other : ℕ) (u : Visitor C) → get seats other ≡ Some u → IsSeated house told.idle all count place other (seen_visitor seen u)
    pub given : v.number < count
    pub placed : place v.number ≡ Some key
    pub in_turn : (seen v.conn).watch.vain ≡ false
    pub bounded : IsBounded house.terms v.conversation
    pub on : IsOn house.terms (seen v.conn) v.conversation (asked_by v.number all)
    pub left : All (HasLeft house seen told.idle all count place) gone
    pub room : most ≤ seats.capacity
    pub within : slab_len seats + 1 ≤ most
    pub full : WereFull most gone
    pub none_lost : count ≡ slab_len seats + 1 + length gone
    pub came : told.came ≡ after_calls first.came count
    pub came_back : Tells back back' (map (λ x. x.visitor.conn) gone)

  -- exchanges of another connection leave what is known of this one
  still_served : (idle : Option (List ℕ)) (all : List Asked) (n : ℕ) (more : List Exchange) (v : VisitorSeen) (why : Left) → n ≢ v.number → WasServed house idle all v why → WasServed house idle (all ++ signed n more) v why
  still_served idle all n more v lefts.Answered apart h = (rw (other_more v.number n all more apart) h.0, h.1)
  still_served idle all n more v lefts.InputEnded apart h = (rw (other_more v.number n all more apart) h.0, h.1)
  still_served idle all n more v lefts.Failed apart h = (rw (other_more v.number n all more apart) h.0, h.1)
  still_served idle all n more v lefts.TurnedAway apart h = (other_more v.number n all more apart ∙ h.0, h.1)
  still_served idle all n more v lefts.Unwatched apart h = (rw (other_more v.number n all more apart) h.0, h.1)
  still_served idle all n more v lefts.Idle apart h = (rw (other_more v.number n all more apart) h.0, h.1)

  -- a further key was told of as idle
  served_told : (idle idle' : Option (List ℕ)) (more : List ℕ) (all : List Asked) (v : VisitorSeen) (why : Left) → Tells idle idle' more → WasServed house idle all v why → WasServed house idle' all v why
  served_told idle idle' more all v lefts.Answered l h = h
  served_told idle idle' more all v lefts.InputEnded l h = h
  served_told idle idle' more all v lefts.Failed l h = h
  served_told idle idle' more all v lefts.TurnedAway l h = h
  served_told idle idle' more all v lefts.Unwatched l h = h
  served_told idle idle' more all v lefts.Idle l h = (h.0, (h.1.0, h.1.1, told_more v.wire.watch.since idle idle' more h.1.0 l h.1.2))

  left_so : (idle : Option (List ℕ)) (all : List Asked) (v : VisitorSeen) (why : Left) → IsOn house.terms v.wire v.flow (asked_by v.number all) → IsLeft idle v.wire v.flow why → WasServed house idle all v why
  left_so idle all v lefts.Answered on h = (on, h)
  left_so idle all v lefts.InputEnded on h = (on, h)
  left_so idle all v lefts.Failed on h = (on, h)
  left_so idle all v lefts.TurnedAway on h = absurd h
  left_so idle all v lefts.Unwatched on h = (on, h)
  left_so idle all v lefts.Idle on h = (on, h)

  not_away : (idle : Option (List ℕ)) (wire : WireSeen) (flow : FlowView) (why : Left) → IsLeft idle wire flow why → why ≡ lefts.TurnedAway → ⊥
  not_away idle wire flow why h is = let k : IsLeft idle wire flow lefts.TurnedAway = rw is at h in k

  -- nothing was told of idle keys, and no connection came
  pub seated_still : (first told told' : ReadySeen) (all : List Asked) (back back' : Option (List C)) (count most : ℕ) (seats : Slab (Visitor C)) → IsStill told told' → AreSeated house seen first told all back back' count most seats → AreSeated house seen first told' all back back' count most seats
  seated_still first told told' all back back' count most seats l h = record {
    place = h.place;
    gone = h.gone;
    few = h.few;
    seated = rw l.idle h.seated;
    left = rw l.idle h.left;
    room = h.room;
    within = h.within;
    full = h.full;
    none_lost = h.none_lost;
    came = l.came ∙ h.came;
    came_back = h.came_back;
  }

  -- a key was told of as idle at which none is seated
  idle_seat : (idle idle' : Option (List ℕ)) (all : List Asked) (count : ℕ) (place : ℕ → Option ℕ) (key other : ℕ) (v : VisitorSeen) → other ≢ key → Tells idle idle' (key ∷ []) → IsSeated house idle all count place other v → IsSeated house idle' all count place other v
  idle_seat idle idle' all count place key other v apart tells s = record { given = s.given; placed = s.placed; watched = s.watched; in_turn = s.in_turn; quiet = quiet_other v.wire.watch.since idle idle' key other apart tells s.quiet; bounded = s.bounded; on = s.on }

  idle_left : (idle idle' : Option (List ℕ)) (more : List ℕ) (all : List Asked) (count : ℕ) (place : ℕ → Option ℕ) (x : Gone C) → Tells idle idle' more → HasLeft house seen idle all count place x → HasLeft house seen idle' all count place x
  idle_left idle idle' more all count place x tells s = record { given = s.given; placed = s.placed; in_turn = s.in_turn; served = served_told idle idle' more all (seen_visitor seen x.visitor) x.why tells s.served }

  pub idle_seated : (first told told' : ReadySeen) (all : List Asked) (back back' : Option (List C)) (count most : ℕ) (seats : Slab (Visitor C)) (key : ℕ) → WasIdle key told told' → get seats key ≡ None → AreSeated house seen first told all back back' count most seats → AreSeated house seen first told' all back back' count most seats
  idle_seated first told told' all back back' count most seats key w free h = record {
    place = h.place;
    gone = h.gone;
    few = h.few;
    seated = λ other u there. idle_seat told.idle told'.idle all count h.place key other (seen_visitor seen u) (λ same. none_some u (sym free ∙ ap (get seats) (sym same) ∙ there)) w.idle (h.seated other u there);
    left = All-weaker (HasLeft house seen told.idle all count h.place) (HasLeft house seen told'.idle all count h.place) (λ x s. idle_left told.idle told'.idle (key ∷ []) all count h.place x w.idle s) h.gone h.left;
    room = h.room;
    within = h.within;
    full = h.full;
    none_lost = h.none_lost;
    came = w.came ∙ h.came;
    came_back = h.came_back;
  }

  pub idle_out : (first told told' : ReadySeen) (all : List Asked) (back back' : Option (List C)) (count most : ℕ) (seats : Slab (Visitor C)) (key : ℕ) (v : Visitor C) → WasIdle key told told' → AreOut first told all back back' count most seats key v → AreOut first told' all back back' count most seats key v
  idle_out first told told' all back back' count most seats key v w h = record {
    place = h.place;
    gone = h.gone;
    few = h.few;
    free = h.free;
    seated = λ other u there. idle_seat told.idle told'.idle all count h.place key other (seen_visitor seen u) (λ same. none_some u (sym h.free ∙ ap (get seats) (sym same) ∙ there)) w.idle (h.seated other u there);
    given = h.given;
    placed = h.placed;
    in_turn = h.in_turn;
    bounded = h.bounded;
    on = h.on;
    left = All-weaker (HasLeft house seen told.idle all count h.place) (HasLeft house seen told'.idle all count h.place) (λ x s. idle_left told.idle told'.idle (key ∷ []) all count h.place x w.idle s) h.gone h.left;
    room = h.room;
    within = h.within;
    full = h.full;
    none_lost = h.none_lost;
    came = w.came ∙ h.came;
    came_back = h.came_back;
  }

  pub still_out : (first told told' : ReadySeen) (all : List Asked) (back back' : Option (List C)) (count most : ℕ) (seats : Slab (Visitor C)) (key : ℕ) (v : Visitor C) → IsStill told told' → AreOut first told all back back' count most seats key v → AreOut first told' all back back' count most seats key v
  still_out first told told' all back back' count most seats key v l h = record {
    place = h.place;
    gone = h.gone;
    few = h.few;
    free = h.free;
    seated = rw l.idle h.seated;
    given = h.given;
    placed = h.placed;
    in_turn = h.in_turn;
    bounded = h.bounded;
    on = h.on;
    left = rw l.idle h.left;
    room = h.room;
    within = h.within;
    full = h.full;
    none_lost = h.none_lost;
    came = l.came ∙ h.came;
    came_back = h.came_back;
  }

  -- the connection is taken out of its seat
  pub take_out : (first told : ReadySeen) (all : List Asked) (back back' : Option (List C)) (count most : ℕ) (seats mid : Slab (Visitor C)) (key : ℕ) (v : Visitor C) → AreSeated house seen first told all back back' count most seats → get seats key ≡ Some v → Updates seats mid key None → slab_len mid + 1 ≡ slab_len seats → mid.capacity ≡ seats.capacity → AreOut first told all back back' count most mid key v
  take_out first told all back back' count most seats mid key v h at updates fewer room = let s = h.seated key v at in record {
    place = h.place;
    gone = h.gone;
    few = h.few;
    free = updates.changed;
    seated = λ other u there. elim (cases_eq other key) [
      | inl same ↦ absurd (none_some u (sym (ap (get mid) same ∙ updates.changed) ∙ there))
      | inr apart ↦ h.seated other u (sym (updates.others other apart) ∙ there)
    ];
    given = s.given;
    placed = s.placed;
    in_turn = s.in_turn;
    bounded = s.bounded;
    on = s.on;
    left = h.left;
    room = rw room h.room;
    within = omega (arith, h.within, fewer);
    full = h.full;
    none_lost = omega (arith, h.none_lost, fewer);
    came = h.came;
    came_back = h.came_back;
  }

  -- it is put back
  pub put_back : (first told : ReadySeen) (all : List Asked) (back back' : Option (List C)) (count most : ℕ) (mid seats : Slab (Visitor C)) (key : ℕ) (v : Visitor C) → AreOut first told all back back' count most mid key v → (seen v.conn).watch.key ≡ Some key → IsQuietSince (seen v.conn).watch.since told.idle key → Updates mid seats key (Some v) → slab_len seats ≡ slab_len mid + 1 → seats.capacity ≡ mid.capacity → AreSeated house seen first told all back back' count most seats
  put_back first told all back back' count most mid seats key v h watched quiet updates more room = record {
    place = h.place;
    gone = h.gone;
    few = h.few;
    seated = λ other u there. elim (cases_eq other key) [
      | inl same ↦ let is : v ≡ u = some_same v u (sym (ap (get seats) same ∙ updates.changed) ∙ there) in
          let own : IsSeated house told.idle all count h.place key (seen_visitor seen v) = record { given = h.given; placed = h.placed; watched = watched; in_turn = h.in_turn; quiet = quiet; bounded = h.bounded; on = h.on } in
          rw same (rw is at own)
      | inr apart ↦ h.seated other u (sym (updates.others other apart) ∙ there)
    ];
    left = h.left;
    room = rw room h.room;
    within = omega (arith, h.within, more);
    full = h.full;
    none_lost = omega (arith, h.none_lost, more);
    came = h.came;
    came_back = h.came_back;
  }

  seat_still : (idle : Option (List ℕ)) (all : List Asked) (count : ℕ) (place : ℕ → Option ℕ) (n : ℕ) (at : Option ℕ) (key : ℕ) (v : VisitorSeen) → n ≢ v.number → IsSeated house idle all count place key v → IsSeated house idle all count (with_place place n at) key v
  seat_still idle all count place n at key v apart s = record { given = s.given; placed = place_other place n v.number at apart ∙ s.placed; watched = s.watched; in_turn = s.in_turn; quiet = s.quiet; bounded = s.bounded; on = s.on }

  left_still : (idle : Option (List ℕ)) (all : List Asked) (count : ℕ) (place : ℕ → Option ℕ) (n : ℕ) (at : Option ℕ) (x : Gone C) → n ≢ x.visitor.number → HasLeft house seen idle all count place x → HasLeft house seen idle all count (with_place place n at) x
  left_still idle all count place n at x apart s = record { given = s.given; placed = place_other place n x.visitor.number at apart ∙ s.placed; in_turn = s.in_turn; served = s.served }

  -- it leaves
  pub leave : (first told : ReadySeen) (all : List Asked) (back back' back'' : Option (List C)) (count most : ℕ) (mid : Slab (Visitor C)) (key : ℕ) (v : Visitor C) (why : Left) → AreOut first told all back back' count most mid key v → IsLeft told.idle (seen v.conn) v.conversation why → Tells back' back'' (v.conn ∷ []) → AreSeated house seen first told all back back'' count most mid
  leave first told all back back' back'' count most mid key v why h cause tells = record {
    place = with_place h.place v.number None;
    gone = h.gone ++ record { visitor = v; why = why } ∷ [];
    few = h.few;
    seated = λ other u there. let s = h.seated other u there in
        seat_still told.idle all count h.place v.number None other (seen_visitor seen u) (apart_keys h.place u.number v.number other key s.placed h.placed (λ same. none_some u (sym h.free ∙ ap (get mid) (sym same) ∙ there))) s;
    left = All-push (HasLeft house seen told.idle all count (with_place h.place v.number None)) h.gone (record { visitor = v; why = why })
        (All-weaker (HasLeft house seen told.idle all count h.place) (HasLeft house seen told.idle all count (with_place h.place v.number None))
        (λ x s. left_still told.idle all count h.place v.number None x (apart_gone h.place x.visitor.number v.number key s.placed h.placed) s) h.gone h.left)
        (record { given = h.given; placed = place_own h.place v.number None; in_turn = h.in_turn; served = left_so told.idle all (seen_visitor seen v) why h.on cause });
    room = h.room;
    within = omega (arith, h.within);
    full = full_push most h.gone (record { visitor = v; why = why }) h.full (λ is. absurd (not_away told.idle (seen v.conn) v.conversation why cause is));
    none_lost = omega (arith, h.none_lost, length-append h.gone (record { visitor = v; why = why } ∷ []));
    came = h.came;
    came_back = tells_more back back' back'' (map (λ x. x.visitor.conn) h.gone) (v.conn ∷ []) _ h.came_back tells (map-append (λ (x : Gone C). x.visitor.conn) h.gone (record { visitor = v; why = why } ∷ []));
  }

  -- it was served, and the clerk heard what it asked
  pub heard_out : {B : Type 0} (shows : Basis B → List Talk → PageAsk → Page → Type 0) (a b : ClerkMoment (Basis B)) (first told : ReadySeen) (all : List Asked) (back back' : Option (List C)) (count most : ℕ) (mid : Slab (Visitor C)) (key : ℕ) (v v' : Visitor C) → (h : AreOut first told all back back' count most mid key v) → (on : Advances house.terms shows a b (seen_visitor seen v) (seen_visitor seen v')) → AreOut first told (all ++ signed v.number on.hears.more) back back' count most mid key v'
  heard_out shows a b first told all back back' count most mid key v v' h on = let more = on.hears.more in record {
    place = h.place;
    gone = h.gone;
    few = All-append (λ (k : Asked). k.by < count) all (signed v.number more) h.few (few_signed count v.number more h.given);
    free = h.free;
    seated = λ other u there. let s = h.seated other u there in
        let apart = apart_keys h.place u.number v.number other key s.placed h.placed (λ same. none_some u (sym h.free ∙ ap (get mid) (sym same) ∙ there)) in
        record { given = s.given; placed = s.placed; watched = s.watched; in_turn = s.in_turn; quiet = s.quiet; bounded = s.bounded; on = rw (other_more u.number v.number all more apart) s.on };
    given = rw on.number h.given;
    placed = ap h.place on.number ∙ h.placed;
    in_turn = ap (λ (w : Watch). w.vain) on.hears.watch ∙ h.in_turn;
    bounded = on.hears.bounded h.bounded;
    on = rw (ap (λ n. asked_by n (all ++ signed v.number more)) on.number ∙ own_more v.number all more) (on.hears.on (asked_by v.number all) h.on);
    left = All-weaker (HasLeft house seen told.idle all count h.place) (HasLeft house seen told.idle (all ++ signed v.number more) count h.place)
        (λ x s. record { given = s.given; placed = s.placed; in_turn = s.in_turn; served = still_served told.idle all v.number more (seen_visitor seen x.visitor) x.why (apart_gone h.place x.visitor.number v.number key s.placed h.placed) s.served }) h.gone h.left;
    room = h.room;
    within = h.within;
    full = h.full;
    none_lost = h.none_lost;
    came = h.came;
    came_back = h.came_back;
  }

  -- its connection is another value that tells the same, but for its marks and how it is watched
  on_same : (wire wire' : WireSeen) (flow : FlowView) (xs : List Exchange) → wire' ≡ record wire { marks = wire'.marks; watch = wire'.watch } → IsOn house.terms wire flow xs → IsOn house.terms wire' flow xs
  on_same wire wire' flow xs same on = record {
    came = on.came;
    taken = on.taken;
    told_came = rw (ap (λ (w : WireSeen). w.came) same) on.told_came;
    told_taken = rw (ap (λ (w : WireSeen). w.taken) same) on.told_taken;
    is_flow = on.is_flow;
  }

  pub same_out : (first told : ReadySeen) (all : List Asked) (back back' : Option (List C)) (count most : ℕ) (mid : Slab (Visitor C)) (key : ℕ) (v v' : Visitor C) → AreOut first told all back back' count most mid key v → v'.number ≡ v.number → v'.conversation ≡ v.conversation → seen v'.conn ≡ record (seen v.conn) { marks = (seen v'.conn).marks; watch = (seen v'.conn).watch } → (seen v'.conn).watch.vain ≡ (seen v.conn).watch.vain → AreOut first told all back back' count most mid key v'
  same_out first told all back back' count most mid key v v' h number flow same vain = record {
    place = h.place;
    gone = h.gone;
    few = h.few;
    free = h.free;
    seated = h.seated;
    given = rw number h.given;
    placed = ap h.place number ∙ h.placed;
    in_turn = vain ∙ h.in_turn;
    bounded = rw flow h.bounded;
    on = rw (flow, number) (on_same (seen v.conn) (seen v'.conn) v.conversation (asked_by v.number all) same h.on);
    left = h.left;
    room = h.room;
    within = h.within;
    full = h.full;
    none_lost = h.none_lost;
    came = h.came;
    came_back = h.came_back;
  }

  later_seat : (idle : Option (List ℕ)) (all : List Asked) (count : ℕ) (place : ℕ → Option ℕ) (at : Option ℕ) (key : ℕ) (v : VisitorSeen) → IsSeated house idle all count place key v → IsSeated house idle all (count + 1) (with_place place count at) key v
  later_seat idle all count place at key v s = record {
    given = omega (arith, s.given);
    placed = place_other place count v.number at (above count v.number s.given) ∙ s.placed;
    watched = s.watched;
    in_turn = s.in_turn;
    quiet = s.quiet;
    bounded = s.bounded;
    on = s.on;
  }

  later_left : (idle : Option (List ℕ)) (all : List Asked) (count : ℕ) (place : ℕ → Option ℕ) (at : Option ℕ) (x : Gone C) → HasLeft house seen idle all count place x → HasLeft house seen idle all (count + 1) (with_place place count at) x
  later_left idle all count place at x s = record { given = omega (arith, s.given); placed = place_other place count x.visitor.number at (above count x.visitor.number s.given) ∙ s.placed; in_turn = s.in_turn; served = s.served }

  came_more : (first told told' : ReadySeen) (count : ℕ) → HasArrived told told' → told.came ≡ after_calls first.came count → told'.came ≡ after_calls first.came (count + 1)
  came_more first told told' count a is = rw add-one (a.came ∙ ap one_call_more is)

  -- it came
  pub enter : (first told told' : ReadySeen) (all : List Asked) (back back' : Option (List C)) (count most : ℕ) (seats : Slab (Visitor C)) (key : ℕ) (v : Visitor C) → HasArrived told told' → slab_len seats < most → AreSeated house seen first told all back back' count most seats → get seats key ≡ None → v.number ≡ count → (seen v.conn).watch.vain ≡ false → IsBounded house.terms v.conversation → IsOn house.terms (seen v.conn) v.conversation [] → AreOut first told' all back back' (count + 1) most seats key v
  enter first told told' all back back' count most seats key v arrived few h free is vain bounded on = record {
    place = with_place h.place count (Some key);
    gone = h.gone;
    few = few_later count all h.few;
    free = free;
    seated = λ other u there. rw arrived.idle (later_seat told.idle all count h.place (Some key) other (seen_visitor seen u) (h.seated other u there));
    given = omega (arith, is);
    placed = ap (with_place h.place count (Some key)) is ∙ place_own h.place count (Some key);
    in_turn = vain;
    bounded = bounded;
    on = rw (ap (λ n. asked_by n all) is ∙ none_asked count all h.few) on;
    left = rw arrived.idle (All-weaker (HasLeft house seen told.idle all count h.place) (HasLeft house seen told.idle all (count + 1) (with_place h.place count (Some key))) (λ x s. later_left told.idle all count h.place (Some key) x s) h.gone h.left);
    room = h.room;
    within = omega (arith, few);
    full = h.full;
    none_lost = omega (arith, h.none_lost);
    came = came_more first told told' count arrived h.came;
    came_back = h.came_back;
  }

  -- it came, and was turned away
  pub turned : (first told told' : ReadySeen) (all : List Asked) (back back' back'' : Option (List C)) (count most : ℕ) (seats : Slab (Visitor C)) (v : Visitor C) → HasArrived told told' → AreSeated house seen first told all back back' count most seats → v.number ≡ count → most ≤ slab_len seats → (seen v.conn).watch.vain ≡ false → WasTold (seen v.conn) house.away → Tells back' back'' (v.conn ∷ []) → AreSeated house seen first told' all back back'' (count + 1) most seats
  turned first told told' all back back' back'' count most seats v arrived h is full vain was tells = let x : Gone C = record { visitor = v; why = lefts.TurnedAway } in record {
    place = with_place h.place count None;
    gone = h.gone ++ x ∷ [];
    few = few_later count all h.few;
    seated = λ other u there. rw arrived.idle (later_seat told.idle all count h.place None other (seen_visitor seen u) (h.seated other u there));
    left = rw arrived.idle (All-push (HasLeft house seen told.idle all (count + 1) (with_place h.place count None)) h.gone x
        (All-weaker (HasLeft house seen told.idle all count h.place) (HasLeft house seen told.idle all (count + 1) (with_place h.place count None)) (λ y s. later_left told.idle all count h.place None y s) h.gone h.left)
        (record { given = omega (arith, is); placed = ap (with_place h.place count None) is ∙ place_own h.place count None; in_turn = vain; served = (ap (λ n. asked_by n all) is ∙ none_asked count all h.few, was) }));
    room = h.room;
    within = h.within;
    full = full_push most h.gone x h.full (λ why. omega (arith, is, full, h.within, h.none_lost));
    none_lost = omega (arith, h.none_lost, length-append h.gone (x ∷ []));
    came = came_more first told told' count arrived h.came;
    came_back = tells_more back back' back'' (map (λ y. y.visitor.conn) h.gone) (v.conn ∷ []) _ h.came_back tells (map-append (λ (y : Gone C). y.visitor.conn) h.gone (x ∷ []));
  }
