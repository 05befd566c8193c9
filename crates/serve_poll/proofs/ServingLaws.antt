-- What events do to all connections.
use Rattle.std.proofs.Common.{◌≡◌, ◌≢◌, ◌⊎◌, ◌<◌, ◌≤◌, ◌+◌, ℕ, Bool, true, false, length, List, [], ◌∷◌, ◌++◌, map, refl, ap, sym, ◌∙◌, append_assoc, append-nil, arith, inl, inr}
use Rattle.std.specs.Prelude.{Option, None, Some, All, slice_index_or, ◌&&◌, ◌||◌, not, is_some}
use Rattle.std.proofs.lemmas.Bool.{cases_eq}
use Rattle.std.proofs.lemmas.List.{map-append}
use Rattle.std.proofs.lemmas.List.Elements.{All-nil}
use Rattle.desk_common.specs.Causes.{Rose, counted}
use Rattle.slab.specs.Slab.{Slab, get, slab_len, Updates}
use Rattle.ready_wires.specs.Wires.{WireSeen, IsTold, no_watch, after_rest, watched_under, not_watched, since_first, vain_again}
use Rattle.ready_wires.specs.Events.{ReadySeen, Tells, IsAwaited, IsQuietSince, count_told}
use Rattle.ready_wires.specs.declared.watch.Watch.{Watch}
use Rattle.http_page.specs.Pages.{PageAsk}
use Rattle.http_talk.specs.Hearing.{ClerkMoment}
use Rattle.http_talk.specs.declared.talk.Talk.{Talk}
use Rattle.http_flow.specs.Exchange.{Basis, Terms, Exchange}
use Rattle.http_flow.specs.Flow.{FlowView, IsFlow}
use Rattle.http_flow.specs.declared.page.Page.{Page}
use Rattle.http_flow.specs.declared.phase.Phase.TheVariants as phases
use Rattle.http_flow.proofs.ExchangeLaws.{Heard-nil, Heard-join}
use Rattle.serve_poll.specs.Visitors.{IsOn, IsBounded, IsLeft, IsLastStep, IsWaiting, WasTold, Advances}
use Rattle.serve_poll.specs.Halls.{Asked, House, IsLoopEnd, IsInTurn, seen_visitor, HasLeft, AreSeated, Stands, AreWatched, AreWatchedBut, HasArrived, WasIdle, KeepsStanding, StaysStanding}
use Rattle.serve_poll.specs.Inner.Watches.{IsSameWatch}
use Rattle.serve_poll.specs.declared.step.Left.{Left}
use Rattle.serve_poll.specs.declared.step.Left.TheVariants as lefts
use Rattle.serve_poll.specs.declared.hall.Hall.{Hall}
use Rattle.serve_poll.specs.declared.serving.LoopEnd.{LoopEnd}
use Rattle.serve_poll.specs.declared.serving.LoopEnd.TheVariants as ends
use Rattle.serve_poll.specs.declared.visitor.Visitor.{Visitor}
use Rattle.serve_poll.proofs.HallLaws.{none_some, signed, exchanges_signed, tells_none, told_last, quiet_now, IsStill, AreOut, seated_still, still_out, idle_seated, idle_out, take_out, leave, heard_out, same_out, enter, turned}

-- the exchanges with further ones
exchanges_on : (xs : List Exchange) (all : List Asked) (n : ℕ) (more : List Exchange) → xs ≡ map (λ (h : Asked). h.exchange) all → xs ++ more ≡ map (λ (h : Asked). h.exchange) (all ++ signed n more)
exchanges_on xs all n more is =
    ap (λ l. l ++ more) is ∙ ap (λ l. map (λ (h : Asked). h.exchange) all ++ l) (sym (exchanges_signed n more)) ∙ sym (map-append (λ (h : Asked). h.exchange) all (signed n more))

some_is : {X : Type 0} (x y : X) → Some x ≡ Some y → x ≡ y
some_is x y e = cc e

-- the key behind the last slot is free
pub free_end : {X : Type 0} (slots : List (Option X)) → slice_index_or slots (length slots) None ≡ None
free_end [] = refl
free_end (x ∷ xs) = free_end xs

abbrev pub new_flow : FlowView
new_flow = record { rest = []; need = 0; due = []; phase = phases.Waits }

flow_new : (terms : Terms) → IsFlow terms [] [] [] new_flow
flow_new terms = record { rest = []; reads = refl; stands = (refl, refl, refl, record { now = inl (inl refl); later = λ more l. absurd (omega (arith, l)) }) }

pub bounded_new : (terms : Terms) → IsBounded terms new_flow
bounded_new terms = record { rest = omega arith; waiting = λ _. omega arith; due = ([], [], [], [], refl, omega arith, inl refl) }

pub still_same : (told : ReadySeen) → IsStill told told
still_same told = record { came = refl; idle = refl }

pub still_join : (t u v : ReadySeen) → IsStill t u → IsStill u v → IsStill t v
still_join t u v h k = record { came = k.came ∙ h.came; idle = k.idle ∙ h.idle }

counted_more : (a b : ℕ) → a ≤ b → counted a ≤ counted b
counted_more a b l = grind (arith, l)

pub rose_since : (a b c : ℕ) → a ≤ b → Rose b c → Rose a c
rose_since a b c l h = omega (arith, h, counted_more a b l)

module _ (awaited awaited' : Option (List ℕ)) where
  turn_more : (key : ℕ) (wire : WireSeen) (flow : FlowView) → (IsAwaited awaited key → IsAwaited awaited' key) → IsInTurn awaited key wire flow → IsInTurn awaited' key wire flow
  turn_more key wire flow more h = record { awaited = more h.awaited; untried = h.untried; waits = h.waits }

module _ {C : Type 0} (seen : C → WireSeen) where
  pub watched_more : (awaited awaited' : Option (List ℕ)) (seats : Slab (Visitor C)) → ((other : ℕ) → IsAwaited awaited other → IsAwaited awaited' other) → AreWatched seen awaited seats → AreWatched seen awaited' seats
  watched_more awaited awaited' seats more h key v at = turn_more awaited awaited' key (seen v.conn) v.conversation (more key) (h key v at)

  pub watched_but : (key : ℕ) (awaited awaited' : Option (List ℕ)) (seats : Slab (Visitor C)) → ((other : ℕ) → other ≢ key → IsAwaited awaited other → IsAwaited awaited' other) → AreWatched seen awaited seats → AreWatchedBut seen key awaited' seats
  watched_but key awaited awaited' seats more h other v apart at = turn_more awaited awaited' other (seen v.conn) v.conversation (more other apart) (h other v at)

  -- a connection takes this seat
  put_watched : (awaited : Option (List ℕ)) (mid seats : Slab (Visitor C)) (key : ℕ) (w : Visitor C) → AreWatchedBut seen key awaited mid → Updates mid seats key (Some w) → IsInTurn awaited key (seen w.conn) w.conversation → AreWatched seen awaited seats
  put_watched awaited mid seats key w h updates own other v at = elim (cases_eq other key) [
    | inl same ↦ let is : w ≡ v = some_is w v (sym (ap (get seats) same ∙ updates.changed) ∙ at) in rw same (rw is at own)
    | inr apart ↦ h other v apart (sym (updates.others other apart) ∙ at)
  ]

  -- a connection leaves its seat
  out_watched : (awaited : Option (List ℕ)) (seats mid : Slab (Visitor C)) (key : ℕ) → AreWatchedBut seen key awaited seats → Updates seats mid key None → AreWatched seen awaited mid
  out_watched awaited seats mid key h updates other v at = elim (cases_eq other key) [
    | inl same ↦ absurd (none_some v (sym (ap (get mid) same ∙ updates.changed) ∙ at))
    | inr apart ↦ h other v apart (sym (updates.others other apart) ∙ at)
  ]

  pub watched_out : (awaited awaited' : Option (List ℕ)) (seats mid : Slab (Visitor C)) (key : ℕ) → ((other : ℕ) → IsAwaited awaited other → IsAwaited awaited' other) → AreWatchedBut seen key awaited seats → Updates seats mid key None → AreWatched seen awaited' mid
  watched_out awaited awaited' seats mid key more h updates = watched_more awaited awaited' mid more (out_watched awaited seats mid key h updates)

  pub watched_back : (awaited awaited' : Option (List ℕ)) (seats mid last : Slab (Visitor C)) (key : ℕ) (w : Visitor C) → ((other : ℕ) → IsAwaited awaited other → IsAwaited awaited' other) → AreWatchedBut seen key awaited seats → Updates seats mid key None → Updates mid last key (Some w) → IsInTurn awaited' key (seen w.conn) w.conversation → AreWatched seen awaited' last
  watched_back awaited awaited' seats mid last key w more h out back own =
      let out' = watched_out awaited awaited' seats mid key more h out in
      put_watched awaited' mid last key w (λ other v apart at. out' other v at) back own

  pub watched_in : (awaited awaited' : Option (List ℕ)) (seats last : Slab (Visitor C)) (key : ℕ) (w : Visitor C) → ((other : ℕ) → IsAwaited awaited other → IsAwaited awaited' other) → AreWatched seen awaited seats → Updates seats last key (Some w) → IsInTurn awaited' key (seen w.conn) w.conversation → AreWatched seen awaited' last
  watched_in awaited awaited' seats last key w more h updates own =
      let more' = watched_more awaited awaited' seats more h in
      put_watched awaited' seats last key w (λ other v apart at. more' other v at) updates own

-- what waits still does under other marks that tell the same of its last calls
rest_waits : (wire : WireSeen) (flow : FlowView) → IsWaiting wire flow → IsWaiting (after_rest wire) flow
rest_waits wire flow (inl h) = inl h
rest_waits wire flow (inr h) = inr h

-- a connection that is watched again, or laid to rest, is in turn, and that wasn't in vain
pub turn_again : (awaited : Option (List ℕ)) (key : ℕ) (told : Option ℕ) (wire wire' : WireSeen) (flow : FlowView) → wire' ≡ watched_under key told wire → IsAwaited awaited key → IsInTurn awaited key wire' flow
turn_again awaited key told wire wire' flow is there =
    let own : IsInTurn awaited key (watched_under key told wire) flow = record { awaited = there; untried = refl; waits = λ e. absurd (cc e) } in rw is own

pub turn_rest : (awaited : Option (List ℕ)) (key : ℕ) (wire wire' : WireSeen) (flow : FlowView) → wire' ≡ after_rest wire → IsAwaited awaited key → IsWaiting wire flow → IsInTurn awaited key wire' flow
turn_rest awaited key wire wire' flow is there waits =
    let own : IsInTurn awaited key (after_rest wire) flow = record { awaited = there; untried = refl; waits = λ _. rest_waits wire flow waits } in rw is own

and_no : (b : Bool) → (b && false) ≡ false
and_no true = refl
and_no false = refl

or_no : (b : Bool) → (b || false) ≡ b
or_no true = refl
or_no false = refl

pub not_vain : (watch : Watch) (some : Bool) → some ≡ true → vain_again watch some ≡ watch.vain
not_vain watch some is =
    ap (λ t. watch.vain || (is_some watch.key && not t)) is ∙ ap (λ b. watch.vain || b) (and_no (is_some watch.key)) ∙ or_no watch.vain

-- what watching it, laying it to rest and not being able to watch it leave of a connection
pub under_same : (key : ℕ) (told : Option ℕ) (wire wire' : WireSeen) → wire' ≡ watched_under key told wire → wire' ≡ record wire { marks = wire'.marks; watch = wire'.watch }
under_same key told wire wire' is = rw is refl

pub rest_same : (wire wire' : WireSeen) → wire' ≡ after_rest wire → wire' ≡ record wire { marks = wire'.marks; watch = wire'.watch }
rest_same wire wire' is = rw is refl

pub not_same : (wire wire' : WireSeen) → wire' ≡ not_watched wire → wire' ≡ record wire { marks = wire'.marks; watch = wire'.watch }
not_same wire wire' is = rw is refl

pub under_vain : (key : ℕ) (told : Option ℕ) (wire wire' : WireSeen) → wire.marks.moved ≡ true → wire' ≡ watched_under key told wire → wire'.watch.vain ≡ wire.watch.vain
under_vain key told wire wire' moved is = ap (λ (w : WireSeen). w.watch.vain) is ∙ not_vain wire.watch wire.marks.moved moved

pub rest_vain : (wire wire' : WireSeen) → wire.marks.tried ≡ true → wire' ≡ after_rest wire → wire'.watch.vain ≡ wire.watch.vain
rest_vain wire wire' tried is = ap (λ (w : WireSeen). w.watch.vain) is ∙ not_vain wire.watch wire.marks.tried tried

-- a connection that is watched for the first time
pub first_vain : (key : ℕ) (told : Option ℕ) (wire wire' : WireSeen) → wire.watch ≡ no_watch → wire' ≡ watched_under key told wire → wire'.watch.vain ≡ false
first_vain key told wire wire' fresh is = ap (λ (w : WireSeen). w.watch.vain) is ∙ ap (λ (w : Watch). vain_again w wire.marks.moved) fresh

pub first_quiet : (key : ℕ) (idle : Option (List ℕ)) (wire wire' : WireSeen) → wire.watch ≡ no_watch → wire' ≡ watched_under key (count_told idle) wire → IsQuietSince wire'.watch.since idle key
first_quiet key idle wire wire' fresh is = rw (ap (λ (w : WireSeen). w.watch.since) is ∙ ap (λ (w : Watch). since_first w (count_told idle)) fresh) (quiet_now idle key)

pub not_vain_first : (wire wire' : WireSeen) → wire.watch ≡ no_watch → wire' ≡ not_watched wire → wire'.watch.vain ≡ false
not_vain_first wire wire' fresh is = ap (λ (w : WireSeen). w.watch.vain) is ∙ ap (λ (w : Watch). w.vain) fresh

-- it is watched under the same key, since it was first
pub same_watch : (key : ℕ) (told : Option ℕ) (wire : WireSeen) → wire.watch.key ≡ Some key → IsSameWatch wire.watch (watched_under key told wire).watch
same_watch key told wire is = record { key = sym is; since = rw is refl }

pub under_keeps : (key : ℕ) (told : Option ℕ) (wire wire' : WireSeen) → wire' ≡ watched_under key told wire → wire.watch.key ≡ Some key → IsSameWatch wire.watch wire'.watch
under_keeps key told wire wire' is own = rw is (same_watch key told wire own)

pub rest_keeps : (wire wire' : WireSeen) → wire' ≡ after_rest wire → IsSameWatch wire.watch wire'.watch
rest_keeps wire wire' is = record { key = ap (λ (w : WireSeen). w.watch.key) is; since = ap (λ (w : WireSeen). w.watch.since) is }

module _ {C : Type 0} (house : House) (seen : C → WireSeen) where
  -- nothing stood before
  pub stands_first : (told : ReadySeen) (back : Option (List C)) (hall : Hall C) → hall.seats.slots ≡ [] → hall.count ≡ 0 → hall.most ≤ hall.seats.capacity → Stands house seen told told [] back back hall
  stands_first told back hall none zero room = record {
    all = [];
    exchanges = refl;
    are_seated = record {
      place = λ n. None;
      gone = [];
      few = All-nil (λ (h : Asked). h.by < hall.count);
      seated = λ key v at. absurd (none_some v (rw none at at));
      left = All-nil (HasLeft house seen told.idle [] hall.count (λ n. None));
      room = room;
      within = rw none (omega arith);
      full = tt;
      none_lost = rw (zero, none) refl;
      came = rw zero refl;
      came_back = tells_none back;
    };
  }

  fresh_on : (conn : C) → IsTold (seen conn).came [] → IsTold (seen conn).taken [] → IsOn house.terms (seen conn) new_flow []
  fresh_on conn came taken = record { came = []; taken = []; told_came = came; told_taken = taken; is_flow = flow_new house.terms }

  -- a connection came, and was seated or handed back
  pub entered : (before told told' : ReadySeen) (back back' : Option (List C)) (hall hall' : Hall C) (key : ℕ) (u v : Visitor C) → HasArrived before told → IsStill told told' → slab_len hall.seats < hall.most → get hall.seats key ≡ None → u.number ≡ hall.count → u.conversation ≡ new_flow → (seen u.conn).watch ≡ no_watch → IsTold (seen u.conn).came [] → IsTold (seen u.conn).taken [] → v.number ≡ u.number → v.conversation ≡ u.conversation → seen v.conn ≡ record (seen u.conn) { marks = (seen v.conn).marks; watch = (seen v.conn).watch } → (seen v.conn).watch.vain ≡ false
      → ((all : List Asked) (first : ReadySeen) (old : Option (List C)) → AreOut house seen first told' all old back (hall.count + 1) hall.most hall.seats key v → AreSeated house seen first told' all old back' hall'.count hall'.most hall'.seats) → StaysStanding house seen before told' back back' hall hall'
  entered before told told' back back' hall hall' key u v arrived still few free number flow watch came taken number' flow' same vain last all first old s =
      let vain_u : (seen u.conn).watch.vain ≡ false = ap (λ (w : Watch). w.vain) watch in
      let out = enter house seen first before told all old back hall.count hall.most hall.seats key u arrived few s free number vain_u (rw flow (bounded_new house.terms)) (rw flow (fresh_on u.conn came taken)) in
      last all first old (same_out house seen first told' all old back (hall.count + 1) hall.most hall.seats key u v (still_out house seen first told told' all old back (hall.count + 1) hall.most hall.seats key u still out) number' flow' same (vain ∙ sym vain_u))

  -- a connection came, and was turned away
  pub turned_away : (before told told' : ReadySeen) (back back' : Option (List C)) (hall : Hall C) (v : Visitor C) → HasArrived before told → IsStill told told' → v.number ≡ hall.count → (hall.most ≤ slab_len hall.seats) ⊎ (slab_len hall.seats ≡ hall.seats.capacity) → (seen v.conn).watch ≡ no_watch → WasTold (seen v.conn) house.away → Tells back back' (v.conn ∷ []) → StaysStanding house seen before told' back back' hall (record hall { count = hall.count + 1 })
  turned_away before told told' back back' hall v arrived still number full watch was tells all first old s =
      let over : hall.most ≤ slab_len hall.seats = elim full [ inl more ↦ more | inr all_room ↦ omega (arith, all_room, s.room) ] in
      let s' = turned house seen first before told all old back back' hall.count hall.most hall.seats v arrived s number over (ap (λ (w : Watch). w.vain) watch) was tells in
      seated_still house seen first told told' all old back' (hall.count + 1) hall.most hall.seats still s'

  -- a connection left, since nothing happened at it for too long
  pub left_seat : (before told told' : ReadySeen) (back back' : Option (List C)) (hall hall' : Hall C) (key : ℕ) (u : Visitor C) → WasIdle key before told → IsStill told told' → get hall.seats key ≡ Some u → Updates hall.seats hall'.seats key None → slab_len hall'.seats + 1 ≡ slab_len hall.seats → hall'.seats.capacity ≡ hall.seats.capacity → hall'.count ≡ hall.count → hall'.most ≡ hall.most → Tells back back' (u.conn ∷ []) → StaysStanding house seen before told' back back' hall hall'
  left_seat before told told' back back' hall hall' key u idle still at updates fewer room same most tells all first old s =
      let own = s.seated key u at in
      let out = take_out house seen first before all old back hall.count hall.most hall.seats hall'.seats key u s at updates fewer room in
      let out' = idle_out house seen first before told all old back hall.count hall.most hall'.seats key u idle out in
      let cause : IsLeft told.idle (seen u.conn) u.conversation lefts.Idle = (key, own.watched, told_last (seen u.conn).watch.since before.idle told.idle key idle.idle own.quiet) in
      rw (same, most) (seated_still house seen first told told' all old back' hall.count hall.most hall'.seats still (leave house seen first told all old back back' hall.count hall.most hall'.seats key u lefts.Idle out' cause tells))

  -- nobody had the seat that was told of as idle
  pub idle_none : (key : ℕ) (before told : ReadySeen) (back : Option (List C)) (hall : Hall C) (seats : Slab (Visitor C)) → WasIdle key before told → get hall.seats key ≡ None → seats ≡ hall.seats → StaysStanding house seen before told back back hall (record hall { seats = seats })
  idle_none key before told back hall seats idle free same all first old s = rw same (idle_seated house seen first before told all old back hall.count hall.most hall.seats key idle free s)

  module _ {B : Type 0} (shows : Basis B → List Talk → PageAsk → Page → Type 0) where
    pub stays_keeps : (a : ClerkMoment (Basis B)) (told told' : ReadySeen) (back back' : Option (List C)) (hall hall' : Hall C) → StaysStanding house seen told told' back back' hall hall' → KeepsStanding house seen shows a a told told' back back' hall hall'
    stays_keeps a told told' back back' hall hall' h = record {
      more = [];
      heard = Heard-nil shows a;
      stands = λ xs first before s. record { all = s.all; exchanges = append-nil xs ∙ s.exchanges; are_seated = h s.all first before s.are_seated };
    }

    pub keeps_later : (a : ClerkMoment (Basis B)) (told told' : ReadySeen) (back : Option (List C)) (hall : Hall C) → IsStill told told' → KeepsStanding house seen shows a a told told' back back hall hall
    keeps_later a told told' back hall later = stays_keeps a told told' back back hall hall (λ all first before s. seated_still house seen first told told' all before back hall.count hall.most hall.seats later s)

    pub keeps_still : (a : ClerkMoment (Basis B)) (told : ReadySeen) (back : Option (List C)) (hall : Hall C) → KeepsStanding house seen shows a a told told back back hall hall
    keeps_still a told back hall = keeps_later a told told back hall (still_same told)

    pub keeps_join : (a b c : ClerkMoment (Basis B)) (t u v : ReadySeen) (one two three : Option (List C)) (hall mid last : Hall C) → KeepsStanding house seen shows a b t u one two hall mid → KeepsStanding house seen shows b c u v two three mid last → KeepsStanding house seen shows a c t v one three hall last
    keeps_join a b c t u v one two three hall mid last h k = record {
      more = h.more ++ k.more;
      heard = Heard-join shows a b c h.more k.more h.heard k.heard;
      stands = λ xs first before s. rw (sym (append_assoc xs h.more k.more)) (k.stands (xs ++ h.more) first before (h.stands xs first before s));
    }

    -- an event was told before
    pub keeps_event : (a b : ClerkMoment (Basis B)) (t u v : ReadySeen) (one two three : Option (List C)) (hall hall' : Hall C) → IsStill t u → two ≡ one → KeepsStanding house seen shows a b u v two three hall hall' → KeepsStanding house seen shows a b t v one three hall hall'
    keeps_event a b t u v one two three hall hall' later same k =
        let k' : KeepsStanding house seen shows a b u v one three hall hall' = rw same at k in
        keeps_join a a b t u v one one three hall hall hall' (keeps_later a t u one hall later) k'

    -- an event was told at which the clerk hears nothing
    pub keeps_told : (a : ClerkMoment (Basis B)) (t v : ReadySeen) (one two three : Option (List C)) (hall hall' : Hall C) → two ≡ one → StaysStanding house seen t v two three hall hall' → KeepsStanding house seen shows a a t v one three hall hall'
    keeps_told a t v one two three hall hall' same h =
        let h' : StaysStanding house seen t v one three hall hall' = rw same at h in
        stays_keeps a t v one three hall hall' h'

    -- a connection was taken out of its seat and served
    pub ready : (a b : ClerkMoment (Basis B)) (told told' : ReadySeen) (back back' : Option (List C)) (hall hall' : Hall C) (mid : Slab (Visitor C)) (key : ℕ) (u v w : Visitor C) → IsStill told told' → get hall.seats key ≡ Some u → Updates hall.seats mid key None → slab_len mid + 1 ≡ slab_len hall.seats → mid.capacity ≡ hall.seats.capacity → Advances house.terms shows a b (seen_visitor seen u) (seen_visitor seen v) → w.number ≡ v.number → w.conversation ≡ v.conversation → seen w.conn ≡ record (seen v.conn) { marks = (seen w.conn).marks; watch = (seen w.conn).watch } → (seen w.conn).watch.vain ≡ (seen v.conn).watch.vain
        → ((all : List Asked) (first : ReadySeen) (before : Option (List C)) → AreOut house seen first told' all before back hall.count hall.most mid key w → (seen v.conn).watch.key ≡ Some key → IsQuietSince (seen v.conn).watch.since told'.idle key → AreSeated house seen first told' all before back' hall'.count hall'.most hall'.seats) → KeepsStanding house seen shows a b told told' back back' hall hall'
    ready a b told told' back back' hall hall' mid key u v w later at updates fewer room on number flow same vain last = record {
      more = on.hears.more;
      heard = on.hears.heard;
      stands = λ xs first before s.
          let s' = seated_still house seen first told told' s.all before back hall.count hall.most hall.seats later s.are_seated in
          let own = s'.seated key u at in
          let all = s.all ++ signed u.number on.hears.more in
          let out = heard_out house seen shows a b first told' s.all before back hall.count hall.most mid key u v (take_out house seen first told' s.all before back hall.count hall.most hall.seats mid key u s' at updates fewer room) on in
          record {
            all = all;
            exchanges = exchanges_on xs s.all u.number on.hears.more s.exchanges;
            are_seated = last all first before (same_out house seen first told' all before back hall.count hall.most mid key v w out number flow same vain)
                (ap (λ (w : Watch). w.key) on.hears.watch ∙ own.watched) (rw (ap (λ (w : Watch). w.since) on.hears.watch) own.quiet);
          };
    }

-- why a step was the last
pub last_left : (idle : Option (List ℕ)) (wire : WireSeen) (flow : FlowView) (left : Left) → IsLastStep wire flow left → IsLeft idle wire flow left
last_left idle wire flow lefts.Answered h = h
last_left idle wire flow lefts.InputEnded h = h
last_left idle wire flow lefts.Failed h = h
last_left idle wire flow lefts.TurnedAway h = absurd h
last_left idle wire flow lefts.Unwatched h = absurd h
last_left idle wire flow lefts.Idle h = absurd h

-- nobody had this seat
pub stays_none : {C : Type 0} (house : House) (seen : C → WireSeen) (told : ReadySeen) (back : Option (List C)) (hall : Hall C) (seats : Slab (Visitor C)) → seats ≡ hall.seats → StaysStanding house seen told told back back hall (record hall { seats = seats })
stays_none house seen told back hall seats same all first before s = rw same s

-- why no further event is awaited
pub loop_end : (turns made count : ℕ) (told mid told' : ReadySeen) (end : LoopEnd) → told.faults ≤ mid.faults → ((end ≡ ends.Ended) × (told'.ended ≡ true)) ⊎ ((end ≡ ends.Failed) × Rose mid.faults told'.faults) → IsLoopEnd turns made told told' count end
loop_end turns made count told mid told' end since (inl h) = rw h.0 h.1
loop_end turns made count told mid told' end since (inr h) = rw h.0 (rose_since told.faults mid.faults told'.faults since h.1)
