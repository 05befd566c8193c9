-- Steps of a connection.
use Rattle.std.proofs.Common.{◌≡◌, ◌≢◌, ◌<◌, ◌≤◌, ◌+◌, ◌-◌, ◌⊎◌, ℕ, List, [], ◌∷◌, ◌++◌, length, take, drop, refl, ap, sym, ◌∙◌, append_assoc, append-nil, take-append-drop, take-add, drop-drop, arith, inl, inr, true}
use Rattle.std.proofs.lemmas.List.{drop_all, length-drop, take_rest}
use Rattle.std.specs.Prelude.{Option, None, Some, Ok, zero, suc}
use Rattle.ready_wires.specs.Wires.{WireSeen, IsTold, Grows, after_read, after_write}
use Rattle.sms_base.specs.declared.source.Failed.{Failed}
use Rattle.ready_wires.specs.declared.marks.Marks.{Marks}
use Rattle.http_page.specs.Pages.{PageAsk}
use Rattle.http_talk.specs.Hearing.{ClerkMoment}
use Rattle.http_talk.specs.declared.talk.Talk.{Talk}
use Rattle.http_flow.specs.Exchange.{Basis, Terms, Exchange, Heard, room_of, talks_in}
use Rattle.http_flow.specs.Flow.{FlowView, IsFlow, GoesOn, OwesFew, IsOneText, most_message}
use Rattle.http_flow.specs.declared.page.Page.{Page}
use Rattle.http_flow.specs.declared.phase.Phase.TheVariants as phases
use Rattle.http_flow.proofs.ExchangeLaws.{Heard-nil, Heard-join}
use Rattle.http_flow.proofs.FlowLaws.{flow_sent}
use Rattle.serve_poll.specs.Visitors.{IsOn, IsFew, IsBounded, Sends, Hears, VisitorSeen, Advances, most_piece, WasTold}

-- a call that gave or took bytes
pub read_moved : (marks marks' : Marks) (room : ℕ) (o : Option ℕ) (count : ℕ) → o ≡ Some count → marks' ≡ after_read {E = Failed} marks room (Ok o) → (count ≡ 0 → ⊥) → marks'.moved ≡ true
read_moved marks marks' room o zero is same some = absurd (some refl)
read_moved marks marks' room o (suc count) is same some =
    let e : marks' ≡ after_read {E = Failed} marks room (Ok (Some (suc count))) = rw is at same in ap (λ (m : Marks). m.moved) e

pub wrote_moved : (marks marks' : Marks) (o : Option ℕ) (count : ℕ) → o ≡ Some count → marks' ≡ after_write {E = Failed} marks (Ok o) → 0 < count → marks'.moved ≡ true
wrote_moved marks marks' o zero is same some = absurd (omega (arith, some))
wrote_moved marks marks' o (suc count) is same some =
    let e : marks' ≡ after_write {E = Failed} marks (Ok (Some (suc count))) = rw is at same in ap (λ (m : Marks). m.moved) e

-- a read of nothing into a buffer with room
pub read_ended : (marks marks' : Marks) (room : ℕ) (o : Option ℕ) (count : ℕ) → o ≡ Some count → marks' ≡ after_read {E = Failed} marks room (Ok o) → count ≡ 0 → 0 < room → marks'.ended ≡ true
read_ended marks marks' zero o count is same none some = absurd (omega (arith, some))
read_ended marks marks' (suc room) o count is same none some =
    let e : marks' ≡ after_read {E = Failed} marks (suc room) (Ok (Some 0)) = rw none at (rw is at same) in ap (λ (m : Marks). m.ended) e

pub some_bytes : (bytes : List ℕ) → bytes ≢ [] → 0 < length bytes
some_bytes [] some = absurd (some refl)
some_bytes (x ∷ xs) some = omega arith

pub told_more : (old new : Option (List ℕ)) (bytes more : List ℕ) → IsTold old bytes → Grows old new more → IsTold new (bytes ++ more)
told_more None new bytes more told grows = rw grows tt
told_more (Some those) new bytes more told grows = rw grows (ap (λ l. l ++ more) told)

pub told_still : (old new : Option (List ℕ)) (bytes : List ℕ) → IsTold old bytes → Grows old new [] → IsTold new bytes
told_still old new bytes told grows = let more : IsTold new (bytes ++ []) = told_more old new bytes [] told grows in rw append-nil at more

-- what is left to be sent is no more
few_drop : (terms : Terms) (due : List ℕ) (n : ℕ) → IsFew terms due → IsFew terms (drop n due)
few_drop terms due n h =
    (h.0 ++ take n due, h.1, h.2, h.3, append_assoc h.0 (take n due) (drop n due ++ h.1) ∙ ap (λ l. h.0 ++ l) (sym (append_assoc (take n due) (drop n due) h.1) ∙ ap (λ l. l ++ h.1) (take-append-drop n due)) ∙ h.4, h.5, h.6)

few_owes : (terms : Terms) (all : List ℕ) → OwesFew terms [] all → IsFew terms all
few_owes terms all h = elim h.1 [
  | inl none ↦ ([], h.0, [], [], none, omega arith, inl refl)
  | inr few ↦ ([], h.0, few.0, few.1, few.2, few.3, few.4)
]

-- a front of what was due was sent
pub sends_some : (terms : Terms) (wire wire' : WireSeen) (flow flow' : FlowView) (count : ℕ) → wire'.came ≡ wire.came → Grows wire.taken wire'.taken (take count flow.due) → wire'.watch ≡ wire.watch → flow' ≡ record flow { due = drop count flow.due } → Sends terms wire wire' flow flow'
sends_some terms wire wire' flow flow' count same grows watched is = record {
  on = λ xs on. record {
    came = on.came;
    taken = on.taken ++ take count flow.due;
    told_came = rw same on.told_came;
    told_taken = told_more wire.taken wire'.taken on.taken (take count flow.due) on.told_taken grows;
    is_flow = rw is (flow_sent terms on.came on.taken xs flow count on.is_flow);
  };
  bounded = λ b.
      let after : IsBounded terms (record flow { due = drop count flow.due }) = record { rest = b.rest; waiting = b.waiting; due = few_drop terms flow.due count b.due } in
      rw is after;
  watch = watched;
}

-- nothing was sent
pub sends_none : (terms : Terms) (wire wire' : WireSeen) (flow : FlowView) → wire'.came ≡ wire.came → Grows wire.taken wire'.taken [] → wire'.watch ≡ wire.watch → Sends terms wire wire' flow flow
sends_none terms wire wire' flow same grows watched = record {
  on = λ xs on. record {
    came = on.came;
    taken = on.taken;
    told_came = rw same on.told_came;
    told_taken = told_still wire.taken wire'.taken on.taken on.told_taken grows;
    is_flow = on.is_flow;
  };
  bounded = λ b. b;
  watch = watched;
}

module _ {B : Type 0} (terms : Terms) (shows : Basis B → List Talk → PageAsk → Page → Type 0) where
  -- a piece came
  pub hears_some : (a b : ClerkMoment (Basis B)) (wire wire' : WireSeen) (flow flow' : FlowView) (piece : List ℕ) → wire'.taken ≡ wire.taken → Grows wire.came wire'.came piece → wire'.watch ≡ wire.watch → flow.due ≡ [] → (IsBounded terms flow → length flow.rest + length piece < most_message + most_piece) → GoesOn terms shows a b flow flow' piece → Hears terms shows a b wire wire' flow flow'
  hears_some a b wire wire' flow flow' piece same grows watched sent fits on = record {
    more = on.more;
    heard = on.heard;
    on = λ xs is. record {
      came = is.came ++ piece;
      taken = is.taken;
      told_came = told_more wire.came wire'.came is.came piece is.told_came grows;
      told_taken = rw same is.told_taken;
      is_flow = on.flows is.came is.taken xs is.is_flow;
    };
    bounded = λ b. record { rest = omega (arith, on.shorter, fits b); waiting = on.kept; due = few_owes terms flow'.due (rw sent at on.owes) };
    watch = watched;
  }

  -- nothing was heard
  pub hears_sent : (a : ClerkMoment (Basis B)) (wire wire' : WireSeen) (flow flow' : FlowView) → Sends terms wire wire' flow flow' → Hears terms shows a a wire wire' flow flow'
  hears_sent a wire wire' flow flow' sends = record {
    more = [];
    heard = Heard-nil shows a;
    on = λ xs is. rw (append-nil xs) (sends.on xs is);
    bounded = sends.bounded;
    watch = sends.watch;
  }

  pub hears_none : (a : ClerkMoment (Basis B)) (wire wire' : WireSeen) (flow : FlowView) → wire'.taken ≡ wire.taken → Grows wire.came wire'.came [] → wire'.watch ≡ wire.watch → Hears terms shows a a wire wire' flow flow
  hears_none a wire wire' flow same grows watched = hears_sent a wire wire' flow flow (record {
    on = λ xs on. record {
      came = on.came;
      taken = on.taken;
      told_came = told_still wire.came wire'.came on.came on.told_came grows;
      told_taken = rw same on.told_taken;
      is_flow = on.is_flow;
    };
    bounded = λ b. b;
    watch = watched;
  })

  -- what came before went on
  pub hears_on : (a b : ClerkMoment (Basis B)) (wire : WireSeen) (flow flow' : FlowView) → flow.due ≡ [] → GoesOn terms shows a b flow flow' [] → Hears terms shows a b wire wire flow flow'
  hears_on a b wire flow flow' sent on = record {
    more = on.more;
    heard = on.heard;
    on = λ xs is. record {
      came = is.came;
      taken = is.taken;
      told_came = is.told_came;
      told_taken = is.told_taken;
      is_flow = rw (append-nil is.came) at (on.flows is.came is.taken xs is.is_flow);
    };
    bounded = λ b. record { rest = omega (arith, on.shorter, b.rest); waiting = on.kept; due = few_owes terms flow'.due (rw sent at on.owes) };
    watch = refl;
  }

  -- where nothing was asked the clerk has the room that it had
  room_still : (a b : ClerkMoment (Basis B)) (more : List Exchange) → Heard shows a b more → more ≡ [] → room_of a ≡ true → room_of b ≡ true
  room_still a b more h none room =
      let talks : b.talks ≡ a.talks = h.grown ∙ ap (λ l. a.talks ++ talks_in l) none ∙ append-nil a.talks in
      let own : b.start.has_room b.talks ≡ true = rw (h.start, talks) room in
      own

  pub never_held : (a b : ClerkMoment (Basis B)) (flow flow' : FlowView) → room_of a ≡ true → GoesOn terms shows a b flow flow' [] → flow'.due ≡ [] → flow'.phase ≡ phases.Full → ⊥
  never_held a b flow flow' room on none full = elim (on.held full) [
    | inl some ↦ some none
    | inr held ↦ absurd (cc (sym held ∙ room_still a b on.more on.heard (on.said (inr full) none) room))
  ]

  pub room_waits : (a b : ClerkMoment (Basis B)) (flow flow' : FlowView) → room_of a ≡ true → GoesOn terms shows a b flow flow' [] → flow'.due ≡ [] → flow'.phase ≡ phases.Waits → room_of b ≡ true
  room_waits a b flow flow' room on none waits = room_still a b on.more on.heard (on.said (inl waits) none) room

  pub hears_still : (a : ClerkMoment (Basis B)) (wire : WireSeen) (flow : FlowView) → Hears terms shows a a wire wire flow flow
  hears_still a wire flow = hears_sent a wire wire flow flow (record { on = λ xs on. on; bounded = λ b. b; watch = refl })

  pub advances_still : (a : ClerkMoment (Basis B)) (v : VisitorSeen) → Advances terms shows a a v v
  advances_still a v = record { number = refl; hears = hears_still a v.wire v.flow }

  pub advances_join : (a b c : ClerkMoment (Basis B)) (u v w : VisitorSeen) → Advances terms shows a b u v → Advances terms shows b c v w → Advances terms shows a c u w
  advances_join a b c u v w one two = record {
    number = two.number ∙ one.number;
    hears = record {
      more = one.hears.more ++ two.hears.more;
      heard = Heard-join shows a b c one.hears.more two.hears.more one.hears.heard two.hears.heard;
      on = λ xs is. rw (sym (append_assoc xs one.hears.more two.hears.more)) (two.hears.on (xs ++ one.hears.more) (one.hears.on xs is));
      bounded = λ k. two.hears.bounded (one.hears.bounded k);
      watch = two.hears.watch ∙ one.hears.watch;
    };
  }

-- a text of which a front was taken
pub record IsTelling (wire : WireSeen) (text : List ℕ) (done : ℕ) : Type 0 where
  pub within : done ≤ length text
  pub came : IsTold wire.came []
  pub taken : IsTold wire.taken (take done text)

pub telling_none : (wire : WireSeen) (text : List ℕ) → IsTold wire.came [] → IsTold wire.taken [] → IsTelling wire text 0
telling_none wire text came taken = record { within = omega arith; came = came; taken = taken }

-- a further front of it was taken
pub telling_more : (wire wire' : WireSeen) (text : List ℕ) (done count : ℕ) → IsTelling wire text done → wire'.came ≡ wire.came → Grows wire.taken wire'.taken (take count (take (length text - done) (drop done text))) → count ≤ length (take (length text - done) (drop done text)) → IsTelling wire' text (done + count)
telling_more wire wire' text done count h same grows fits =
    let grows' : Grows wire.taken wire'.taken (take count (drop done text)) = rw (take_rest text done) at grows in
    let fits' : count ≤ length (drop done text) = rw (take_rest text done) at fits in
    record {
      within = omega (arith, h.within, fits', length-drop done text);
      came = rw same h.came;
      taken = rw (take-add done count text) (told_more wire.taken wire'.taken (take done text) (take count (drop done text)) h.taken grows');
    }

told_front : (wire : WireSeen) (text : List ℕ) (done : ℕ) → IsTelling wire text done → (drop done text ≡ []) ⊎ ((wire.marks.write_waits ≡ true) ⊎ (wire.marks.failed ≡ true)) → WasTold wire text
told_front wire text done h why = record {
  came = h.came;
  front = take done text;
  rest = drop done text;
  whole = sym (take-append-drop done text);
  taken = h.taken;
  why = why;
}

telling_still : (wire wire' : WireSeen) (text : List ℕ) (done : ℕ) → IsTelling wire text done → wire'.came ≡ wire.came → Grows wire.taken wire'.taken [] → IsTelling wire' text done
telling_still wire wire' text done h same grows = record {
  within = h.within;
  came = rw same h.came;
  taken = told_still wire.taken wire'.taken (take done text) h.taken grows;
}

-- all of it was taken, or it would have waited, or failed
pub told_all : (wire : WireSeen) (text : List ℕ) (done : ℕ) → IsTelling wire text done → length text ≤ done → WasTold wire text
told_all wire text done h le = told_front wire text done h (inl (drop_all done text le))

pub told_waits : (wire wire' : WireSeen) (text : List ℕ) (done : ℕ) → IsTelling wire text done → wire'.came ≡ wire.came → Grows wire.taken wire'.taken [] → wire'.marks.write_waits ≡ true → WasTold wire' text
told_waits wire wire' text done h same grows waits = told_front wire' text done (telling_still wire wire' text done h same grows) (inr (inl waits))

pub told_failed : (wire wire' : WireSeen) (text : List ℕ) (done : ℕ) → IsTelling wire text done → wire'.came ≡ wire.came → Grows wire.taken wire'.taken [] → wire'.marks.failed ≡ true → WasTold wire' text
told_failed wire wire' text done h same grows fault = told_front wire' text done (telling_still wire wire' text done h same grows) (inr (inr fault))
