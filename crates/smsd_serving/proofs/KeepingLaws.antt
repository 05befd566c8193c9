-- A desk that is served epoch by epoch.
use Rattle.std.proofs.Common.{◌≡◌, ◌≤◌, ◌<◌, ◌+◌, ◌++◌, ◌∷◌, ◌∙◌, ap, refl, sym, ℕ, zero, suc, List, [], false, arith, append_assoc, append-nil, Some, None, inl, inr}
use Rattle.std.specs.Prelude.{◌⊎◌, All, Err, IfErr, IfOk, IfSome, Ok, OnErr, OnOk, Option, Result, true}
use Rattle.std.proofs.lemmas.List.Concat.{flat_map-append}
use Rattle.std.proofs.lemmas.List.Elements.{All-nil, All-push}
use Rattle.desk_common.specs.Causes.{Rose}
use Rattle.sms_base.specs.Counts.{after_calls, one_call_more}
use Rattle.ready_wires.specs.Wires.{WireSeen}
use Rattle.ready_wires.specs.Events.{ReadySeen}
use Rattle.http_talk.specs.declared.talk.Talk.{Talk}
use Rattle.http_flow.specs.Exchange.{Basis, Exchange, AreShown, talks_in}
use Rattle.http_flow.proofs.ExchangeLaws.{AreShown-append, talks-append}
use Rattle.sms_keeper.specs.declared.rows.Rows.{Rows}
use Rattle.sms_keeper.specs.declared.table.Table.{Table}
use Rattle.sms_keeper.specs.Told.{Stays}
use Rattle.sms_core.specs.Core.{CoreView, last_place}
use Rattle.sms_open.specs.Own.{AreOwn, SparesTables}
use Rattle.sms_open.specs.declared.open_err.OpenErr.{OpenErr}
use Rattle.sms_open.specs.declared.open_err.OpenErr.TheVariants as refusals
use Rattle.desk_http.specs.Entered.{ClerkView, HasEntered, entries_of}
use Rattle.page_clerk.specs.Shows.{Begun, ShowsPage, begun_with}
use Rattle.serve_poll.specs.Halls.{KeepsStanding, WasAsked}
use Rattle.serve_poll.proofs.ServingLaws.{rose_since, stands_first}
use Rattle.serve_poll.specs.declared.hall.Hall.{Hall}
use Rattle.serve_poll.specs.declared.serving.LoopEnd.{LoopEnd}
use Rattle.serve_poll.specs.declared.serving.LoopEnd.TheVariants as loops
use Rattle.smsd_serving.specs.Epochs.{AreInTurn, Epoch, HasFilled, IsEpoch, IsLeft, IsOpenedBehind, IsUnopened, WasKept, WereAsked, exchanges_in, house_at}
use Rattle.smsd_serving.specs.Inner.Serving.{EndsServing, GoesOnServing, IsRenewed, IsServing}
use Rattle.smsd_serving.specs.declared.serving_end.ServingEnd.{ServingEnd}
use Rattle.smsd_serving.specs.declared.serving_end.ServingEnd.TheVariants as ends
use Rattle.smsd_serving.proofs.StayLemmas.{stays_on, stays_self}

-- what a clerk that began alike entered
entered_by : {P : Type 0} (start mid core : CoreView P) (talks : List Talk) → begun_with mid ≡ begun_with start → HasEntered mid core talks → HasEntered start core talks
entered_by start mid core talks same h = record {
  opening = h.opening ∙ ap (λ (b : Basis Begun). b.begun.opening) same;
  mark = h.mark ∙ ap (λ (b : Basis Begun). b.begun.mark) same;
  journal = h.journal ∙ ap (λ (b : Basis Begun). b.begun.journal ++ entries_of talks) same;
  placed = h.placed;
}

-- and for what it has room
room_by : {P : Type 0} (start mid : CoreView P) (talks talks' : List Talk) → begun_with mid ≡ begun_with start → talks ≡ talks' → (begun_with mid).has_room talks ≡ (begun_with start).has_room talks'
room_by start mid talks talks' same is = ap (λ (b : Basis Begun). b.has_room talks) same ∙ ap (λ l. (begun_with start).has_room l) is

-- a refusal for want of memory, or since the keeper failed, spares tables
spares_memory : (told : Option Rows) → IfSome told (λ tables. AreOwn tables → SparesTables refusals.NoMemory)
spares_memory None = tt
spares_memory (Some rows) = λ own. tt

spares_failed : (told : Option Rows) → IfSome told (λ tables. AreOwn tables → SparesTables refusals.Failed)
spares_failed None = tt
spares_failed (Some rows) = λ own. tt

-- calls behind calls
after_calls_more : (c : Option ℕ) (a b : ℕ) → after_calls (after_calls c a) b ≡ after_calls c (a + b)
after_calls_more c a zero = let same : a + 0 ≡ a = omega arith in rw same refl
after_calls_more c a (suc b) = let same : a + suc b ≡ suc (a + b) = omega arith in rw same (ap one_call_more (after_calls_more c a b))

-- the last call for an event, behind others
pub asked_last : (turns made : ℕ) (told mid told' : ReadySeen) (count : ℕ) (end : ServingEnd) → made < turns → mid.calls ≡ after_calls told.calls made → told.faults ≤ mid.faults → (end ≡ ends.Loop loops.Turns → ⊥) → WereAsked 1 mid told' count end → WereAsked turns told told' count end
asked_last turns made told mid told' count (ends.Loop loops.Turns) few calls since other h = absurd (other refl)
asked_last turns made told mid told' count (ends.Loop loops.Ended) few calls since other h = record { made = made + h.made; within = omega (arith, few, h.within); calls = h.calls ∙ ap (λ c. after_calls c h.made) calls ∙ after_calls_more told.calls made h.made; why = h.why }
asked_last turns made told mid told' count (ends.Loop loops.Failed) few calls since other h = record { made = made + h.made; within = omega (arith, few, h.within); calls = h.calls ∙ ap (λ c. after_calls c h.made) calls ∙ after_calls_more told.calls made h.made; why = rose_since told.faults mid.faults told'.faults since h.why }
asked_last turns made told mid told' count (ends.Loop loops.Numbers) few calls since other h = record { made = made + h.made; within = omega (arith, few, h.within); calls = h.calls ∙ ap (λ c. after_calls c h.made) calls ∙ after_calls_more told.calls made h.made; why = h.why }
asked_last turns made told mid told' count (ends.Unopened err) few calls since other h = (made + h.0, omega (arith, few, h.1), h.2 ∙ ap (λ c. after_calls c h.0) calls ∙ after_calls_more told.calls made h.0)

on_ok : {T E Q : Type 0} (r : Result T E) → Q → OnOk r Q
on_ok (Ok x) q = q
on_ok (Err e) q = tt

-- one event was asked for
pub one_asked : (told told' : ReadySeen) (count : ℕ) → WasAsked 1 told told' count loops.Turns → told'.calls ≡ one_call_more told.calls
one_asked told told' count h = h.calls ∙ ap (λ n. after_calls told.calls n) h.why

pub one_asked_on : {T E : Type 0} (r : Result T E) (told told' : ReadySeen) (count : ℕ) → WasAsked 1 told told' count loops.Turns → OnOk r (told'.calls ≡ one_call_more told.calls)
one_asked_on r told told' count h = on_ok r (one_asked told told' count h)

exchanges_push : {P : Type 0} (before : List (Epoch P)) (epoch : Epoch P) → exchanges_in (before ++ epoch ∷ []) ≡ exchanges_in before ++ epoch.exchanges
exchanges_push {P} before epoch = flat_map-append (λ (e : Epoch P). e.exchanges) before (epoch ∷ []) ∙ ap (λ l. exchanges_in before ++ l) (append-nil epoch.exchanges)

module _ {P : Type 0} (told : P → Option Rows) (count : P → ℕ) where
  turn_more : (keeper : P) (place : ℕ) (before : List (Epoch P)) (left : P) (end : ℕ) (epoch : Epoch P) → AreInTurn told count keeper place before left end → IsEpoch told count left end epoch → AreInTurn told count keeper place (before ++ epoch ∷ []) epoch.core.keeper (last_place epoch.core)
  turn_more keeper place [] left end epoch h e = let e' : IsEpoch told count keeper place epoch = rw (h.0, h.1) at e in (e', (refl, refl))
  turn_more keeper place (x ∷ before) left end epoch h e = (h.0, turn_more x.core.keeper (last_place x.core) before left end epoch h.1 e)

  -- the keeper that was handed in is handed back
  pub unopened_now : (damage : P → Option (Table × ℕ)) (keeper : P) → IsUnopened told count damage keeper keeper refusals.NoMemory
  unopened_now damage keeper = record { names = tt; own = spares_memory (told keeper); kept = stays_self (told keeper); cause = λ failed. absurd (cc failed) }

  -- it couldn't be made ready
  pub unopened_unready : (damage : P → Option (Table × ℕ)) (keeper ready : P) → Stays (told keeper) (told ready) → Rose (count keeper) (count ready) → IsUnopened told count damage keeper ready refusals.Failed
  unopened_unready damage keeper ready kept rose = record { names = tt; own = spares_failed (told ready); kept = kept; cause = λ failed. rose }

  -- it was made ready before
  pub unopened_behind : (damage : P → Option (Table × ℕ)) (keeper ready last : P) (err : OpenErr) → Stays (told keeper) (told ready) → count ready ≡ count keeper → IsUnopened told count damage ready last err → IsUnopened told count damage keeper last err
  unopened_behind damage keeper ready last err kept same h = record { names = h.names; own = h.own; kept = stays_on (told keeper) (told ready) (told last) kept h.kept; cause = λ failed. rw same at (h.cause failed) }

  pub opened_behind : (keeper ready : P) (place : ℕ) (start : CoreView P) → Stays (told keeper) (told ready) → count ready ≡ count keeper → IsOpenedBehind told count ready place start → IsOpenedBehind told count keeper place start
  opened_behind keeper ready place start kept same h = record { kept = stays_on (told keeper) (told ready) (told start.keeper) kept h.kept; stands = h.stands ∙ same; opened = h.opened; new = h.new; mark = h.mark }

  epoch_of : (left : P) (place : ℕ) (start : CoreView P) (clerk : ClerkView P) (xs : List Exchange) → IsOpenedBehind told count left place start → begun_with clerk.start ≡ begun_with start → clerk.talks ≡ talks_in xs → AreShown ShowsPage (begun_with start) [] xs → IsLeft told count clerk.start clerk.core clerk.talks → IsEpoch told count left place (record { start = start; core = clerk.core; exchanges = xs })
  epoch_of left place start clerk xs opened same talks shown l = record {
    opened = opened;
    left = record {
      entered = rw talks at (entered_by start clerk.start clerk.core clerk.talks same l.entered);
      unfilled = rw talks at l.unfilled;
      legal = l.legal;
      tables = l.tables;
      counted = l.counted;
    };
    shown = shown;
  }

  -- the end of a desk that wasn't opened again
  pub asked_unopened : {T : Type 0} (damage : P → Option (Table × ℕ)) (keeper : P) (r : Result T (ServingEnd × P)) (ready ready' : ReadySeen) (seated : ℕ) (end : LoopEnd) → IfErr r (λ over. (err : OpenErr) × (over.0 ≡ ends.Unopened err) × IsUnopened told count damage keeper over.1 err) → WasAsked 1 ready ready' seated end → IfErr r (λ over. WereAsked 1 ready ready' seated over.0)
  asked_unopened damage keeper (Ok next) ready ready' seated end h asked = tt
  asked_unopened damage keeper (Err over) ready ready' seated end h asked = rw h.1 (asked.made, asked.within, asked.calls)

  pub never_turns : {T : Type 0} (damage : P → Option (Table × ℕ)) (keeper : P) (r : Result T (ServingEnd × P)) → IfErr r (λ over. (err : OpenErr) × (over.0 ≡ ends.Unopened err) × IsUnopened told count damage keeper over.1 err) → IfErr r (λ over. over.0 ≡ ends.Loop loops.Turns → ⊥)
  never_turns damage keeper (Ok next) h = tt
  never_turns damage keeper (Err over) h = λ is. absurd (cc (sym h.1 ∙ is))

  module _ {C : Type 0} (seen : C → WireSeen) (port : ℕ) where
    -- nothing was served before
    pub serving_first : (keeper : P) (clerk : ClerkView P) (ready : ReadySeen) (back : Option (List C)) (hall : Hall C) → IsOpenedBehind told count keeper 0 clerk.start → clerk.talks ≡ [] → hall.seats.slots ≡ [] → hall.count ≡ 0 → hall.most ≤ hall.seats.capacity → IsServing told count seen port keeper clerk ready ready back back hall
    serving_first keeper clerk ready back hall opened none empty nobody fits = record {
      before = [];
      left = keeper;
      place = 0;
      in_turn = (refl, refl);
      filled = All-nil (λ (e : Epoch P). HasFilled e);
      start = clerk.start;
      opened = opened;
      same = refl;
      exchanges = [];
      talks = none;
      shown = tt;
      stands = stands_first (house_at port) seen ready back hall empty nobody fits;
    }

    pub goes_on_self : (clerk : ClerkView P) (ready : ReadySeen) (back : Option (List C)) (hall : Hall C) → GoesOnServing told count seen port clerk clerk ready ready back back hall hall
    goes_on_self clerk ready back hall keeper first old h = h

    pub goes_on_join : (a b c : ClerkView P) (t u v : ReadySeen) (one two three : Option (List C)) (hall mid last : Hall C) → GoesOnServing told count seen port a b t u one two hall mid → GoesOnServing told count seen port b c u v two three mid last → GoesOnServing told count seen port a c t v one three hall last
    goes_on_join a b c t u v one two three hall mid last j k keeper first old h = k keeper first old (j keeper first old h)

    -- the clerk heard more
    pub goes_on_served : (clerk clerk' : ClerkView P) (ready ready' : ReadySeen) (back back' : Option (List C)) (hall hall' : Hall C) → KeepsStanding (house_at port) seen ShowsPage (record { talks = clerk.talks; start = begun_with clerk.start }) (record { talks = clerk'.talks; start = begun_with clerk'.start }) ready ready' back back' hall hall' → GoesOnServing told count seen port clerk clerk' ready ready' back back' hall hall'
    goes_on_served clerk clerk' ready ready' back back' hall hall' k keeper first old h = record {
      before = h.before;
      left = h.left;
      place = h.place;
      in_turn = h.in_turn;
      filled = h.filled;
      start = h.start;
      opened = h.opened;
      same = k.heard.start ∙ h.same;
      exchanges = h.exchanges ++ k.more;
      talks = k.heard.grown ∙ ap (λ l. l ++ talks_in k.more) h.talks ∙ sym (talks-append h.exchanges k.more);
      shown = AreShown-append ShowsPage (begun_with h.start) [] h.exchanges k.more h.shown (rw (h.same, h.talks) at k.heard.pages);
      stands = rw (sym (append_assoc (exchanges_in h.before) h.exchanges k.more)) (k.stands (exchanges_in h.before ++ h.exchanges) first old h.stands);
    }

    -- another clerk goes on from the tables that its core left
    pub goes_on_renewed : (clerk next : ClerkView P) (ready : ReadySeen) (back : Option (List C)) (hall : Hall C) → IsRenewed told count clerk next → GoesOnServing told count seen port clerk next ready ready back back hall hall
    goes_on_renewed clerk next ready back hall r keeper first old h = let e : Epoch P = record { start = h.start; core = clerk.core; exchanges = h.exchanges } in record {
      before = h.before ++ e ∷ [];
      left = clerk.core.keeper;
      place = last_place clerk.core;
      in_turn = turn_more keeper 0 h.before h.left h.place e h.in_turn (epoch_of h.left h.place h.start clerk h.exchanges h.opened h.same h.talks h.shown r.left);
      filled = All-push (λ (e : Epoch P). HasFilled e) h.before e h.filled (sym (room_by h.start clerk.start clerk.talks (talks_in h.exchanges) h.same h.talks) ∙ r.filled);
      start = next.start;
      opened = r.opened;
      same = refl;
      exchanges = [];
      talks = r.none;
      shown = tt;
      stands = rw (append-nil (exchanges_in (h.before ++ e ∷ [])) ∙ exchanges_push h.before e) h.stands;
    }

    -- no further event is awaited
    pub ends_loop : (damage : P → Option (Table × ℕ)) (clerk clerk' : ClerkView P) (last : P) (ready ready' : ReadySeen) (back back' : Option (List C)) (hall hall' : Hall C) (end : LoopEnd) → GoesOnServing told count seen port clerk clerk' ready ready' back back' hall hall' → IsLeft told count clerk'.start clerk'.core clerk'.talks → last ≡ clerk'.core.keeper → (end ≡ loops.Turns → (begun_with clerk'.start).has_room clerk'.talks ≡ false → ⊥) → EndsServing told count seen port damage clerk last ready ready' back back' hall hall' (ends.Loop end)
    ends_loop damage clerk clerk' last ready ready' back back' hall hall' end goes left is room keeper first old h = let s = goes keeper first old h in record {
      before = s.before;
      left = s.left;
      place = s.place;
      epoch = record { start = s.start; core = clerk'.core; exchanges = s.exchanges };
      in_turn = s.in_turn;
      filled = s.filled;
      is_epoch = epoch_of s.left s.place s.start clerk' s.exchanges s.opened s.same s.talks s.shown left;
      ending = (is, λ turns filled. room turns (room_by s.start clerk'.start clerk'.talks (talks_in s.exchanges) s.same s.talks ∙ filled));
      stands = s.stands;
    }

    -- no desk goes on from the tables that were left
    pub ends_unopened : (damage : P → Option (Table × ℕ)) (clerk clerk' : ClerkView P) (last : P) (ready ready' : ReadySeen) (back back' : Option (List C)) (hall hall' : Hall C) (err : OpenErr) → GoesOnServing told count seen port clerk clerk' ready ready' back back' hall hall' → (begun_with clerk'.start).has_room clerk'.talks ≡ false → IsLeft told count clerk'.start clerk'.core clerk'.talks → IsUnopened told count damage clerk'.core.keeper last err → EndsServing told count seen port damage clerk last ready ready' back back' hall hall' (ends.Unopened err)
    ends_unopened damage clerk clerk' last ready ready' back back' hall hall' err goes filled left unopened keeper first old h = let s = goes keeper first old h in record {
      before = s.before;
      left = s.left;
      place = s.place;
      epoch = record { start = s.start; core = clerk'.core; exchanges = s.exchanges };
      in_turn = s.in_turn;
      filled = s.filled;
      is_epoch = epoch_of s.left s.place s.start clerk' s.exchanges s.opened s.same s.talks s.shown left;
      ending = (sym (room_by s.start clerk'.start clerk'.talks (talks_in s.exchanges) s.same s.talks) ∙ filled, unopened);
      stands = s.stands;
    }

    -- behind an event the same clerk goes on, or another one
    pub went_on : (clerk clerk' next : ClerkView P) (ready ready' : ReadySeen) (back back' : Option (List C)) (hall hall' : Hall C) → GoesOnServing told count seen port clerk clerk' ready ready' back back' hall hall' → (next ≡ clerk') ⊎ IsRenewed told count clerk' next → GoesOnServing told count seen port clerk next ready ready' back back' hall hall'
    went_on clerk clerk' next ready ready' back back' hall hall' goes (inl same) = rw same goes
    went_on clerk clerk' next ready ready' back back' hall hall' goes (inr r) = goes_on_join clerk clerk' next ready ready' ready' back back' back' hall hall' hall' goes (goes_on_renewed clerk' next ready' back' hall' r)

    -- or none
    pub went_off : (damage : P → Option (Table × ℕ)) (r : Result (ClerkView P) (ServingEnd × P)) (clerk clerk' : ClerkView P) (ready ready' : ReadySeen) (back back' : Option (List C)) (hall hall' : Hall C) → GoesOnServing told count seen port clerk clerk' ready ready' back back' hall hall' → IfErr r (λ over. (err : OpenErr) × (over.0 ≡ ends.Unopened err) × IsUnopened told count damage clerk'.core.keeper over.1 err) → OnErr r ((begun_with clerk'.start).has_room clerk'.talks ≡ false) → OnErr r (IsLeft told count clerk'.start clerk'.core clerk'.talks) → IfErr r (λ over. EndsServing told count seen port damage clerk over.1 ready ready' back back' hall hall' over.0)
    went_off damage (Ok next) clerk clerk' ready ready' back back' hall hall' goes h filled left = tt
    went_off damage (Err over) clerk clerk' ready ready' back back' hall hall' goes h filled left = rw h.1 (ends_unopened damage clerk clerk' over.1 ready ready' back back' hall hall' h.0 goes filled left h.2)
