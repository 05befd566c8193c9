-- Pieces of a conversation, one after the other.
use Rattle.std.proofs.Common.{◌≡◌, ◌≢◌, ◌⊎◌, ◌≤◌, ◌<◌, ◌+◌, ℕ, true, false, List, [], ◌∷◌, ◌++◌, length, take, drop, refl, ap, sym, ◌∙◌, arith}
use Rattle.std.proofs.Common.{append-nil, append_assoc, take-append-drop, length-append, inl, inr}
use lib.Seq.{drop-append-le}
use Rattle.std.proofs.lemmas.List.{length-drop}
use Rattle.http_page.specs.Pages.{PageAsk}
use Rattle.http_talk.specs.Hearing.{ClerkMoment}
use Rattle.http_talk.specs.declared.talk.Talk.{Talk}
use Rattle.http_flow.specs.Exchange.{Basis, Terms, Exchange, unheard, Reads, is_closed, due_for, FewBefore, PendsFor, Heard, most_due, room_of}
use Rattle.http_flow.specs.Flow.{FlowView, StandsSo, IsFlow, IsKept, IsHeld, IsSaid, IsRefusedEarly, IsOneText, OwesFew, GoesOn, HasTurned, most_message}
use Rattle.http_flow.specs.Inner.Fronts.{IsFront}
use Rattle.http_flow.specs.declared.answering.Front.{Front}
use Rattle.http_flow.specs.declared.answering.Front.TheVariants as fronts
use Rattle.http_flow.specs.declared.page.Page.{Page}
use Rattle.http_flow.specs.declared.phase.Phase.{Phase}
use Rattle.http_flow.specs.declared.phase.Phase.TheVariants as phases
use Rattle.http_flow.proofs.BoundLaws.{pends_short}
use Rattle.http_flow.proofs.ExchangeLaws.{is_closed-append, Reads-join, Reads-append, Reads-one, due-append, due-one, due_none, nothing_behind, Heard-nil, Heard-unheard}

-- what was sent joins what was handed over
pub flow_sent : (terms : Terms) (came taken : List ℕ) (xs : List Exchange) (v : FlowView) (n : ℕ) → IsFlow terms came taken xs v → IsFlow terms came (taken ++ take n v.due) xs (record v { due = drop n v.due })
flow_sent terms came taken xs v n h = record {
  rest = h.rest;
  reads = h.reads;
  stands = rw (append_assoc taken (take n v.due) (drop n v.due) ∙ ap (λ l. taken ++ l) (take-append-drop n v.due)) h.stands;
}

-- it may go on
pub record IsOpen (terms : Terms) (came taken : List ℕ) (xs : List Exchange) (v : FlowView) : Type 0 where
  pub reads : Reads terms.port came xs v.rest
  pub goes_on : is_closed xs ≡ false
  pub all : taken ++ v.due ≡ due_for xs

open_in : (terms : Terms) (came taken : List ℕ) (xs : List Exchange) (v : FlowView) (rest : List ℕ) → Reads terms.port came xs rest → v.rest ≡ rest → is_closed xs ≡ false → taken ++ v.due ≡ due_for xs → IsOpen terms came taken xs v
open_in terms came taken xs v rest reads is goes_on all = record { reads = rw is reads; goes_on = goes_on; all = all }

pub open_waits : (terms : Terms) (came taken : List ℕ) (xs : List Exchange) (v : FlowView) → v.phase ≡ phases.Waits → IsFlow terms came taken xs v → IsOpen terms came taken xs v
open_waits terms came taken xs v e h = let s : StandsSo terms [] xs h.rest (taken ++ v.due) v.rest v.need phases.Waits = rw e at h.stands in open_in terms came taken xs v h.rest h.reads s.2 s.0 s.1

pub open_full : (terms : Terms) (came taken : List ℕ) (xs : List Exchange) (v : FlowView) → v.phase ≡ phases.Full → IsFlow terms came taken xs v → IsOpen terms came taken xs v
open_full terms came taken xs v e h = let s : StandsSo terms [] xs h.rest (taken ++ v.due) v.rest v.need phases.Full = rw e at h.stands in open_in terms came taken xs v h.rest h.reads s.2 s.0 s.1

-- what is due behind what was due before
all_more : (taken due : List ℕ) (xs : List Exchange) (some new : List ℕ) → taken ++ due ≡ due_for xs → new ≡ due ++ some → taken ++ new ≡ due_for xs ++ some
all_more taken due xs some new all is = ap (λ l. taken ++ l) is ∙ sym (append_assoc taken due some) ∙ ap (λ l. l ++ some) all

stands_more : (terms : Terms) (taken due : List ℕ) (xs more : List Exchange) (rest new held : List ℕ) (need : ℕ) (p : Phase) → taken ++ due ≡ due_for xs → is_closed xs ≡ false → StandsSo terms due more rest new held need p → StandsSo terms [] (xs ++ more) rest (taken ++ new) held need p
stands_more terms taken due xs more rest new held need phases.Waits all goes_on s =
    (is_closed-append xs more goes_on ∙ s.0, all_more taken due xs (due_for more) new all s.1 ∙ sym (due-append xs more), s.2, s.3)
stands_more terms taken due xs more rest new held need phases.Full all goes_on s =
    (is_closed-append xs more goes_on ∙ s.0, all_more taken due xs (due_for more) new all s.1 ∙ sym (due-append xs more), s.2)
stands_more terms taken due xs more rest new held need phases.Closed all goes_on s =
    (is_closed-append xs more goes_on ∙ s.0, all_more taken due xs (due_for more) new all s.1 ∙ sym (due-append xs more))
stands_more terms taken due xs more rest new held need (phases.Refused status) all goes_on s = (
  is_closed-append xs more goes_on ∙ s.0,
  all_more taken due xs (due_for more ++ terms.refusal status) new all s.1 ∙ sym (append_assoc (due_for xs) (due_for more) (terms.refusal status)) ∙ ap (λ l. l ++ terms.refusal status) (sym (due-append xs more)),
  s.2,
)
stands_more terms taken due xs more rest new held need phases.NoMemory all goes_on s =
    (is_closed-append xs more goes_on ∙ s.0, all_more taken due xs (due_for more) new all s.1 ∙ sym (due-append xs more))

waits_more : (port : ℕ) (rest piece : List ℕ) (need : ℕ) → PendsFor port rest need → length (rest ++ piece) < need → PendsFor port (rest ++ piece) need
waits_more port rest piece need w short = record {
  now = w.later piece short;
  later = λ more l. rw (append_assoc rest piece more) (w.later (piece ++ more) (rw (append_assoc rest piece more) at l));
}

-- what is still to be sent of a buffer to which more came
due_after : (sent : ℕ) (before out some : List ℕ) → sent ≤ length before → out ≡ before ++ some → drop sent out ≡ drop sent before ++ some
due_after sent before out some le is = ap (drop sent) is ∙ drop-append-le sent before some le

few_sent : (sent : ℕ) (before some : List ℕ) → length (before ++ some) < most_due → length (drop sent before ++ some) < most_due
few_sent sent before some h = omega (arith, h, length-append before some, length-append (drop sent before) some, length-drop sent before)

few_after : (xs : List Exchange) (sent : ℕ) (before : List ℕ) → FewBefore before xs → FewBefore (drop sent before) xs
few_after xs sent before (inl none) = inl none
few_after xs sent before (inr h) = inr (h.0, h.1, h.2, h.3, few_sent sent before (due_for h.0) h.4)

-- bytes that are due behind few exchanges
one_text : (terms : Terms) (zs : List Exchange) → length zs ≤ 1 → IsOneText terms (due_for zs)
one_text terms [] one = inl refl
one_text terms (z ∷ []) one = inr (inl (z, due-one z))
one_text terms (z ∷ (w ∷ ws)) one = absurd (omega (arith, one))

owes_due : (terms : Terms) (before : List ℕ) (xs : List Exchange) (all missing : List ℕ) → all ++ missing ≡ before ++ due_for xs → FewBefore before xs → OwesFew terms before all
owes_due terms before xs all missing is (inl (inl none)) = (missing, inl (is ∙ ap (λ l. before ++ due_for l) none ∙ append-nil before))
owes_due terms before xs all missing is (inl (inr wanting)) = (missing, inl (is ∙ ap (λ l. before ++ due_for l) wanting ∙ append-nil before))
owes_due terms before xs all missing is (inr few) = (missing, inr (before ++ due_for few.0, due_for few.1, is ∙ ap (λ l. before ++ l) (ap due_for few.2 ∙ due-append few.0 few.1) ∙ sym (append_assoc before (due_for few.0) (due_for few.1)), few.4, one_text terms few.1 few.3))

owes_all : (terms : Terms) (before : List ℕ) (xs : List Exchange) (all : List ℕ) → all ≡ before ++ due_for xs → FewBefore before xs → OwesFew terms before all
owes_all terms before xs all is few = owes_due terms before xs all [] (append-nil all ∙ is) few

owes_so : (terms : Terms) (before : List ℕ) (xs : List Exchange) (rest all held : List ℕ) (need : ℕ) (p : Phase) → FewBefore before xs → ((status : ℕ) → p ≡ phases.Refused status → length (before ++ due_for xs) < most_due) → StandsSo terms before xs rest all held need p → OwesFew terms before all
owes_so terms before xs rest all held need phases.Waits few early s = owes_all terms before xs all s.1 few
owes_so terms before xs rest all held need phases.Full few early s = owes_all terms before xs all s.1 few
owes_so terms before xs rest all held need phases.Closed few early s = owes_all terms before xs all s.1 few
owes_so terms before xs rest all held need (phases.Refused status) few early s =
    ([], inr (before ++ due_for xs, terms.refusal status, append-nil all ∙ s.1 ∙ sym (append_assoc before (due_for xs) (terms.refusal status)), early status refl, inr (inr (status, refl))))
owes_so terms before xs rest all held need phases.NoMemory few early s = owes_all terms before xs all s.1 few

kept_not : (v : FlowView) (p : Phase) → v.phase ≡ p → (p ≡ phases.Waits → ⊥) → IsKept v
kept_not v p is not waits = absurd (not (sym is ∙ waits))

early_not : (before : List ℕ) (xs : List Exchange) (v : FlowView) (p : Phase) → v.phase ≡ p → ((status : ℕ) → p ≡ phases.Refused status → ⊥) → IsRefusedEarly before xs v
early_not before xs v p is not status refused = absurd (not status (sym is ∙ refused))

held_not : {B : Type 0} (clerk : ClerkMoment (Basis B)) (v : FlowView) (p : Phase) → v.phase ≡ p → (p ≡ phases.Full → ⊥) → IsHeld clerk v
held_not clerk v p is not full = absurd (not (sym is ∙ full))

said_not : (xs : List Exchange) (v : FlowView) (p : Phase) → v.phase ≡ p → (p ≡ phases.Waits → ⊥) → (p ≡ phases.Full → ⊥) → IsSaid xs v
said_not xs v p is waits_not full_not (inl waits) none = absurd (waits_not (sym is ∙ waits))
said_not xs v p is waits_not full_not (inr full) none = absurd (full_not (sym is ∙ full))

-- what is due behind what was due before is all that is due for them
said_so : (sent : ℕ) (before out : List ℕ) (xs : List Exchange) → sent ≤ length before → is_closed xs ≡ false → out ≡ before ++ due_for xs → drop sent out ≡ [] → xs ≡ []
said_so sent before out xs le goes_on is none = due_none xs goes_on (nothing_behind (drop sent before) (due_for xs) (sym (due_after sent before out (due_for xs) le is) ∙ none)).1

module _ {B : Type 0} (terms : Terms) (shows : Basis B → List Talk → PageAsk → Page → Type 0) where
  flows_on : (a b : ClerkMoment (Basis B)) (old mid new : FlowView) (piece came taken : List ℕ) (xs : List Exchange) → mid.rest ≡ old.rest ++ piece → mid.due ≡ old.due → (h : HasTurned terms shows a b mid new) → IsOpen terms came taken xs old → IsFlow terms (came ++ piece) taken (xs ++ h.more) new
  flows_on a b old mid new piece came taken xs rest due h o = record {
    rest = h.rest;
    reads = Reads-join terms.port (came ++ piece) xs (old.rest ++ piece) h.more h.rest (Reads-append terms.port came xs old.rest piece o.reads) o.goes_on (rw rest at h.reads);
    stands = stands_more terms taken old.due xs h.more h.rest new.due new.rest new.need new.phase o.all o.goes_on (rw due at h.stands);
  }

  -- what a piece asked was answered
  pub goes_on_turned : (a b : ClerkMoment (Basis B)) (old mid new : FlowView) (piece : List ℕ) → mid.rest ≡ old.rest ++ piece → mid.due ≡ old.due → ((came taken : List ℕ) (xs : List Exchange) → IsFlow terms came taken xs old → IsOpen terms came taken xs old) → HasTurned terms shows a b mid new → GoesOn terms shows a b old new piece
  goes_on_turned a b old mid new piece rest due opens h = record {
    more = h.more;
    heard = h.heard;
    few = rw due at h.few;
    owes = rw due at (owes_so terms mid.due h.more h.rest new.due new.rest new.need new.phase h.few h.early h.stands);
    held = h.held;
    said = h.said;
    kept = h.kept;
    shorter = omega (arith, h.shorter, ap length rest, length-append old.rest piece);
    flows = λ came taken xs f. flows_on a b old mid new piece came taken xs rest due h (opens came taken xs f);
  }

  -- nothing was heard
  still : (a : ClerkMoment (Basis B)) (old new : FlowView) (piece : List ℕ) → ((came taken : List ℕ) (xs : List Exchange) → IsFlow terms came taken xs old → IsFlow terms (came ++ piece) taken (xs ++ []) new) → IsHeld a new → IsKept new → new.due ≡ old.due → length new.rest ≤ length old.rest + length piece → GoesOn terms shows a a old new piece
  still a old new piece h held kept same shorter = record { more = []; heard = Heard-nil shows a; few = inl (inl refl); owes = ([], inl (append-nil new.due ∙ same)); held = held; said = λ goes none. refl; kept = kept; shorter = shorter; flows = h }

  -- too few bytes came for more to be said
  short_flow : (old new : FlowView) (piece came taken : List ℕ) (xs : List Exchange) → old.phase ≡ phases.Waits → new ≡ record old { rest = old.rest ++ piece } → length (old.rest ++ piece) < old.need → IsFlow terms came taken xs old → IsFlow terms (came ++ piece) taken xs new
  short_flow old new piece came taken xs phase is short h =
      let s : StandsSo terms [] xs h.rest (taken ++ old.due) old.rest old.need phases.Waits = rw phase at h.stands in
      let w : PendsFor terms.port old.rest old.need = rw (sym s.2) at s.3 in
      let there : StandsSo terms [] xs (h.rest ++ piece) (taken ++ old.due) (old.rest ++ piece) old.need phases.Waits =
      (s.0, s.1, ap (λ l. l ++ piece) s.2, rw (ap (λ l. l ++ piece) s.2) at (waits_more terms.port old.rest piece old.need w short)) in
      let flow : IsFlow terms (came ++ piece) taken xs (record old { rest = old.rest ++ piece }) =
      record { rest = h.rest ++ piece; reads = Reads-append terms.port came xs h.rest piece h.reads; stands = rw phase there } in
      rw is flow

  pub goes_on_short : (a : ClerkMoment (Basis B)) (old new : FlowView) (piece : List ℕ) → old.phase ≡ phases.Waits → new ≡ record old { rest = old.rest ++ piece } → length (old.rest ++ piece) < old.need → old.need ≤ most_message → GoesOn terms shows a a old new piece
  goes_on_short a old new piece phase is short few =
      let rest : new.rest ≡ old.rest ++ piece = ap (λ (v : FlowView). v.rest) is in
      still a old new piece (λ came taken xs h. rw (append-nil xs) (short_flow old new piece came taken xs phase is short h))
      (held_not a new phases.Waits (ap (λ (v : FlowView). v.phase) is ∙ phase) (λ e. cc e)) (λ waits. omega (arith, ap length rest, short, few)) (ap (λ (v : FlowView). v.due) is) (omega (arith, ap length rest, length-append old.rest piece))

  -- memory for the piece was wanting
  wanting_flow : (old new : FlowView) (piece came taken : List ℕ) (xs : List Exchange) → new.due ≡ old.due → new.phase ≡ phases.NoMemory → IsOpen terms came taken xs old → IsFlow terms (came ++ piece) taken (xs ++ unheard ∷ []) new
  wanting_flow old new piece came taken xs due phase o =
      let rest = old.rest ++ piece in
      let all : taken ++ new.due ≡ due_for (xs ++ unheard ∷ []) = ap (λ l. taken ++ l) due ∙ o.all ∙ sym (due-append xs (unheard ∷ []) ∙ append-nil (due_for xs)) in
      let there : StandsSo terms [] (xs ++ unheard ∷ []) rest (taken ++ new.due) new.rest new.need phases.NoMemory = (is_closed-append xs (unheard ∷ []) o.goes_on, all) in
      record {
        rest = rest;
        reads = Reads-join terms.port (came ++ piece) xs rest (unheard ∷ []) rest (Reads-append terms.port came xs old.rest piece o.reads) o.goes_on (Reads-one terms.port rest rest unheard refl);
        stands = rw phase there;
      }

  pub goes_on_wanting : (a : ClerkMoment (Basis B)) (old new : FlowView) (piece : List ℕ) → room_of a ≡ true → old.phase ≡ phases.Waits → new.due ≡ old.due → new.phase ≡ phases.NoMemory → length new.rest ≤ length old.rest + length piece → GoesOn terms shows a a old new piece
  goes_on_wanting a old new piece room before due phase shorter = record {
    more = unheard ∷ [];
    heard = Heard-unheard shows a a room refl refl;
    few = inl (inr refl);
    owes = ([], inl (append-nil new.due ∙ due));
    held = held_not a new phases.NoMemory phase (λ e. cc e);
    said = said_not (unheard ∷ []) new phases.NoMemory phase (λ e. cc e) (λ e. cc e);
    kept = kept_not new phases.NoMemory phase (λ e. cc e);
    shorter = shorter;
    flows = λ came taken xs h. wanting_flow old new piece came taken xs due phase (open_waits terms came taken xs old before h);
  }

  module _ (a b : ClerkMoment (Basis B)) (old : FlowView) (buf before out : List ℕ) (sent : ℕ) (le : sent ≤ length before) (held : old.rest ≡ buf) (due : old.due ≡ drop sent before) where
    turned_so : (new : FlowView) (f : Front) (h : IsFront terms shows a b buf before out f) → IsRefusedEarly (drop sent before) h.xs new → IsHeld b new → IsSaid h.xs new → IsKept new → length new.rest ≤ length buf → StandsSo terms (drop sent before) h.xs h.rest new.due new.rest new.need new.phase → HasTurned terms shows a b old new
    turned_so new f h early held_on said kept shorter stands = record {
      more = h.xs;
      rest = h.rest;
      reads = rw held h.reads;
      heard = h.heard;
      few = rw due (few_after h.xs sent before h.few);
      early = rw due early;
      held = held_on;
      said = said;
      kept = kept;
      shorter = rw held shorter;
      stands = rw due stands;
    }

    pub turned_waits : (new : FlowView) (at need : ℕ) → IsFront terms shows a b buf before out (fronts.Waits at need) → new ≡ record { rest = drop at buf; need = need; due = drop sent out; phase = phases.Waits } → HasTurned terms shows a b old new
    turned_waits new at need h is =
        let v : FlowView = record { rest = drop at buf; need = need; due = drop sent out; phase = phases.Waits } in
        let pends : PendsFor terms.port (drop at buf) need = rw h.is_end.0 at h.is_end.3 in
        rw is (turned_so v (fronts.Waits at need) h (early_not (drop sent before) h.xs v phases.Waits refl (λ status e. cc e)) (held_not b v phases.Waits refl (λ e. cc e)) (λ goes none. said_so sent before out h.xs le h.is_end.1 h.is_end.2 none) (λ waits. pends_short terms.port (drop at buf) pends.now) (omega (arith, length-drop at buf))
        (h.is_end.1, due_after sent before out (due_for h.xs) le h.is_end.2, sym h.is_end.0, h.is_end.3))

    some_left : (xs : List Exchange) → (sent ≡ 0) ⊎ (sent < length before) → out ≡ before ++ due_for xs → most_due ≤ length out → drop sent out ≢ []
    some_left xs (inl none) is full left = omega (arith, none, full, ap length left, length-drop sent out)
    some_left xs (inr part) is full left = omega (arith, part, ap length is, length-append before (due_for xs), ap length left, length-drop sent out)

    held_why : (xs : List Exchange) → (sent ≡ 0) ⊎ (sent < length before) → out ≡ before ++ due_for xs → (most_due ≤ length out) ⊎ (room_of b ≡ false) → (drop sent out ≢ []) ⊎ (room_of b ≡ false)
    held_why xs part is (inl full) = inl (some_left xs part is full)
    held_why xs part is (inr none) = inr none

    pub turned_full : (new : FlowView) (at need : ℕ) → (sent ≡ 0) ⊎ (sent < length before) → IsFront terms shows a b buf before out (fronts.Full at) → new ≡ record { rest = drop at buf; need = need; due = drop sent out; phase = phases.Full } → HasTurned terms shows a b old new
    turned_full new at need part h is =
        let v : FlowView = record { rest = drop at buf; need = need; due = drop sent out; phase = phases.Full } in
        rw is (turned_so v (fronts.Full at) h (early_not (drop sent before) h.xs v phases.Full refl (λ status e. cc e)) (λ e. held_why h.xs part h.is_end.2 (h.full at refl)) (λ goes none. said_so sent before out h.xs le h.is_end.1 h.is_end.2 none) (kept_not v phases.Full refl (λ e. cc e)) (omega (arith, length-drop at buf))
        (h.is_end.1, due_after sent before out (due_for h.xs) le h.is_end.2, sym h.is_end.0))

    pub turned_closed : (new : FlowView) (need : ℕ) → IsFront terms shows a b buf before out fronts.Closed → new ≡ record { rest = buf; need = need; due = drop sent out; phase = phases.Closed } → HasTurned terms shows a b old new
    turned_closed new need h is =
        let v : FlowView = record { rest = buf; need = need; due = drop sent out; phase = phases.Closed } in
        rw is (turned_so v fronts.Closed h (early_not (drop sent before) h.xs v phases.Closed refl (λ status e. cc e)) (held_not b v phases.Closed refl (λ e. cc e)) (said_not h.xs v phases.Closed refl (λ e. cc e) (λ e. cc e)) (kept_not v phases.Closed refl (λ e. cc e)) (omega arith)
        (h.is_end.0, due_after sent before out (due_for h.xs) le h.is_end.1))

    pub turned_refused : (new : FlowView) (need status : ℕ) → IsFront terms shows a b buf before out (fronts.Refused status) → new ≡ record { rest = buf; need = need; due = drop sent out; phase = phases.Refused status } → HasTurned terms shows a b old new
    turned_refused new need status h is =
        let v : FlowView = record { rest = buf; need = need; due = drop sent out; phase = phases.Refused status } in
        rw is (turned_so v (fronts.Refused status) h (λ told e. few_sent sent before (due_for h.xs) h.is_end.3) (held_not b v (phases.Refused status) refl (λ e. cc e)) (said_not h.xs v (phases.Refused status) refl (λ e. cc e) (λ e. cc e)) (kept_not v (phases.Refused status) refl (λ e. cc e)) (omega arith)
        (h.is_end.0, due_after sent before out (due_for h.xs ++ terms.refusal status) le h.is_end.1, h.is_end.2))

    pub turned_memory : (new : FlowView) (need : ℕ) → IsFront terms shows a b buf before out fronts.NoMemory → new ≡ record { rest = buf; need = need; due = drop sent out; phase = phases.NoMemory } → HasTurned terms shows a b old new
    turned_memory new need h is =
        let v : FlowView = record { rest = buf; need = need; due = drop sent out; phase = phases.NoMemory } in
        rw is (turned_so v fronts.NoMemory h (early_not (drop sent before) h.xs v phases.NoMemory refl (λ status e. cc e)) (held_not b v phases.NoMemory refl (λ e. cc e)) (said_not h.xs v phases.NoMemory refl (λ e. cc e) (λ e. cc e)) (kept_not v phases.NoMemory refl (λ e. cc e)) (omega arith)
        (h.is_end.0, due_after sent before out (due_for h.xs) le h.is_end.1))

  -- the buffer never falls behind what was sent
  pub within_out : (a b : ClerkMoment (Basis B)) (buf before out : List ℕ) (sent : ℕ) (f : Front) → sent ≤ length before → IsFront terms shows a b buf before out f → sent ≤ length out
  within_out a b buf before out sent (fronts.Waits at need) le h = omega (arith, le, ap length h.is_end.2, length-append before (due_for h.xs))
  within_out a b buf before out sent (fronts.Full at) le h = omega (arith, le, ap length h.is_end.2, length-append before (due_for h.xs))
  within_out a b buf before out sent fronts.Closed le h = omega (arith, le, ap length h.is_end.1, length-append before (due_for h.xs))
  within_out a b buf before out sent (fronts.Refused status) le h = omega (arith, le, ap length h.is_end.1, length-append before (due_for h.xs ++ terms.refusal status))
  within_out a b buf before out sent fronts.NoMemory le h = omega (arith, le, ap length h.is_end.1, length-append before (due_for h.xs))
