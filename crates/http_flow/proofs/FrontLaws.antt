-- The questions of a buffer, one after the other.
use Rattle.std.proofs.Common.{◌≡◌, ◌≤◌, ◌<◌, ◌+◌, ◌-◌, ◌⊎◌, ℕ, true, false, List, [], ◌∷◌, ◌++◌, length, take, drop, inl, refl, ap, sym, ◌∙◌, arith}
use Rattle.std.proofs.Common.{append-nil, append_assoc}
use Rattle.std.proofs.lemmas.List.{drop-drop, length-drop, take_rest}
use Rattle.http_page.specs.Pages.{PageAsk}
use Rattle.http_talk.specs.Hearing.{ClerkMoment}
use Rattle.http_talk.specs.declared.talk.Talk.{Talk}
use Rattle.http_flow.specs.Exchange.{Basis, Terms, Exchange, Reads, is_closed, due_for, FewBefore, most_due, Heard, room_of}
use Rattle.http_flow.specs.Inner.Fronts.{IsNext, HasAnswered, IsFront, IsFullFor}
use Rattle.http_flow.specs.declared.answering.Answered.{Answered}
use Rattle.http_flow.specs.declared.answering.Answered.TheVariants as answered
use Rattle.http_flow.specs.declared.answering.Front.{Front}
use Rattle.http_flow.specs.declared.answering.Front.TheVariants as fronts
use Rattle.http_flow.specs.declared.page.Page.{Page}
use Rattle.http_flow.proofs.ExchangeLaws.{is_closed-append, Reads-join, due-append, few_more, Heard-nil, Heard-join}

-- no question is held
full_not : {B : Type 0} (clerk : ClerkMoment (Basis B)) (out : List ℕ) (front : Front) → ((at : ℕ) → front ≡ fronts.Full at → ⊥) → IsFullFor clerk out front
full_not clerk out front not at is = absurd (not at is)

module _ {B : Type 0} (terms : Terms) (shows : Basis B → List Talk → PageAsk → Page → Type 0) where
  -- the rest of a buffer as a slice
  pub rest_next : (a b : ClerkMoment (Basis B)) (buf out out' : List ℕ) (at : ℕ) (r : Answered) → IsNext terms shows a b (take (length buf - at) (drop at buf)) out out' r → IsNext terms shows a b (drop at buf) out out' r
  rest_next a b buf out out' at r h = rw take_rest at h

  pub answered_none : (a : ClerkMoment (Basis B)) (buf out : List ℕ) → HasAnswered terms shows a a buf 0 out out
  answered_none a buf out = record {
    xs = [];
    within = omega arith;
    reads = refl;
    goes_on = refl;
    heard = Heard-nil shows a;
    out_is = sym (append-nil out);
    few = inl (inl refl);
  }

  module _ (old mid new : ClerkMoment (Basis B)) (buf before out out' : List ℕ) (at : ℕ) (h : HasAnswered terms shows old mid buf at before out) where
    joined_due : (zs : List Exchange) → out' ≡ out ++ due_for zs → out' ≡ before ++ due_for (h.xs ++ zs)
    joined_due zs is = is ∙ ap (λ l. l ++ due_for zs) h.out_is ∙ append_assoc before (due_for h.xs) (due_for zs) ∙ ap (λ l. before ++ l) (sym (due-append h.xs zs))

    joined_reads : (zs : List Exchange) (rest : List ℕ) → Reads terms.port (drop at buf) zs rest → Reads terms.port buf (h.xs ++ zs) rest
    joined_reads zs rest k = Reads-join terms.port buf h.xs (drop at buf) zs rest h.reads h.goes_on k

    joined_heard : (zs : List Exchange) → Heard shows mid new zs → Heard shows old new (h.xs ++ zs)
    joined_heard zs k = Heard-join shows old mid new h.xs zs h.heard k

    joined_few : (zs : List Exchange) → length out < most_due → length zs ≤ 1 → FewBefore before (h.xs ++ zs)
    joined_few zs few one = few_more before h.xs zs (rw h.out_is at few) one

    still_heard : (zs : List Exchange) → zs ≡ [] → Heard shows mid new zs → Heard shows old new h.xs
    still_heard zs none k = rw (ap (λ l. h.xs ++ l) none ∙ append-nil h.xs) at (joined_heard zs k)

    -- one answer more
    pub answered_more : (len : ℕ) → length out < most_due → IsNext terms shows mid new (drop at buf) out out' (answered.On len) → HasAnswered terms shows old new buf (at + len) before out'
    answered_more len few n = record {
      xs = h.xs ++ n.xs;
      within = omega (arith, h.within, n.is_end.3, length-drop at buf);
      reads = rw (n.is_end.1, drop-drop len at buf) at (joined_reads n.xs n.rest n.reads);
      goes_on = is_closed-append h.xs n.xs h.goes_on ∙ n.is_end.0;
      heard = joined_heard n.xs n.heard;
      out_is = joined_due n.xs n.is_end.4;
      few = joined_few n.xs few n.one;
    }

    -- the last answer
    pub front_last : length out < most_due → IsNext terms shows mid new (drop at buf) out out' answered.Last → IsFront terms shows old new buf before out' fronts.Closed
    front_last few n = record {
      xs = h.xs ++ n.xs;
      rest = n.rest;
      place = omega arith;
      reads = joined_reads n.xs n.rest n.reads;
      heard = joined_heard n.xs n.heard;
      few = joined_few n.xs few n.one;
      is_end = (is_closed-append h.xs n.xs h.goes_on ∙ n.is_end.0, joined_due n.xs n.is_end.1);
      full = full_not new out' fronts.Closed (λ at e. cc e);
    }

    -- nothing whole is left
    pub front_waits : (need : ℕ) → IsNext terms shows mid new (drop at buf) out out' (answered.Waits need) → IsFront terms shows old new buf before out' (fronts.Waits at need)
    front_waits need n = record {
      xs = h.xs;
      rest = drop at buf;
      place = h.within;
      reads = h.reads;
      heard = still_heard n.xs n.is_end.0 n.heard;
      few = h.few;
      is_end = (refl, h.goes_on, n.is_end.2 ∙ h.out_is, n.is_end.3);
      full = full_not new out' (fronts.Waits at need) (λ at e. cc e);
    }

    -- a refusal
    pub front_refused : (status : ℕ) → length out < most_due → IsNext terms shows mid new (drop at buf) out out' (answered.Refused status) → IsFront terms shows old new buf before out' (fronts.Refused status)
    front_refused status few n = record {
      xs = h.xs;
      rest = drop at buf;
      place = omega arith;
      reads = h.reads;
      heard = still_heard n.xs n.is_end.0 n.heard;
      few = h.few;
      is_end = (h.goes_on, n.is_end.2 ∙ ap (λ l. l ++ terms.refusal status) h.out_is ∙ append_assoc before (due_for h.xs) (terms.refusal status), n.is_end.3, rw h.out_is at few);
      full = full_not new out' (fronts.Refused status) (λ at e. cc e);
    }

    -- memory was wanting
    pub front_memory : length out < most_due → IsNext terms shows mid new (drop at buf) out out' answered.NoMemory → IsFront terms shows old new buf before out' fronts.NoMemory
    front_memory few n = record {
      xs = h.xs ++ n.xs;
      rest = n.rest;
      place = omega arith;
      reads = joined_reads n.xs n.rest n.reads;
      heard = joined_heard n.xs n.heard;
      few = joined_few n.xs few n.one;
      is_end = (is_closed-append h.xs n.xs h.goes_on ∙ n.is_end.0, joined_due n.xs n.is_end.1);
      full = full_not new out' fronts.NoMemory (λ at e. cc e);
    }

  -- enough is due, or the clerk has no room
  pub front_full : (old new : ClerkMoment (Basis B)) (buf before out : List ℕ) (at : ℕ) → HasAnswered terms shows old new buf at before out → (most_due ≤ length out) ⊎ (room_of new ≡ false) → IsFront terms shows old new buf before out (fronts.Full at)
  front_full old new buf before out at h why = record {
    xs = h.xs;
    rest = drop at buf;
    place = h.within;
    reads = h.reads;
    heard = h.heard;
    few = h.few;
    is_end = (refl, h.goes_on, h.out_is);
    full = λ at e. why;
  }
