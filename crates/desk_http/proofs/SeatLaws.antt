-- One more request of a seat, and the requests of several clerks.
use Rattle.std.proofs.Common.{◌≡◌, ℕ, List, [], ◌∷◌, ◌++◌, refl, ap, sym, ◌∙◌, append_assoc, append-nil}
use Rattle.std.specs.Prelude.{All}
use Rattle.std.proofs.lemmas.List.Elements.{All-append, All-nil, All-push}
use Rattle.sms_construct.specs.declared.entry.Entry.{Entry}
use Rattle.sms_keeper.specs.declared.keeper.Keeper.{Ghosts}
use Rattle.turn_lock.specs.declared.signed.Signed.{Signed}
use Rattle.turn_lock.specs.Views.{StartsWith}
use Rattle.desk_signing.specs.declared.event.Event.{Event}
use Rattle.desk_signing.specs.declared.event.Event.TheVariants.{Made}
use Rattle.desk_signing.specs.Signing.{by_seat, entries_in, events}
use Rattle.desk_signing.proofs.SignLemmas.{by_seat_entries, entries_append, entries-starts}
use Rattle.sms_desk.specs.declared.job_seat.JobSeat.{JobSeat}
use Rattle.atomic_table.specs.Seated.{TableId}
use Rattle.sms_desk.specs.Seats.{Submits, Submitted, job_number, job_seen}
use Rattle.sms_core.specs.Core.{entry_of}
use Rattle.http_talk.specs.declared.talk.Talk.{Talk}
use Rattle.desk_http.specs.Entered.{IsPlaced, entries_of}
use Rattle.desk_http.specs.SeatTalks.{HasSubmitted, SeatView, view_of}
use Rattle.desk_http.proofs.EnteredLaws.{IsPlaced-longer, entries_of-append, entries_of-push}

events-append : (xs ys : List Entry) → events (xs ++ ys) ≡ events xs ++ events ys
events-append [] ys = refl
events-append (x ∷ xs) ys = ap (λ (es : List Event). Made x ∷ es) (events-append xs ys)

-- what goes on from a list goes on from where that began
pub starts-on : (list seen first : List (Signed Event)) → StartsWith list seen → StartsWith seen first → StartsWith list first
starts-on list seen first now before = (before.0 ++ now.0, now.1 ∙ ap (λ xs. xs ++ now.0) before.1 ∙ append_assoc first before.0 now.0)

-- talks keep their places as more is seen
pub are_placed-starts : (list seen : List (Signed Event)) (talks : List Talk) → StartsWith list seen
    → All (λ (talk : Talk). IsPlaced (entries_in seen) talk) talks → All (λ (talk : Talk). IsPlaced (entries_in list) talk) talks
are_placed-starts list seen talks starts h = rw (entries-starts list seen starts) (λ k d less.
    IsPlaced-longer (entries_in seen) (entries_in starts.0) _ (h k d less))

-- the list went on
submits-starts : (old new : List (Signed Event)) (number : ℕ) (talk : Talk) → Submits old new number talk.request talk.answer → StartsWith new old
submits-starts old new number talk did =
    let more = by_seat number (entry_of talk.request talk.answer) in
    (did.between ++ more, did.adds.list_is ∙ append_assoc old did.between more)

-- a talk has its place behind what was seen in its turn
submits-placed : (old new : List (Signed Event)) (number : ℕ) (talk : Talk) → Submits old new number talk.request talk.answer → IsPlaced (entries_in new) talk
submits-placed old new number talk did =
    let made = entry_of talk.request talk.answer in
    record {
      front = entries_in (old ++ did.between);
      rest = [];
      whole = ap entries_in did.adds.list_is ∙ entries_append (old ++ did.between) (by_seat number made)
          ∙ ap (λ l. entries_in (old ++ did.between) ++ l) (by_seat_entries number made ∙ sym (append-nil made));
      no_place = did.adds.no_place;
      full = did.adds.full;
      told = did.adds.told;
    }

pub HasSubmitted-nil : (one : SeatView) → HasSubmitted one one []
HasSubmitted-nil one = record {
  lock = refl;
  number = refl;
  seen_more = ([], sym (append-nil one.seen));
  mine = sym (append-nil one.mine);
  placed = All-nil (λ (talk : Talk). IsPlaced (entries_in one.seen) talk);
}

pub HasSubmitted-more : {P : Type 0} {keeper : Ghosts P} (start : SeatView) (lock : TableId) (old new : JobSeat P keeper) (talks : List Talk) (talk : Talk) → HasSubmitted start (view_of lock old) talks
    → Submitted lock old new talk.request talk.answer → HasSubmitted start (view_of lock new) (talks ++ talk ∷ [])
HasSubmitted-more start lock old new talks talk h one =
    let more = submits-starts (job_seen old) (job_seen new) (job_number old) talk one.did in
    record {
      lock = h.lock;
      number = one.number ∙ h.number;
      seen_more = starts-on (job_seen new) (job_seen old) start.seen more h.seen_more;
      mine = one.mine ∙ ap (λ es. es ++ events (entry_of talk.request talk.answer)) h.mine
          ∙ append_assoc start.mine (events (entries_of talks)) (events (entry_of talk.request talk.answer))
          ∙ ap (λ es. start.mine ++ es) (sym (events-append (entries_of talks) (entry_of talk.request talk.answer)) ∙ ap events (sym (entries_of-push talks talk)));
      placed = All-push (λ (t : Talk). IsPlaced (entries_in (job_seen new)) t) talks talk
          (are_placed-starts (job_seen new) (job_seen old) talks more h.placed) (submits-placed (job_seen old) (job_seen new) (job_number old) talk one.did);
    }

-- the talks of one clerk and then those of another
pub HasSubmitted-join : (first middle last : SeatView) (talks more : List Talk) → HasSubmitted first middle talks → HasSubmitted middle last more → HasSubmitted first last (talks ++ more)
HasSubmitted-join first middle last talks more h k = record {
  lock = k.lock ∙ h.lock;
  number = k.number ∙ h.number;
  seen_more = starts-on last.seen middle.seen first.seen k.seen_more h.seen_more;
  mine = k.mine ∙ ap (λ es. es ++ events (entries_of more)) h.mine
      ∙ append_assoc first.mine (events (entries_of talks)) (events (entries_of more))
      ∙ ap (λ es. first.mine ++ es) (sym (events-append (entries_of talks) (entries_of more)) ∙ ap events (sym (entries_of-append talks more)));
  placed = All-append (λ (t : Talk). IsPlaced (entries_in last.seen) t) talks more
      (are_placed-starts last.seen middle.seen talks k.seen_more h.placed) k.placed;
}
