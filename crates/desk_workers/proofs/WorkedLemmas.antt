-- One more item of a worker.
use Rattle.std.proofs.Common.{◌≡◌, ℕ, ◌+◌, ◌==◌, true, false, List, [], ◌∷◌, ◌++◌, length, refl, sym, ap, ◌∙◌, arith}
use Rattle.std.proofs.Common.{append-nil, append_assoc, length-append}
use Rattle.atomic_table.specs.Seated.{TableId}
use Rattle.sms_construct.specs.declared.entry.Entry.{Entry}
use Rattle.sms_keeper.specs.declared.keeper.Keeper.{Ghosts}
use Rattle.sms_script.specs.declared.item.Item.{Item}
use Rattle.turn_lock.specs.declared.signed.Signed.{Signed}
use Rattle.turn_lock.specs.Views.{StartsWith}
use Rattle.desk_signing.specs.declared.event.Event.{Event}
use Rattle.desk_signing.specs.declared.event.Event.TheVariants.{Made}
use Rattle.desk_signing.specs.Signing.{entries_in, events}
use Rattle.sms_desk.specs.declared.job_seat.JobSeat.{JobSeat}
use Rattle.sms_desk.specs.Seats.{job_seen}
use Rattle.desk_plan.specs.Sharing.{those, times}
use Rattle.desk_plan.proofs.FrontLemmas.{made-push}
use Rattle.desk_plan.proofs.SharingLemmas.{those-push, those-times, times-push}
use Rattle.desk_workers.specs.Phases.{entries_for, entry_for}
use Rattle.desk_workers.specs.Inner.Worked.{HasAnswered, HasWorked, IsReady}
use Rattle.desk_workers.proofs.DueLemmas.{all-due-push, all-due-starts}

events-append : (xs ys : List Entry) → events (xs ++ ys) ≡ events xs ++ events ys
events-append [] ys = refl
events-append (x ∷ xs) ys = ap (λ (es : List Event). Made x ∷ es) (events-append xs ys)

-- what goes on from a list goes on from where that began
pub starts-on : (list seen first : List (Signed Event)) → StartsWith list seen → StartsWith seen first → StartsWith list first
starts-on list seen first now before = (before.0 ++ now.0, now.1 ∙ ap (λ xs. xs ++ now.0) before.1 ∙ append_assoc first before.0 now.0)

module _ {P : Type 0} {keeper : Ghosts P} where
  pub worked-none : (lock : TableId) (me : ℕ) (plan : List ℕ) (s : JobSeat P keeper) → IsReady lock me plan s → HasWorked lock me [] [] s s
  worked-none lock me plan s ready = record {
    job = ready.job;
    number = refl;
    capacity = refl;
    seen_more = ([], sym (append-nil (job_seen s)));
    each = ap length ready.answers;
    mine = ready.mine ∙ ap (λ xs. events (entries_for xs [])) (sym ready.answers);
    due = rw ready.answers tt;
  }

  pub worked-push : (lock : TableId) (me p : ℕ) (x : Item) (ps : List ℕ) (xs : List Item) (s t u : JobSeat P keeper) → HasWorked lock me ps xs s t → HasAnswered lock x t u → (p == me) ≡ true → length xs ≡ length ps
      → HasWorked lock me (ps ++ p ∷ []) (xs ++ x ∷ []) s u
  worked-push lock me p x ps xs s t u done one is same =
      let more : those me (ps ++ p ∷ []) (xs ++ x ∷ []) ≡ those me ps xs ++ x ∷ [] = rw is at (those-push me ps xs p x same) in
      let count : times me (ps ++ p ∷ []) ≡ times me ps + 1 = rw is at (times-push me ps p) in
      let pair : length t.answers.items ≡ length (those me ps xs) = done.each ∙ sym (those-times me ps xs same) in
      let made : entries_for (t.answers.items ++ one.answer ∷ []) (those me ps xs ++ x ∷ []) ≡ entries_for t.answers.items (those me ps xs) ++ entry_for x one.answer =
      made-push entry_for t.answers.items (those me ps xs) one.answer x pair in
      record {
        job = one.job;
        number = one.number ∙ done.number;
        capacity = one.capacity ∙ done.capacity;
        seen_more = starts-on (job_seen u) (job_seen t) (job_seen s) one.seen_more done.seen_more;
        each = ap length one.answers ∙ length-append t.answers.items (one.answer ∷ []) ∙ omega (arith, done.each, count);
        mine = rw (one.answers, more, made) (one.mine ∙ ap (λ es. es ++ events (entry_for x one.answer)) done.mine ∙ sym (events-append (entries_for t.answers.items (those me ps xs)) (entry_for x one.answer)));
        due = rw (one.answers, more) (all-due-push (entries_in (job_seen u)) t.answers.items (those me ps xs) one.answer x pair (all-due-starts (job_seen u) (job_seen t) t.answers.items (those me ps xs) one.seen_more done.due) one.due);
      }

  pub worked-skip : (lock : TableId) (me p : ℕ) (x : Item) (ps : List ℕ) (xs : List Item) (s t : JobSeat P keeper) → HasWorked lock me ps xs s t → (p == me) ≡ false → length xs ≡ length ps
      → HasWorked lock me (ps ++ p ∷ []) (xs ++ x ∷ []) s t
  worked-skip lock me p x ps xs s t done not same =
      let more : those me (ps ++ p ∷ []) (xs ++ x ∷ []) ≡ those me ps xs = (rw not at (those-push me ps xs p x same)) ∙ append-nil (those me ps xs) in
      let count : times me (ps ++ p ∷ []) ≡ times me ps + 0 = rw not at (times-push me ps p) in
      record {
        job = done.job;
        number = done.number;
        capacity = done.capacity;
        seen_more = done.seen_more;
        each = omega (arith, done.each, count);
        mine = rw more done.mine;
        due = rw more done.due;
      }
