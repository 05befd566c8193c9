-- A phase on a desk that workers share.
use Rattle.std.proofs.Common.{inl, inr, ◌≡◌, ℕ, zero, suc, ◌-◌, ◌<◌, ◌≤◌, true, false, List, [], ◌∷◌, ◌++◌}
use Rattle.std.proofs.Common.{length, map, max, take, get_or, All, append-nil, refl, sym, ap, subst, ◌∙◌, arith}
use Rattle.std.proofs.lemmas.Bool.{cases_Bool}
use Rattle.std.specs.Prelude.{Result, Ok, Err, IfOk, OnOk, OnErr, filter, is_err}
use Rattle.std.specs.List.{AllByRecursion}
use Rattle.desk_common.specs.Limits.{most_workers}
use Rattle.atomic_table.specs.Seated.{TableId}
use Rattle.sms_construct.specs.declared.entry.Answer.{Answer}
use Rattle.sms_construct.specs.declared.entry.Entry.{Entry}
use Rattle.sms_keeper.specs.declared.keeper.Keeper.{Ghosts}
use Rattle.sms_script.specs.declared.item.Item.{Item}
use Rattle.turn_lock.specs.declared.signed.Signed.{Signed}
use Rattle.turn_lock.specs.Views.{IsBy, StartsWith, made_by}
use Rattle.desk_law.specs.State.{Opening}
use Rattle.desk_law.specs.Kept.{is_entered}
use Rattle.desk_signing.specs.declared.event.Event.{Event}
use Rattle.desk_signing.specs.Signing.{events, signed, signed_last}
use Rattle.desk_signing.proofs.SignLemmas.{signed_entries}
use Rattle.sms_desk.specs.declared.job_seat.JobSeat.{JobSeat}
use Rattle.sms_desk.specs.Seats.{HasNoAnswers, IsJobOf, IsNewJob, StandsJob, job_number, job_numbers}
use Rattle.sms_desk.specs.Seats.{job_seen, mine_of, number_at, seen_at}
use Rattle.desk_plan.specs.Plan.{at_work, number_in, plan_of, rank_in, worker_in}
use Rattle.desk_plan.specs.Sharing.{those}
use Rattle.desk_plan.proofs.FrontLemmas.{worker-below}
use Rattle.desk_plan.proofs.RankLemmas.{rank-below, work-few}
use Rattle.desk_plan.proofs.SharingLemmas.{all-answers, jobs-in-order, none-at-all}
use Rattle.desk_workers.specs.Phases.{HasPhase, IsDueIn, entries_for, entry_for, is_of}
use Rattle.desk_workers.specs.Inner.Worked.{HasWorked}
use Rattle.desk_workers.specs.Inner.Merged.{AreQueues, HasMerged}
use Rattle.desk_workers.specs.Inner.Planned.{IsPlanned, by_jobs}
use Rattle.desk_workers.specs.Inner.Rooms.{AreKept}
use Rattle.desk_workers.specs.Inner.Shared.{HasShared, IsIdle}
use Rattle.desk_workers.proofs.ClosedLemmas.{has-closed}
use Rattle.desk_workers.proofs.DueLemmas.{all-due-starts}
use Rattle.desk_workers.proofs.RoomLemmas.{same-job}
use Rattle.desk_workers.proofs.WorkedLemmas.{starts-on}

-- an answer's entry is of the item's job
job-of-item : (item : Item) (answer : Answer) → AllByRecursion (λ (e : Entry). e.request.job ≡ item.request.job) (entry_for item answer)
job-of-item item answer = elim (cases_Bool (is_entered answer.reply)) [
  | inl is ↦ rw is (refl, tt)
  | inr not ↦ rw not tt
]

-- a phase without items leaves all as it was
pub phase-none : (before after : List Answer) (js js' : List Entry) → HasPhase [] before after js js' → (after ≡ before) × (js' ≡ js)
phase-none before after js js' phase =
    let answers : phase.answers ≡ [] = empty phase.answers phase.answered.each in
    let added : phase.answered.added ≡ [] =
    none-at-all entry_for (λ (i : Item). i.request.job) (λ (e : Entry). e.request.job) (λ job. 0) phase.answered.added (λ job. phase.answered.jobs job ∙ ap (λ xs. filter (is_of job) (entries_for xs [])) answers) in
    (phase.behind ∙ ap (λ xs. before ++ xs) answers ∙ append-nil before, phase.answered.grown ∙ ap (λ xs. js ++ xs) added ∙ append-nil js)
  where
    empty : (xs : List Answer) → length xs ≡ 0 → xs ≡ []
    empty [] none = refl
    empty (x ∷ xs) none = absurd (omega (arith, none))

-- what a vector holds after it lent all
pub lent-all : {X : Type 0} (xs rest : List X) (n : ℕ) → n ≡ length xs → take n (xs ++ rest) ≡ xs
lent-all [] rest zero same = refl
lent-all [] rest (suc n) same = absurd (omega (arith, same))
lent-all (x ∷ xs) rest zero same = absurd (omega (arith, same))
lent-all (x ∷ xs) rest (suc n) same = ap (λ ys. x ∷ ys) (lent-all xs rest n (omega (arith, same)))

-- what holds anyway holds after an error
pub on-err : {V E : Type 0} (result : Result V E) (A : Type 0) → A → OnErr result A
on-err (Ok value) A a = tt
on-err (Err fault) A a = a

-- what holds where there was no error
pub not-err : {V E : Type 0} (result : Result V E) (A : Type 0) → is_err result ≡ false → OnOk result A → A
not-err (Ok value) A is a = a
not-err (Err fault) A is a = absurd cc

-- what holds where there was one
pub was-err : {V E : Type 0} (result : Result V E) (A : Type 0) → is_err result ≡ true → OnErr result A → A
was-err (Ok value) A is a = absurd cc
was-err (Err fault) A is a = a

-- the plan names a worker for each item
pub plan-length : (worker : List ℕ → ℕ) (items : List Item) → length (by_jobs worker items) ≡ length items
plan-length worker [] = refl
plan-length worker (item ∷ items) = ap suc (plan-length worker items)

plan-at : (worker : List ℕ → ℕ) (count : ℕ) (items : List Item) (i d : ℕ) → ((job : List ℕ) → worker job < count) → i < length (by_jobs worker items) → get_or (by_jobs worker items) i d < count
plan-at worker count [] i d below less = absurd (omega (arith, less))
plan-at worker count (item ∷ items) zero d below less = below item.request.job
plan-at worker count (item ∷ items) (suc i) d below less = plan-at worker count items i d below (omega (arith, less))

-- and each is one of so many
pub plan-below : (worker : List ℕ → ℕ) (workers count : ℕ) (items : List Item) → ((job : List ℕ) → worker job < workers) → count ≡ workers → All (λ k. k < count) (by_jobs worker items)
plan-below worker workers count items below same i d less = omega (arith, same, plan-at worker workers items i d below less)

ranked-by : (rank : ℕ → ℕ) (worker : List ℕ → ℕ) (items : List Item) → map rank (by_jobs worker items) ≡ by_jobs (λ job. rank (worker job)) items
ranked-by rank worker [] = refl
ranked-by rank worker (item ∷ items) = ap (λ ks. rank (worker item.request.job) ∷ ks) (ranked-by rank worker items)

-- a plan by ranks is one
pub planned-ranks : (numbers : List (List ℕ × ℕ)) (workers : ℕ) (items : List Item) (plan ranked : List ℕ) (count : ℕ) → 2 ≤ workers → workers ≤ most_workers → plan ≡ plan_of numbers workers items
    → ranked ≡ map (rank_in plan) plan → count ≡ max 1 (at_work plan workers) → IsPlanned items ranked count
planned-ranks numbers workers items plan ranked count two few planned is counted = record {
  worker = λ job. rank_in plan (worker_in numbers workers job);
  plan_is = is ∙ ap (map (rank_in plan)) planned ∙ ranked-by (rank_in plan) (worker_in numbers workers) items;
  below = λ job. rw counted (rank-below plan (worker_in numbers workers job) workers (worker-below workers (number_in numbers job) two));
  few = omega (arith, counted, work-few plan workers, two, few);
}

-- so is one that was made so
pub planned-by : {X E : Type 0} (r : Result X E) (plan_in : X → List ℕ) (count_in : X → ℕ) (numbers : List (List ℕ × ℕ)) (workers : ℕ) (items : List Item) (plan : List ℕ) → 2 ≤ workers → workers ≤ most_workers
    → plan ≡ plan_of numbers workers items → IfOk r (λ x. plan_in x ≡ map (rank_in plan) plan) → IfOk r (λ x. count_in x ≡ max 1 (at_work plan workers)) → IfOk r (λ x. IsPlanned items (plan_in x) (count_in x))
planned-by (Ok x) plan_in count_in numbers workers items plan two few planned is counted = planned-ranks numbers workers items plan (plan_in x) (count_in x) two few planned is counted
planned-by (Err e) plan_in count_in numbers workers items plan two few planned is counted = tt

-- the phase is answered, or nothing has changed; opening and mark stand in both
pub record IsEither {V E : Type 0} (result : Result V E) (items : List Item) (before after : List Answer) (o : Opening) (mark : ℕ) (o' : Opening) (mark' : ℕ) (js js' : List Entry) : Type 0 where
  pub opening : o' ≡ o
  pub mark_is : mark' ≡ mark
  pub answered : OnOk result (HasPhase items before after js js')
  pub wanting : OnErr result ((after ≡ before) × (js' ≡ js))

module _ {P : Type 0} {keeper : Ghosts P} where
  numbers-length : (seats : List (JobSeat P keeper)) → length (job_numbers seats) ≡ length seats
  numbers-length [] = refl
  numbers-length (s ∷ seats) = ap suc (numbers-length seats)

  number-at : (seats : List (JobSeat P keeper)) (i : ℕ) (d : JobSeat P keeper) → i < length seats → get_or (job_numbers seats) i 0 ≡ job_number (get_or seats i d)
  number-at [] i d less = absurd (omega arith)
  number-at (s ∷ seats) zero d less = refl
  number-at (s ∷ seats) (suc i) d less = number-at seats i d (omega arith)

  -- seats of a new desk, without answers, are idle
  pub new-idle : (lock : TableId) (list : List (Signed Event)) (seats : List (JobSeat P keeper)) → All (IsNewJob lock list) seats → All HasNoAnswers seats → All (IsIdle lock) seats
  new-idle lock list seats fresh none k d at = record { job = (fresh k d at).job; mine = (fresh k d at).mine_is; answers = none k d at }

  -- where room is wanting nothing was answered
  pub shared-none : (lock : TableId) (old new : List (JobSeat P keeper)) (before : List Answer) → All (IsIdle lock) old → AreKept old new → HasShared lock [] [] old new before before
  shared-none lock old new before idle kept = record {
    answers = [];
    behind = sym (append-nil before);
    each = refl;
    count = kept.count;
    made = λ k d at.
        let same = kept.same k d at in
        record {
          job = same-job lock (get_or old k d) (get_or new k d) same (idle k d at).job;
          number = ap number_at same.0;
          seen_more = ([], ap seen_at same.0 ∙ sym (append-nil (job_seen (get_or old k d))));
          mine = ap mine_of same.0 ∙ (idle k d at).mine;
          due = tt;
        };
  }

  -- all seats are still of the desk
  pub shared-jobs : (lock : TableId) (plan : List ℕ) (items : List Item) (old new : List (JobSeat P keeper)) (before after : List Answer) → HasShared lock plan items old new before after → All (IsJobOf lock) new
  shared-jobs lock plan items old new before after shared k d at = (shared.made k d (omega (arith, at, shared.count))).job

  -- each seat has as many answers as the plan gives it
  pub worked-queues : (lock : TableId) (plan : List ℕ) (items : List Item) (ready done : List (JobSeat P keeper)) → length done ≡ length ready
      → ((k : ℕ) (d : JobSeat P keeper) → k < length ready → HasWorked lock k plan items (get_or ready k d) (get_or done k d)) → AreQueues plan done
  worked-queues lock plan items ready done count worked k d at = (worked k d (omega (arith, at, count))).each

  -- all workers' answers are put back
  pub shared-done : (lock : TableId) (plan : List ℕ) (items : List Item) (old ready done new : List (JobSeat P keeper)) (before after : List Answer) → length plan ≡ length items → AreKept old ready → length done ≡ length ready
      → ((k : ℕ) (d : JobSeat P keeper) → k < length ready → HasWorked lock k plan items (get_or ready k d) (get_or done k d)) → HasMerged plan done new before after → HasShared lock plan items old new before after
  shared-done lock plan items old ready done new before after each kept count worked merged = record {
    answers = merged.merged;
    behind = merged.behind;
    each = merged.each ∙ each;
    count = merged.count ∙ count ∙ kept.count;
    made = λ k d at.
        let first = kept.same k d at in
        let w = worked k d (omega (arith, at, kept.count)) in
        let last = merged.same k d (omega (arith, at, kept.count, count)) in
        let theirs = merged.theirs k d (omega (arith, at, kept.count, count)) in
        let seen_is : job_seen (get_or new k d) ≡ job_seen (get_or done k d) = ap seen_at last.0 in
        record {
          job = same-job lock (get_or done k d) (get_or new k d) last w.job;
          number = ap number_at last.0 ∙ w.number ∙ ap number_at first.0;
          seen_more = (w.seen_more.0, seen_is ∙ w.seen_more.1 ∙ ap (λ xs. xs ++ w.seen_more.0) (ap seen_at first.0));
          mine = ap mine_of last.0 ∙ w.mine ∙ ap (λ xs. events (entries_for xs (those k plan items))) (sym theirs);
          due = rw (seen_is, theirs) w.due;
        };
  }

  -- and once the desk is closed the phase is answered
  pub shared-closed : (lock : TableId) (worker : List ℕ → ℕ) (workers : ℕ) (items : List Item) (old new : List (JobSeat P keeper)) (before after : List Answer) (o : Opening) (mark : ℕ) (o' : Opening) (mark' : ℕ) (js js' : List Entry) (ns : List ℕ) → ((job : List ℕ) → worker job < workers)
      → length old ≡ workers → All (IsNewJob lock (signed o mark (length js) js [])) old → HasShared lock (by_jobs worker items) items old new before after → All (StandsJob (signed_last o' mark' js' ns)) new
      → All (IsBy (job_numbers new)) (signed_last o' mark' js' ns) → length ns ≤ length js' → (o' ≡ o) × (mark' ≡ mark) × HasPhase items before after js js'
  shared-closed lock worker workers items [] new before after o mark o' mark' js js' ns under long fresh shared stands by few = absurd (omega (arith, under [], long))
  shared-closed lock worker workers items (d ∷ old) new before after o mark o' mark' js js' ns under long fresh shared stands by few =
      let list = signed_last o' mark' js' ns in
      let plan = by_jobs worker items in
      let some : 0 < length (d ∷ old) = omega arith in
      let count : length new ≡ workers = shared.count ∙ long in
      let first = shared.made 0 d some in
      let seen = job_seen (get_or new 0 d) in
      let seen_more : StartsWith seen (signed o mark (length js) js []) = subst (StartsWith seen) (fresh 0 d some).seen_is first.seen_more in
      let starts : StartsWith list (signed o mark (length js) js []) = starts-on list seen (signed o mark (length js) js []) (stands 0 d (omega (arith, count, under []))).0 seen_more in
      let each : length (job_numbers new) ≡ workers = numbers-length new ∙ count in
      let below : (job : List ℕ) → worker job < length (job_numbers new) = λ job. omega (arith, each, under job) in
      let closed =
      has-closed (job_numbers new) (λ i. entries_for (those i plan shared.answers) (those i plan items)) o mark o' mark' js js' ns few starts by (λ i less.
      let inside : i < length new = omega (arith, less, numbers-length new) in
      ap (λ n. made_by n list) (number-at new i d inside) ∙ (stands i d inside).1 ∙ (shared.made i d (omega (arith, inside, shared.count))).mine) in (
        closed.opening,
        closed.mark_is,
        record {
          answers = shared.answers;
          behind = shared.behind;
          answered = record {
            each = shared.each;
            added = closed.added;
            grown = closed.grown;
            jobs = jobs-in-order entry_for (λ (i : Item). i.request.job) (λ (e : Entry). e.request.job) worker job-of-item (length (job_numbers new)) (λ i. get_or (job_numbers new) i 0) items shared.answers closed.added ns shared.each closed.counted below closed.signs closed.own;
            due = all-answers entry_for (λ (i : Item). i.request.job) (λ (e : Entry). e.request.job) worker (λ answer item. IsDueIn js' item.request answer) (length (job_numbers new)) items shared.answers shared.each below (λ k less.
                let inside : k < length new = omega (arith, less, numbers-length new) in
                let made = shared.made k d (omega (arith, inside, shared.count)) in
                rw (signed_entries o' mark' (length js' - length ns) js' ns) at (all-due-starts list (job_seen (get_or new k d)) (those k plan shared.answers) (those k plan items) (stands k d inside).0 made.due));
          };
        },
      )

  -- the same where the phase may not have begun
  pub closed-either : {V E : Type 0} (result : Result V E) (lock : TableId) (worker : List ℕ → ℕ) (workers : ℕ) (items : List Item) (old new : List (JobSeat P keeper)) (before after : List Answer) (o : Opening) (mark : ℕ) (o' : Opening) (mark' : ℕ) (js js' : List Entry) (ns : List ℕ) → ((job : List ℕ) → worker job < workers)
      → length old ≡ workers → All (IsNewJob lock (signed o mark (length js) js [])) old → OnOk result (HasShared lock (by_jobs worker items) items old new before after) → OnErr result (HasShared lock [] [] old new before after) → All (StandsJob (signed_last o' mark' js' ns)) new
      → All (IsBy (job_numbers new)) (signed_last o' mark' js' ns) → length ns ≤ length js' → IsEither result items before after o mark o' mark' js js'
  closed-either (Ok value) lock worker workers items old new before after o mark o' mark' js js' ns under long fresh ok err stands by few =
      let done = shared-closed lock worker workers items old new before after o mark o' mark' js js' ns under long fresh ok stands by few in
      record { opening = done.0; mark_is = done.1; answered = done.2; wanting = tt }
  closed-either (Err fault) lock worker workers items old new before after o mark o' mark' js js' ns under long fresh ok err stands by few =
      let done = shared-closed lock worker workers [] old new before after o mark o' mark' js js' ns under long fresh err stands by few in
      record { opening = done.0; mark_is = done.1; answered = tt; wanting = phase-none before after js js' done.2 }

  -- the same of seats that came back from the vector that lent them, and of a plan as it was made
  pub closed-desk : {V E : Type 0} (result : Result V E) (lock : TableId) (worker : List ℕ → ℕ) (workers : ℕ) (items : List Item) (plan : List ℕ) (jobs old new back : List (JobSeat P keeper)) (before after : List Answer) (o : Opening) (mark : ℕ) (o' : Opening) (mark' : ℕ) (js js' : List Entry) (ns : List ℕ)
      → ((job : List ℕ) → worker job < workers) → plan ≡ by_jobs worker items → old ≡ jobs → back ≡ new → length jobs ≡ workers → All (IsNewJob lock (signed o mark (length js) js [])) jobs → OnOk result (HasShared lock plan items old new before after) → OnErr result (HasShared lock [] [] old new before after)
      → All (StandsJob (signed_last o' mark' js' ns)) back → All (IsBy (job_numbers back)) (signed_last o' mark' js' ns) → length ns ≤ length js' → IsEither result items before after o mark o' mark' js js'
  closed-desk result lock worker workers items plan jobs old new back before after o mark o' mark' js js' ns under planned lent given long fresh ok err stands by few =
      closed-either result lock worker workers items old new before after o mark o' mark' js js' ns under (ap length lent ∙ long) (subst (All (IsNewJob lock (signed o mark (length js) js []))) (sym lent) fresh)
      (subst (λ p. OnOk result (HasShared lock p items old new before after)) planned ok) err (subst (All (StandsJob (signed_last o' mark' js' ns))) given stands) (subst (λ (seats : List (JobSeat P keeper)). All (IsBy (job_numbers seats)) (signed_last o' mark' js' ns)) given by) few
