-- One more seat with room.
use Rattle.std.proofs.Common.{inl, inr, ◌≡◌, ◌≢◌, ℕ, zero, suc, ◌+◌, ◌<◌, ◌≤◌, ◌==◌, true, false, List, [], ◌∷◌, length}
use Rattle.std.proofs.Common.{get_or, set, refl, sym, ap, subst, ◌∙◌, arith, eq-eqb, eqb-true, All}
use Rattle.std.proofs.lemmas.Bool.{cases_Bool}
use Rattle.std.proofs.lemmas.List.{get_or-set_same, get_or-set_other, length-set}
use Rattle.std.specs.VecDeque.{deque_capacity}
use Rattle.atomic_table.specs.Seated.{TableId}
use Rattle.sms_keeper.specs.declared.keeper.Keeper.{Ghosts}
use Rattle.sms_desk.specs.declared.job_seat.JobSeat.{JobSeat}
use Rattle.sms_desk.specs.Seats.{HasNoAnswers, IsJobOf, IsSeated, job_seen, mine_of, seen_at}
use Rattle.desk_plan.specs.Sharing.{times}
use Rattle.desk_workers.specs.Inner.Rooms.{AreKept, HaveRoom}
use Rattle.desk_workers.specs.Inner.Shared.{IsIdle}
use Rattle.desk_workers.specs.Inner.Worked.{IsReady}

module _ {P : Type 0} {keeper : Ghosts P} where
  -- the seat of the lock and what is held are the same
  abbrev pub SameIn : JobSeat P keeper → JobSeat P keeper → Type 0
  SameIn new old = (new.seat ≡ old.seat) × (new.held ≡ old.held)

  pub kept-none : (seats : List (JobSeat P keeper)) → All HasNoAnswers seats → AreKept seats seats
  kept-none seats idle = record { count = refl; same = λ k d at. (refl, refl); none = λ k d at. idle k d at }

  pub no-answers : (lock : TableId) (seats : List (JobSeat P keeper)) → All (IsIdle lock) seats → All HasNoAnswers seats
  no-answers lock seats idle k d at = (idle k d at).answers

  pub room-none : (plan : List ℕ) (seats : List (JobSeat P keeper)) → HaveRoom plan 0 seats
  room-none plan seats k d none at = absurd (omega (arith, none))

  pub kept-put : (i : ℕ) (old new : List (JobSeat P keeper)) (s e : JobSeat P keeper) → AreKept old new → i < length new → SameIn s (get_or new i e) → s.answers.items ≡ [] → AreKept old (set new i s)
  kept-put i old new s e kept less same_at none_at = record {
    count = length-set new i s ∙ kept.count;
    same = λ k d at. elim (cases_Bool (i == k)) [
      | inl is ↦
          let here : i ≡ k = eqb-true i k is in
          let put : get_or (set new i s) k d ≡ s = subst (λ j. get_or (set new i s) j d ≡ s) here (get_or-set_same new i s d less) in
          let one : SameIn s (get_or new k d) = subst (λ j. SameIn s (get_or new j d)) here (subst (SameIn s) (any-seat new i e d less) same_at) in
          (ap (λ (t : JobSeat P keeper). t.seat) put ∙ one.0 ∙ (kept.same k d at).0, ap (λ (t : JobSeat P keeper). t.held) put ∙ one.1 ∙ (kept.same k d at).1)
      | inr not ↦
          let other = get_or-set_other new i k s d (apart i k not) in
          (ap (λ (t : JobSeat P keeper). t.seat) other ∙ (kept.same k d at).0, ap (λ (t : JobSeat P keeper). t.held) other ∙ (kept.same k d at).1)
    ];
    none = λ k d at. elim (cases_Bool (i == k)) [
      | inl is ↦
          let here : i ≡ k = eqb-true i k is in
          let put : get_or (set new i s) k d ≡ s = subst (λ j. get_or (set new i s) j d ≡ s) here (get_or-set_same new i s d less) in
          ap (λ (t : JobSeat P keeper). t.answers.items) put ∙ none_at
      | inr not ↦ ap (λ (t : JobSeat P keeper). t.answers.items) (get_or-set_other new i k s d (apart i k not)) ∙ kept.none k d at
    ];
  }
    where
      apart : (i k : ℕ) → (i == k) ≡ false → k ≢ i
      apart i k not e = let hit : (i == k) ≡ true = eq-eqb i k (sym e) in let no : true ≡ false = sym hit ∙ not in absurd cc

      any-seat : (seats : List (JobSeat P keeper)) (i : ℕ) (a b : JobSeat P keeper) → i < length seats → get_or seats i a ≡ get_or seats i b
      any-seat [] i a b less = absurd (omega arith)
      any-seat (x ∷ xs) zero a b less = refl
      any-seat (x ∷ xs) (suc i) a b less = any-seat xs i a b (omega arith)

  pub room-put : (plan : List ℕ) (i : ℕ) (seats : List (JobSeat P keeper)) (s : JobSeat P keeper) → HaveRoom plan i seats → times i plan ≤ deque_capacity s.answers → HaveRoom plan (i + 1) (set seats i s)
  room-put plan i seats s room more k d below at = elim (cases_Bool (i == k)) [
    | inl is ↦
        let here : i ≡ k = eqb-true i k is in
        let less : k < length seats = omega (arith, at, length-set seats i s) in
        let put : get_or (set seats i s) k d ≡ s = subst (λ j. get_or (set seats i s) j d ≡ s) here (get_or-set_same seats i s d (omega (arith, less, here))) in
        let capacity : deque_capacity (get_or (set seats i s) k d).answers ≡ deque_capacity s.answers = ap (λ (t : JobSeat P keeper). deque_capacity t.answers) put in
        let times_is : times k plan ≡ times i plan = ap (λ j. times j plan) (sym here) in
        omega (arith, more, capacity, times_is)
    | inr not ↦
        let apart : k ≢ i = λ e. (let hit : (i == k) ≡ true = eq-eqb i k (sym e) in let no : true ≡ false = sym hit ∙ not in absurd cc) in
        let less : k < length seats = omega (arith, at, length-set seats i s) in
        let kept : deque_capacity (get_or (set seats i s) k d).answers ≡ deque_capacity (get_or seats k d).answers = ap (λ (t : JobSeat P keeper). deque_capacity t.answers) (get_or-set_other seats i k s d apart) in
        let before : k < i = below-other i k below apart in
        omega (arith, room k d before less, kept)
  ]
    where
      below-other : (i k : ℕ) → k < i + 1 → k ≢ i → k < i
      below-other i k below apart = grind (arith, below, apart)

  -- a seat of the desk stays one
  pub same-job : (lock : TableId) (old new : JobSeat P keeper) → SameIn new old → IsJobOf lock old → IsJobOf lock new
  same-job lock old new same job =
      let seen_is : job_seen new ≡ job_seen old = ap seen_at same.0 in
      record {
        seated = subst (IsSeated lock) (sym same.0) job.seated;
        begun = rw seen_is job.begun;
        legal = rw seen_is job.legal;
        holding = rw (seen_is, same.1) job.holding;
      }

  -- a seat with room is ready
  pub kept-ready : (lock : TableId) (plan : List ℕ) (old new : List (JobSeat P keeper)) → All (IsIdle lock) old → AreKept old new → HaveRoom plan (length old) new → (k : ℕ) (d : JobSeat P keeper) → k < length new → IsReady lock k plan (get_or new k d)
  kept-ready lock plan old new idle kept room k d at =
      let less : k < length old = omega (arith, at, kept.count) in
      let was = idle k d less in
      record {
        job = same-job lock (get_or old k d) (get_or new k d) (kept.same k d less) was.job;
        mine = ap mine_of (kept.same k d less).0 ∙ was.mine;
        answers = kept.none k d less;
        room = room k d less at;
      }
