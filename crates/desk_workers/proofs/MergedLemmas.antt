-- One more answer in order.
use Rattle.std.proofs.Common.{inl, inr, ◌≡◌, ◌≢◌, ℕ, suc, ◌+◌, ◌<◌, ◌==◌, true, false, List, [], ◌∷◌, ◌++◌, All, length}
use Rattle.std.proofs.Common.{take, get_or, set, refl, sym, ap, subst, ◌∙◌, arith, append-nil, append_assoc}
use Rattle.std.proofs.Common.{length-append, eq-eqb, eqb-true, add-one}
use Rattle.std.proofs.lemmas.Bool.{cases_Bool}
use Rattle.std.proofs.lemmas.List.{get_or-set_same, get_or-set_other, length-set}
use Rattle.sms_construct.specs.declared.entry.Answer.{Answer}
use Rattle.sms_keeper.specs.declared.keeper.Keeper.{Ghosts}
use Rattle.sms_desk.specs.declared.job_seat.JobSeat.{JobSeat}
use Rattle.desk_plan.specs.Sharing.{those, times}
use Rattle.desk_plan.proofs.FrontLemmas.{any-default, take-length, take-more, take-whole, times-less}
use Rattle.desk_plan.proofs.SharingLemmas.{those-push, those-times}
use Rattle.desk_workers.specs.Inner.Merged.{AreQueues, HasMerged, MergesFront}

module _ {P : Type 0} {keeper : Ghosts P} where
  abbrev SameIn : JobSeat P keeper → JobSeat P keeper → Type 0
  SameIn new old = (new.seat ≡ old.seat) × (new.held ≡ old.held)

  pub merged-none : (plan : List ℕ) (seats : List (JobSeat P keeper)) (before : List Answer) → MergesFront plan 0 seats seats before before
  merged-none plan seats before = record { merged = []; behind = sym (append-nil before); each = refl; theirs = λ k d less. none-taken k d; count = refl; same = λ k d less. (refl, refl) }
    where
      none-taken : (k : ℕ) (d : JobSeat P keeper) → (get_or seats k d).answers.items ≡ those k (take 0 plan) [] ++ (get_or seats k d).answers.items
      none-taken k d = refl

  -- the seat whose answer is next has one
  pub some-left : (plan : List ℕ) (i : ℕ) (old new : List (JobSeat P keeper)) (before after : List Answer) (d : JobSeat P keeper) → MergesFront plan i old new before after → AreQueues plan old → All (λ k. k < length old) plan → i < length plan
      → 0 < length (get_or new (get_or plan i 0) d).answers.items
  some-left plan i old new before after d front queues below less =
      let w = get_or plan i 0 in
      let inside : w < length old = below i 0 less in
      let whole = ap length (front.theirs w d inside) ∙ length-append (those w (take i plan) front.merged) (get_or new w d).answers.items in
      let done : length (those w (take i plan) front.merged) ≡ times w (take i plan) = those-times w (take i plan) front.merged (front.each ∙ sym (take-length plan i (omega arith))) in
      let next = times-less w plan i less (any-default plan i 0 w less) in
      omega (arith, whole, done, next, queues w d inside)

  pub merged-push : (plan : List ℕ) (i : ℕ) (old new : List (JobSeat P keeper)) (before after after' : List Answer) (s e : JobSeat P keeper) (answer : Answer) → MergesFront plan i old new before after → All (λ k. k < length old) plan → i < length plan
      → (get_or new (get_or plan i 0) e).answers.items ≡ answer ∷ s.answers.items → SameIn s (get_or new (get_or plan i 0) e)
      → after' ≡ after ++ answer ∷ [] → MergesFront plan (i + 1) old (set new (get_or plan i 0) s) before after'
  merged-push plan i old new before after after' s e answer front below less next_at same_at grown =
      let w = get_or plan i 0 in
      let inside : w < length new = omega (arith, front.count, below i 0 less) in
      let next : (d : JobSeat P keeper) → (get_or new w d).answers.items ≡ answer ∷ s.answers.items = λ d. ap (λ (t : JobSeat P keeper). t.answers.items) (any-default new w d e inside) ∙ next_at in
      let same : (d : JobSeat P keeper) → SameIn s (get_or new w d) = λ d. subst (SameIn s) (any-default new w e d inside) same_at in
      let more : take (suc i) plan ≡ take i plan ++ w ∷ [] = take-more plan i w less (any-default plan i 0 w less) in
      let pair : length front.merged ≡ length (take i plan) = front.each ∙ sym (take-length plan i (omega arith)) in
      record {
        merged = front.merged ++ answer ∷ [];
        behind = grown ∙ ap (λ all. all ++ answer ∷ []) front.behind ∙ append_assoc before front.merged (answer ∷ []);
        each = length-append front.merged (answer ∷ []) ∙ omega (arith, front.each);
        theirs = λ k d at. rw (add-one, more, those-push k (take i plan) front.merged w answer pair) (elim (cases_Bool (w == k)) [
          | inl is ↦
              let here : w ≡ k = eqb-true w k is in
              let put : get_or (set new w s) k d ≡ s = subst (λ j. get_or (set new w s) j d ≡ s) here (get_or-set_same new w s d inside) in
              rw (is, put) (front.theirs k d at ∙ ap (λ xs. those k (take i plan) front.merged ++ xs) (subst (λ j. (get_or new j d).answers.items ≡ answer ∷ s.answers.items) here (next d)) ∙ sym (append_assoc (those k (take i plan) front.merged) (answer ∷ []) s.answers.items))
          | inr not ↦
              let apart : k ≢ w = λ e. (let hit : (w == k) ≡ true = eq-eqb w k (sym e) in let no : true ≡ false = sym hit ∙ not in absurd cc) in
              rw (not, get_or-set_other new w k s d apart) (front.theirs k d at ∙ ap (λ xs. xs ++ (get_or new k d).answers.items) (sym (append-nil (those k (take i plan) front.merged))))
        ]);
        count = length-set new w s ∙ front.count;
        same = λ k d at. elim (cases_Bool (w == k)) [
          | inl is ↦
              let here : w ≡ k = eqb-true w k is in
              let put : get_or (set new w s) k d ≡ s = subst (λ j. get_or (set new w s) j d ≡ s) here (get_or-set_same new w s d inside) in
              let one : SameIn s (get_or new k d) = subst (λ j. SameIn s (get_or new j d)) here (same d) in
              (ap (λ (t : JobSeat P keeper). t.seat) put ∙ one.0 ∙ (front.same k d at).0, ap (λ (t : JobSeat P keeper). t.held) put ∙ one.1 ∙ (front.same k d at).1)
          | inr not ↦
              let apart : k ≢ w = λ e. (let hit : (w == k) ≡ true = eq-eqb w k (sym e) in let no : true ≡ false = sym hit ∙ not in absurd cc) in
              let kept = get_or-set_other new w k s d apart in
              (ap (λ (t : JobSeat P keeper). t.seat) kept ∙ (front.same k d at).0, ap (λ (t : JobSeat P keeper). t.held) kept ∙ (front.same k d at).1)
        ];
      }

  -- all are in order
  pub merged-all : (plan : List ℕ) (old new : List (JobSeat P keeper)) (before after : List Answer) → MergesFront plan (length plan) old new before after → AreQueues plan old → HasMerged plan old new before after
  merged-all plan old new before after front queues = record {
    merged = front.merged;
    behind = front.behind;
    each = front.each;
    theirs = λ k d at.
        let whole : take (length plan) plan ≡ plan = take-whole plan in
        let theirs : (get_or old k d).answers.items ≡ those k plan front.merged ++ (get_or new k d).answers.items = rw whole at (front.theirs k d at) in
        let done = those-times k plan front.merged front.each in
        let left : length (get_or new k d).answers.items ≡ 0 = omega (arith, ap length theirs, length-append (those k plan front.merged) (get_or new k d).answers.items, done, queues k d at) in
        sym (theirs ∙ ap (λ xs. those k plan front.merged ++ xs) (empty (get_or new k d).answers.items left) ∙ append-nil (those k plan front.merged));
    count = front.count;
    same = front.same;
  }
    where
      empty : (xs : List Answer) → length xs ≡ 0 → xs ≡ []
      empty [] none = refl
      empty (x ∷ xs) none = absurd (omega (arith, none))
