-- A desk that was served by several workers has one history.
use Rattle.std.proofs.Common.{inl, inr, ◌≡◌, ◌≤◌, ◌<◌, ◌+◌, ◌-◌, ◌==◌, ℕ, zero, suc, true, List, [], ◌∷◌, ◌++◌, length}
use Rattle.std.proofs.Common.{map, get_or, refl, ap, sym, subst, ◌∙◌, arith, eq-eqb, eqb-true}
use Rattle.std.specs.Prelude.{All}
use Rattle.std.specs.List.{AllByRecursion}
use Rattle.std.proofs.lemmas.Bool.{cases_Bool, ne_eqb}
use Rattle.std.proofs.lemmas.List.{length-map}
use Rattle.atomic_table.specs.Seated.{TableId}
use Rattle.sms_base.specs.Observed.{Observed}
use Rattle.sms_construct.specs.declared.entry.Entry.{Entry}
use Rattle.sms_keeper.specs.declared.keeper.Keeper.{Ghosts}
use Rattle.turn_lock.specs.Views.{IsBy, StartsWith, made_by as made_by_seat}
use Rattle.desk_law.specs.State.{Opening}
use Rattle.desk_signing.specs.Signing.{events, signed, signed_last}
use Rattle.desk_signing.proofs.SignLemmas.{signed_entries}
use Rattle.sms_desk.specs.declared.job_seat.JobSeat.{JobSeat}
use Rattle.sms_desk.specs.Seats.{AreNumberedDown, IsNewJob, StandsJob, job_number, job_numbers, job_seen}
use Rattle.desk_plan.specs.Sharing.{those}
use Rattle.desk_workers.specs.Inner.Closed.{HasClosed, Signs}
use Rattle.desk_workers.proofs.ClosedLemmas.{has-closed}
use Rattle.http_talk.specs.declared.talk.Talk.{Talk}
use Rattle.desk_http.specs.Entered.{IsPlaced, entries_of}
use Rattle.desk_http.proofs.SeatLaws.{are_placed-starts, starts-on}
use Rattle.serve_door.specs.declared.door_end.DoorEnd.{DoorEnd}
use Rattle.serve_door.specs.declared.visit.Visit.{Visit}
use Rattle.serve_door.specs.Doors.{DoorMoment}
use Rattle.serve_door.specs.Visits.{talks_of}
use Rattle.serve_calls.specs.OneHistory.{IsOneHistory, made_by}
use Rattle.serve_calls.specs.Inner.Workers.{DidShifts, IsShift, Shift}
use Rattle.serve_calls.proofs.ManningLaws.{at-map}

-- the number of a seat and its worker tell each other
same-test : (count n k seat : ℕ) → n < count → k < count → seat + suc k ≡ count → (count - suc n == k) ≡ (n == seat)
same-test count n k seat small below is = elim (cases_Bool (n == seat)) [
  | inl equal ↦
      let same : n ≡ seat = eqb-true n seat equal in
      let back : count - suc n ≡ k = omega (arith, same, is) in
      eq-eqb (count - suc n) k back ∙ sym equal
  | inr not ↦ ne_eqb (count - suc n) k (λ back.
      let same : n ≡ seat = omega (arith, back, small, is) in
      let equal : (n == seat) ≡ true = eq-eqb n seat same in
      absurd cc) ∙ sym not
]

-- what a worker made is what bears the number of its seat
made-picked : (count k seat : ℕ) (es : List Entry) (ns : List ℕ) → AllByRecursion (λ n. n < count) ns → k < count → seat + suc k ≡ count
    → made_by k (map (λ n. count - suc n) ns) es ≡ those seat ns es
made-picked count k seat [] [] small below is = refl
made-picked count k seat [] (n ∷ ns) small below is = refl
made-picked count k seat (e ∷ es) [] small below is = refl
made-picked count k seat (e ∷ es) (n ∷ ns) small below is =
    rw (same-test count n k seat small.0 below is, made-picked count k seat es ns small.1 below is) refl

-- the makers are workers
makers-known : (count : ℕ) (ns : List ℕ) → 0 < count → All (λ (maker : ℕ). maker < count) (map (λ n. count - suc n) ns)
makers-known count ns some = λ i d less. known count ns i d some less
  where
    known : (count : ℕ) (ns : List ℕ) (i d : ℕ) → 0 < count → i < length (map (λ n. count - suc n) ns) → get_or (map (λ n. count - suc n) ns) i d < count
    known count [] i d some less = absurd (omega (arith, less))
    known count (n ∷ ns) zero d some less = omega (arith, some)
    known count (n ∷ ns) (suc i) d some less = known count ns i d some (omega (arith, less))

all-small : (count : ℕ) (number : ℕ → ℕ) (ns : List ℕ) → ((i : ℕ) → i < count → number i + suc i ≡ count) → AllByRecursion (Signs count number) ns → AllByRecursion (λ n. n < count) ns
all-small count number [] down signs = tt
all-small count number (n ∷ ns) down signs =
    let one = signs.0 in
    (omega (arith, one.2, down one.0 one.1, one.1), all-small count number ns down signs.1)

-- what the desk's close says of the workers' visits
pub record IsShared (o : Opening) (mark : ℕ) (o' : Opening) (mark' : ℕ) (visits : List (List Visit)) (history : List Entry) : Type 0 where
  pub opening : o' ≡ o
  pub mark_is : mark' ≡ mark
  pub once : IsOneHistory visits history

module _ {C A P : Type 0} {keeper : Ghosts P} (seen : C → Observed) (moment : A → DoorMoment C) (lock : TableId) (most : ℕ) where
  numbers-length : (seats : List (JobSeat P keeper)) → length (job_numbers seats) ≡ length seats
  numbers-length [] = refl
  numbers-length (s ∷ seats) = ap suc (numbers-length seats)

  number-at : (seats : List (JobSeat P keeper)) (i : ℕ) (d : JobSeat P keeper) → i < length seats → get_or (job_numbers seats) i 0 ≡ job_number (get_or seats i d)
  number-at [] i d less = absurd (omega arith)
  number-at (s ∷ seats) zero d less = refl
  number-at (s ∷ seats) (suc i) d less = number-at seats i d (omega arith)

  module _ (xs : List (Shift A P keeper)) (x : Shift A P keeper) (each : All (IsShift seen moment lock most) xs) where
    seat_of_new : (i : ℕ) → i < length xs → (Q : JobSeat P keeper → Type 0) → All Q (map (λ (one : Shift A P keeper). one.seat_before) xs) → Q (get_or xs i x).seat_before
    seat_of_new i less Q all =
        subst Q (at-map (λ (one : Shift A P keeper). one.seat_before) xs i x x.seat_before less) (all i x.seat_before (omega (arith, less, length-map xs (λ (one : Shift A P keeper). one.seat_before))))

    seat_of_old : (i : ℕ) → i < length xs → (Q : JobSeat P keeper → Type 0) → All Q (map (λ (one : Shift A P keeper). one.seat_after) xs) → Q (get_or xs i x).seat_after
    seat_of_old i less Q all =
        subst Q (at-map (λ (one : Shift A P keeper). one.seat_after) xs i x x.seat_after less) (all i x.seat_after (omega (arith, less, length-map xs (λ (one : Shift A P keeper). one.seat_after))))

    number-is : (i : ℕ) → i < length xs → get_or (job_numbers (map (λ (one : Shift A P keeper). one.seat_after) xs)) i 0 ≡ job_number (get_or xs i x).seat_after
    number-is i less =
        number-at (map (λ (one : Shift A P keeper). one.seat_after) xs) i x.seat_after (omega (arith, less, length-map xs (λ (one : Shift A P keeper). one.seat_after)))
        ∙ ap job_number (at-map (λ (one : Shift A P keeper). one.seat_after) xs i x x.seat_after less)

    number-down : (i : ℕ) → i < length xs → AreNumberedDown (length xs) (map (λ (one : Shift A P keeper). one.seat_before) xs)
        → get_or (job_numbers (map (λ (one : Shift A P keeper). one.seat_after) xs)) i 0 + suc i ≡ length xs
    number-down i less down =
        let here = down i x.seat_before (omega (arith, less, length-map xs (λ (one : Shift A P keeper). one.seat_before))) in
        let same : job_number (get_or (map (λ (one : Shift A P keeper). one.seat_before) xs) i x.seat_before) ≡ job_number (get_or xs i x).seat_before =
        ap job_number (at-map (λ (one : Shift A P keeper). one.seat_before) xs i x x.seat_before less) in
        let kept : job_number (get_or xs i x).seat_after ≡ job_number (get_or xs i x).seat_before = (each i x less).submitted.number in
        omega (arith, here, same, kept, number-is i less)

    pub one-history : (o : Opening) (mark : ℕ) (o' : Opening) (mark' : ℕ) (js js' : List Entry) (ns : List ℕ) → 2 ≤ length xs → js ≡ []
        → All (IsNewJob lock (signed o mark (length js) js [])) (map (λ (one : Shift A P keeper). one.seat_before) xs) → AreNumberedDown (length xs) (map (λ (one : Shift A P keeper). one.seat_before) xs)
        → All (StandsJob (signed_last o' mark' js' ns)) (map (λ (one : Shift A P keeper). one.seat_after) xs) → All (IsBy (job_numbers (map (λ (one : Shift A P keeper). one.seat_after) xs))) (signed_last o' mark' js' ns)
        → length ns ≤ length js' → IsShared o mark o' mark' (map (λ (one : Shift A P keeper). one.visited) xs) js'
    one-history o mark o' mark' js js' ns two none fresh down stands by few =
        let list = signed_last o' mark' js' ns in
        let first = signed o mark (length js) js [] in
        let n = length xs in
        let numbers = job_numbers (map (λ (one : Shift A P keeper). one.seat_after) xs) in
        let long : length numbers ≡ n = numbers-length (map (λ (one : Shift A P keeper). one.seat_after) xs) ∙ length-map xs (λ (one : Shift A P keeper). one.seat_after) in
        let new : (i : ℕ) → i < n → IsNewJob lock first (get_or xs i x).seat_before = λ i less. seat_of_new i less (IsNewJob lock first) fresh in
        let stood : (i : ℕ) → i < n → StandsJob list (get_or xs i x).seat_after = λ i less. seat_of_old i less (StandsJob list) stands in
        let zeroth : 0 < n = omega (arith, two) in
        let begun : StartsWith (job_seen (get_or xs 0 x).seat_after) first = subst (StartsWith (job_seen (get_or xs 0 x).seat_after)) (new 0 zeroth).seen_is (each 0 x zeroth).submitted.seen_more in
        let closed : HasClosed (length numbers) (λ i. get_or numbers i 0) (λ i. entries_of (talks_of (get_or xs i x).visited)) o mark o' mark' js js' ns =
        has-closed numbers (λ i. entries_of (talks_of (get_or xs i x).visited)) o mark o' mark' js js' ns few (starts-on list (job_seen (get_or xs 0 x).seat_after) first (stood 0 zeroth).0 begun) by
        (λ i less.
        let inside : i < n = omega (arith, less, long) in
        let one = get_or xs i x in
        ap (λ k. made_by_seat k list) (number-is i inside) ∙ (stood i inside).1 ∙ (each i x inside).submitted.mine ∙ ap (λ es. es ++ events (entries_of (talks_of one.visited))) (new i inside).mine_is) in
        let whole : js' ≡ closed.added = closed.grown ∙ ap (λ es. es ++ closed.added) none in
        let visited : length (map (λ (one : Shift A P keeper). one.visited) xs) ≡ n = length-map xs (λ (one : Shift A P keeper). one.visited) in
        let small : AllByRecursion (λ k. k < n) ns =
        all-small n (λ i. get_or numbers i 0) ns (λ i less. number-down i less down) (subst (λ count. AllByRecursion (Signs count (λ i. get_or numbers i 0)) ns) long closed.signs) in
        record {
          opening = closed.opening;
          mark_is = closed.mark_is;
          once = record {
            makers = map (λ k. n - suc k) ns;
            each = length-map ns (λ k. n - suc k) ∙ sym closed.counted ∙ ap length (sym whole);
            known = subst (λ count. All (λ (maker : ℕ). maker < count) (map (λ k. n - suc k) ns)) (sym visited) (makers-known n ns zeroth);
            made = λ worker less.
                let inside : worker < n = omega (arith, less, visited) in
                ap (made_by worker (map (λ k. n - suc k) ns)) whole ∙ made-picked n worker (get_or numbers worker 0) closed.added ns small inside (number-down worker inside down)
                ∙ closed.own worker (omega (arith, inside, long)) ∙ ap (λ visits. entries_of (talks_of visits)) (sym (at-map (λ (one : Shift A P keeper). one.visited) xs worker x [] inside));
            placed = λ i d less.
                let inside : i < n = omega (arith, less, visited) in
                let one = get_or xs i x in
                subst (λ (visits : List Visit). All (λ (talk : Talk). IsPlaced js' talk) (talks_of visits)) (sym (at-map (λ (one : Shift A P keeper). one.visited) xs i x d inside))
                (subst (λ (h : List Entry). All (λ (talk : Talk). IsPlaced h talk) (talks_of one.visited)) (signed_entries o' mark' (length js' - length ns) js' ns)
                (are_placed-starts list (job_seen one.seat_after) (talks_of one.visited) (stood i inside).0 (each i x inside).submitted.placed));
            alone = λ single. absurd (omega (arith, single, visited, two));
          };
        }

  several : (xs : List (Shift A P keeper)) (o : Opening) (mark : ℕ) (o' : Opening) (mark' : ℕ) (js js' : List Entry) (ns : List ℕ) → All (IsShift seen moment lock most) xs → 2 ≤ length xs → js ≡ []
      → All (IsNewJob lock (signed o mark (length js) js [])) (map (λ (one : Shift A P keeper). one.seat_before) xs) → AreNumberedDown (length xs) (map (λ (one : Shift A P keeper). one.seat_before) xs)
      → All (StandsJob (signed_last o' mark' js' ns)) (map (λ (one : Shift A P keeper). one.seat_after) xs) → All (IsBy (job_numbers (map (λ (one : Shift A P keeper). one.seat_after) xs))) (signed_last o' mark' js' ns)
      → length ns ≤ length js' → IsShared o mark o' mark' (map (λ (one : Shift A P keeper). one.visited) xs) js'
  several [] o mark o' mark' js js' ns each two none fresh down stands by few = absurd (omega (arith, two))
  several (x ∷ xs) o mark o' mark' js js' ns each two none fresh down stands by few = one-history (x ∷ xs) x each o mark o' mark' js js' ns two none fresh down stands by few

  -- the desk that several workers shared has one history
  pub desk-shared : {seats seats' : List (JobSeat P keeper)} {doors doors' : List A} {visits : List (List Visit)} {ends : List DoorEnd} (o : Opening) (mark : ℕ) (o' : Opening) (mark' : ℕ) (js js' : List Entry) (ns : List ℕ)
      → DidShifts seen moment lock most seats seats' doors doors' visits ends → 2 ≤ length seats → js ≡ [] → All (IsNewJob lock (signed o mark (length js) js [])) seats → AreNumberedDown (length seats) seats
      → All (StandsJob (signed_last o' mark' js' ns)) seats' → All (IsBy (job_numbers seats')) (signed_last o' mark' js' ns) → length ns ≤ length js' → IsShared o mark o' mark' visits js'
  desk-shared o mark o' mark' js js' ns did two none fresh down stands by few =
      let xs = did.shifts in
      let long : length (map (λ (one : Shift A P keeper). one.seat_before) xs) ≡ length xs = length-map xs (λ (one : Shift A P keeper). one.seat_before) in
      subst (λ (visits : List (List Visit)). IsShared o mark o' mark' visits js') (sym did.visits_are)
      (several xs o mark o' mark' js js' ns did.each (omega (arith, two, ap length did.seats_are, long)) none
      (subst (All (IsNewJob lock (signed o mark (length js) js []))) did.seats_are fresh)
      (subst (λ n. AreNumberedDown n (map (λ (one : Shift A P keeper). one.seat_before) xs)) long (subst (λ (seats : List (JobSeat P keeper)). AreNumberedDown (length seats) seats) did.seats_are down))
      (subst (All (StandsJob (signed_last o' mark' js' ns))) did.seats_now stands)
      (subst (λ (seats : List (JobSeat P keeper)). All (IsBy (job_numbers seats)) (signed_last o' mark' js' ns)) did.seats_now by) few)
