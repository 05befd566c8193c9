-- The shifts of workers.
use Rattle.std.proofs.Common.{◌≡◌, ◌<◌, ℕ, suc, List, [], ◌∷◌, length, map, reverse, get_or, refl, sym, subst, ◌∙◌, ap}
use Rattle.std.proofs.Common.{arith}
use Rattle.std.specs.Prelude.{All, Option, Some, IsSome}
use Rattle.std.proofs.lemmas.List.{length-map, reverse-reverse}
use Rattle.std.proofs.lemmas.List.Elements.{All-cons, All-head, All-nil, All-tail}
use Rattle.atomic_table.specs.Seated.{TableId}
use Rattle.sms_base.specs.Observed.{Observed}
use Rattle.sms_keeper.specs.declared.keeper.Keeper.{Ghosts}
use Rattle.sms_desk.specs.declared.job_seat.JobSeat.{JobSeat}
use Rattle.sms_desk.specs.Seats.{IsJobOf}
use Rattle.http_talk.specs.declared.talk.Talk.{Talk}
use Rattle.serve_door.specs.declared.door_end.DoorEnd.{DoorEnd}
use Rattle.serve_door.specs.declared.door_end.DoorEnd.TheVariants as door_ends
use Rattle.serve_door.specs.declared.visit.Visit.{Visit}
use Rattle.serve_door.specs.Doors.{DoorMoment}
use Rattle.serve_door.specs.Visits.{WasServed}
use Rattle.serve_door.proofs.VisitLaws.{Serves-nil}
use Rattle.desk_http.specs.SeatTalks.{HasSubmitted, SeatView, view_of}
use Rattle.serve_calls.specs.ServeEnds.{AreServed, ServedDoor}
use Rattle.serve_calls.specs.declared.worker.Worker.{Worker}
use Rattle.serve_calls.specs.Inner.Workers.{DidShift, DidShifts, HasMost, HasSeat, IsAtSeat, IsShift, Shift, door_of}
use Rattle.serve_calls.specs.Inner.Workers.{end_of, seat_of, visits_of}
use Rattle.serve_calls.proofs.ManningLaws.{All-reverse, all-some, map-reverse}

module _ {P : Type 0} {keeper : Ghosts P} where
  -- the seat is still one of the desk
  pub job-through : (first last : SeatView) (lock : TableId) (before after : JobSeat P keeper) (talks : List Talk) → first ≡ view_of lock before → HasSubmitted first last talks
      → IsJobOf last.lock after → IsJobOf lock after
  job-through first last lock before after talks is went job = subst (λ l. IsJobOf l after) (went.lock ∙ ap (λ (v : SeatView). v.lock) is) job

  -- what was submitted from one bench to the other
  pub submitted-through : (first last : SeatView) (lock : TableId) (before after : JobSeat P keeper) (talks : List Talk) → first ≡ view_of lock before → last ≡ view_of last.lock after
      → HasSubmitted first last talks → HasSubmitted (view_of lock before) (view_of lock after) talks
  submitted-through first last lock before after talks is now went =
      let same : last.lock ≡ lock = went.lock ∙ ap (λ (v : SeatView). v.lock) is in
      let end : last ≡ view_of lock after = now ∙ ap (λ l. view_of l after) same in
      subst (λ (v : SeatView). HasSubmitted v (view_of lock after) talks) is (subst (λ (v : SeatView). HasSubmitted first v talks) end went)

-- nothing was served of a door
pub WasServed-nil : {C : Type 0} (seen : C → Observed) (most : ℕ) (door : DoorMoment C) → WasServed seen most door door [] door_ends.NoMemory
WasServed-nil seen most door = record { serves = Serves-nil seen door; few = omega arith; is_end = (refl, refl) }

-- a worker that has its seat
is_at_seat : {X : Type 0} (o : Option X) (x : X) → o ≡ Some x → IsSome o
is_at_seat {X} o x is = subst (λ (s : Option X). IsSome s) (sym is) refl

one-seat : {X : Type 0} (s : Option X) (x : X) (ss xs : List (Option X)) → s ∷ ss ≡ Some x ∷ xs → (s ≡ Some x) × (ss ≡ xs)
one-seat s x ss xs is = (cc, cc)

both : {X : Type 0} {x y : X} {xs ys : List X} → x ≡ y → xs ≡ ys → x ∷ xs ≡ y ∷ ys
both {X} {x} {y} {xs} {ys} is are = ap (λ z. z ∷ xs) is ∙ ap (λ zs. y ∷ zs) are

module _ {A P : Type 0} {keeper : Ghosts P} where
  -- the workers have the seats
  pub have-seats : (lock : TableId) (ws : List (Worker A P keeper)) (seats : List (JobSeat P keeper)) → map seat_of ws ≡ map (λ seat. Some seat) seats → All (IsJobOf lock) seats → All (HasSeat lock) ws
  have-seats lock [] seats are all = All-nil (HasSeat lock)
  have-seats lock (w ∷ ws) [] are all = absurd cc
  have-seats lock (w ∷ ws) (s ∷ seats) are all =
      let heads = one-seat w.seat s (map seat_of ws) (map (λ seat. Some seat) seats) are in
      All-cons (HasSeat lock) w ws (record { its = s; is = heads.0; job = All-head (IsJobOf lock) s seats all }) (have-seats lock ws seats heads.1 (All-tail (IsJobOf lock) s seats all))

  module _ {C : Type 0} (seen : C → Observed) (moment : A → DoorMoment C) (lock : TableId) (most : ℕ) where
    -- the workers before and after, and what they did
    record Collected (old new : List (Worker A P keeper)) : Type 0 where
      shifts : List (Shift A P keeper)
      each : All (IsShift seen moment lock most) shifts
      seats_are : map seat_of old ≡ map (λ seat. Some seat) (map (λ (one : Shift A P keeper). one.seat_before) shifts)
      seats_now : map seat_of new ≡ map (λ seat. Some seat) (map (λ (one : Shift A P keeper). one.seat_after) shifts)
      doors_are : map door_of old ≡ map (λ (one : Shift A P keeper). one.door_before) shifts
      doors_now : map door_of new ≡ map (λ (one : Shift A P keeper). one.door_after) shifts
      visits_are : map visits_of new ≡ map (λ (one : Shift A P keeper). one.visited) shifts
      ends_are : map end_of new ≡ map (λ (one : Shift A P keeper). one.ended) shifts

    collect : (old new : List (Worker A P keeper)) → length new ≡ length old → ((i : ℕ) (d : Worker A P keeper) → i < length old → DidShift seen moment lock (get_or old i d) (get_or new i d)) → All (HasMost most) old
        → Collected old new
    collect [] [] same did has = record { shifts = []; each = All-nil (IsShift seen moment lock most); seats_are = refl; seats_now = refl; doors_are = refl; doors_now = refl; visits_are = refl; ends_are = refl }
    collect [] (w ∷ new) same did has = absurd (omega (arith, same))
    collect (w ∷ old) [] same did has = absurd (omega (arith, same))
    collect (w ∷ old) (w' ∷ new) same did has =
        let first = did 0 w (omega arith) in
        let rest = collect old new (omega (arith, same)) (λ i d less. did (suc i) d (omega (arith, less))) (All-tail (HasMost most) w old has) in
        let one = first.one in
        record {
          shifts = one ∷ rest.shifts;
          each = All-cons (IsShift seen moment lock most) one rest.shifts (subst (λ n. IsShift seen moment lock n one) (All-head (HasMost most) w old has) first.done) rest.each;
          seats_are = both first.seat_is rest.seats_are;
          seats_now = both first.seat_now rest.seats_now;
          doors_are = both first.door_is rest.doors_are;
          doors_now = both first.door_now rest.doors_now;
          visits_are = both first.visits_are rest.visits_are;
          ends_are = both first.end_is rest.ends_are;
        }

    -- all who did their shifts are at their seats
    pub at-seats : (old new : List (Worker A P keeper)) → length new ≡ length old → ((i : ℕ) (d : Worker A P keeper) → i < length old → DidShift seen moment lock (get_or old i d) (get_or new i d)) → All IsAtSeat new
    at-seats old new same did = λ i d less. let one = did i d (omega (arith, same, less)) in is_at_seat _ one.one.seat_after one.seat_now

    -- what was handed out in turn and came back in turn is in order
    pub shifts-done : (old new : List (Worker A P keeper)) (seats seats' : List (JobSeat P keeper)) (doors doors' : List A) (visits : List (List Visit)) (ends : List DoorEnd)
        → length new ≡ length old → ((i : ℕ) (d : Worker A P keeper) → i < length old → DidShift seen moment lock (get_or old i d) (get_or new i d)) → All (HasMost most) old
        → map seat_of old ≡ reverse (map (λ seat. Some seat) seats) → map door_of old ≡ reverse doors
        → map (λ seat. Some seat) seats' ≡ reverse (map seat_of new) → doors' ≡ reverse (map door_of new) → visits ≡ reverse (map visits_of new) → ends ≡ reverse (map end_of new)
        → DidShifts seen moment lock most seats seats' doors doors' visits ends
    shifts-done old new seats seats' doors doors' visits ends same did has seats_are doors_are seats_now doors_now visits_now ends_now =
        let all = collect old new same did has in
        let shifts = all.shifts in
        record {
          shifts = reverse shifts;
          each = All-reverse (IsShift seen moment lock most) shifts all.each;
          seats_are = all-some seats (map (λ (one : Shift A P keeper). one.seat_before) (reverse shifts))
              (sym (reverse-reverse (map (λ seat. Some seat) seats)) ∙ ap reverse (sym seats_are ∙ all.seats_are) ∙ sym (map-reverse (λ (seat : JobSeat P keeper). Some seat) (map (λ (one : Shift A P keeper). one.seat_before) shifts))
              ∙ ap (map (λ (seat : JobSeat P keeper). Some seat)) (sym (map-reverse (λ (one : Shift A P keeper). one.seat_before) shifts)));
          seats_now = all-some seats' (map (λ (one : Shift A P keeper). one.seat_after) (reverse shifts))
              (seats_now ∙ ap reverse all.seats_now ∙ sym (map-reverse (λ (seat : JobSeat P keeper). Some seat) (map (λ (one : Shift A P keeper). one.seat_after) shifts))
              ∙ ap (map (λ (seat : JobSeat P keeper). Some seat)) (sym (map-reverse (λ (one : Shift A P keeper). one.seat_after) shifts)));
          doors_are = sym (reverse-reverse doors) ∙ ap reverse (sym doors_are ∙ all.doors_are) ∙ sym (map-reverse (λ (one : Shift A P keeper). one.door_before) shifts);
          doors_now = doors_now ∙ ap reverse all.doors_now ∙ sym (map-reverse (λ (one : Shift A P keeper). one.door_after) shifts);
          visits_are = visits_now ∙ ap reverse all.visits_are ∙ sym (map-reverse (λ (one : Shift A P keeper). one.visited) shifts);
          ends_are = ends_now ∙ ap reverse all.ends_are ∙ sym (map-reverse (λ (one : Shift A P keeper). one.ended) shifts);
        }

    -- as many seats come back
    pub same-count : {seats seats' : List (JobSeat P keeper)} {doors doors' : List A} {visits : List (List Visit)} {ends : List DoorEnd} → DidShifts seen moment lock most seats seats' doors doors' visits ends → length seats' ≡ length seats
    same-count did =
        ap length did.seats_now ∙ length-map did.shifts (λ (one : Shift A P keeper). one.seat_after) ∙ sym (length-map did.shifts (λ (one : Shift A P keeper). one.seat_before)) ∙ ap length (sym did.seats_are)

    jobs-of : (shifts : List (Shift A P keeper)) → All (IsShift seen moment lock most) shifts → All (IsJobOf lock) (map (λ (one : Shift A P keeper). one.seat_after) shifts)
    jobs-of [] each = All-nil (IsJobOf lock)
    jobs-of (x ∷ xs) each = All-cons (IsJobOf lock) x.seat_after (map (λ (one : Shift A P keeper). one.seat_after) xs) (All-head (IsShift seen moment lock most) x xs each).job (jobs-of xs (All-tail (IsShift seen moment lock most) x xs each))

    -- all seats are still of the desk
    pub jobs-after : {seats seats' : List (JobSeat P keeper)} {doors doors' : List A} {visits : List (List Visit)} {ends : List DoorEnd} → DidShifts seen moment lock most seats seats' doors doors' visits ends → All (IsJobOf lock) seats'
    jobs-after did = subst (All (IsJobOf lock)) (sym did.seats_now) (jobs-of did.shifts did.each)

    -- the door of a shift
    abbrev door-in : Shift A P keeper → ServedDoor C
    door-in one = record { before = moment one.door_before; after = moment one.door_after; visits = one.visited; end = one.ended }

    maps : {X Y : Type 0} (f : Shift A P keeper → X) (g : X → Y) (h : ServedDoor C → Y) → ((one : Shift A P keeper) → g (f one) ≡ h (door-in one)) → (xs : List (Shift A P keeper)) → map g (map f xs) ≡ map h (map door-in xs)
    maps f g h same [] = refl
    maps f g h same (x ∷ xs) = both (same x) (maps f g h same xs)

    maps-one : {Y : Type 0} (f : Shift A P keeper → Y) (h : ServedDoor C → Y) → ((one : Shift A P keeper) → f one ≡ h (door-in one)) → (xs : List (Shift A P keeper)) → map f xs ≡ map h (map door-in xs)
    maps-one f h same [] = refl
    maps-one f h same (x ∷ xs) = both (same x) (maps-one f h same xs)

    doors-of : (shifts : List (Shift A P keeper)) → All (IsShift seen moment lock most) shifts → All (λ (door : ServedDoor C). WasServed seen most door.before door.after door.visits door.end) (map door-in shifts)
    doors-of [] each = All-nil (λ (door : ServedDoor C). WasServed seen most door.before door.after door.visits door.end)
    doors-of (x ∷ xs) each = All-cons (λ (door : ServedDoor C). WasServed seen most door.before door.after door.visits door.end) (door-in x) (map door-in xs)
        (All-head (IsShift seen moment lock most) x xs each).served (doors-of xs (All-tail (IsShift seen moment lock most) x xs each))

    -- each door was served
    pub all-served : {seats seats' : List (JobSeat P keeper)} {doors doors' : List A} {visits : List (List Visit)} {ends : List DoorEnd} → DidShifts seen moment lock most seats seats' doors doors' visits ends
        → AreServed seen most (map moment doors) (map moment doors') visits ends
    all-served did = record {
      doors = map door-in did.shifts;
      old_are = ap (map moment) did.doors_are ∙ maps (λ one. one.door_before) moment (λ door. door.before) (λ one. refl) did.shifts;
      new_are = ap (map moment) did.doors_now ∙ maps (λ one. one.door_after) moment (λ door. door.after) (λ one. refl) did.shifts;
      visits_are = did.visits_are ∙ maps-one (λ one. one.visited) (λ door. door.visits) (λ one. refl) did.shifts;
      ends_are = did.ends_are ∙ maps-one (λ one. one.ended) (λ door. door.end) (λ one. refl) did.shifts;
      each = doors-of did.shifts did.each;
    }
