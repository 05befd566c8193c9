-- What a seat knows after its turn.
use Rattle.std.proofs.Common.{◌≡◌, inl, inr, ℕ, ◌<◌, ◌++◌, true, false, List, [], length, length-append, append-nil}
use Rattle.std.proofs.Common.{append_assoc, refl, sym, ap, subst, ◌∙◌, arith}
use Rattle.std.specs.Prelude.{Option, Some}
use Rattle.atomic_table.specs.Seated.{TableId}
use Rattle.sms_construct.specs.Configuration.{Configuration}
use Rattle.sms_construct.specs.declared.entry.Answer.{Answer}
use Rattle.sms_construct.specs.declared.entry.Entry.{Entry}
use Rattle.sms_construct.specs.declared.reply.Reply.TheVariants as replies
use Rattle.sms_construct.specs.declared.request.Request.{Request}
use Rattle.sms_keeper.specs.declared.keeper.Keeper.{Ghosts}
use Rattle.turn_lock.specs.declared.seat.Seat.{Seat}
use Rattle.turn_lock.specs.declared.signed.Signed.{Signed}
use Rattle.turn_lock.specs.Contract.{IsOf, mine, seen}
use Rattle.turn_lock.specs.Views.{IsMine, StartsWith, made_by}
use Rattle.desk_law.specs.State.{Opening}
use Rattle.desk_law.specs.History.{IsLegal}
use Rattle.desk_law.specs.Kept.{is_entered}
use Rattle.sms_core.specs.Core.{entry_of}
use Rattle.desk_signing.specs.declared.event.Event.{Event}
use Rattle.desk_signing.specs.Signing.{IsLegalList, by_seat, entries_in, events}
use Rattle.desk_signing.proofs.SignLemmas.{by_seat_mine, mine_more, opening-starts, signed_entries}
use Rattle.sms_desk.specs.declared.held.Held.{Held}
use Rattle.sms_desk.specs.declared.job_seat.JobSeat.{JobSeat}
use Rattle.sms_desk.specs.declared.signed_core.SignedCore.{SignedCore}
use Rattle.sms_desk.specs.Holding.{GoesOn, IsCurrent, IsHolding, IsOwn}
use Rattle.sms_desk.specs.Signed.{Adds, list_of}
use Rattle.sms_desk.specs.Seats.{HasLooked, HoldsNow, HoldsOf, IsJobOf, IsSeated, KeepsUp, Submitted, TookTurn}
use Rattle.sms_desk.specs.Seats.{job_mine, job_number, job_seen, mine_of, number_at, seen_at}
use Rattle.sms_desk.proofs.AddLemmas.{adds-goes-on, adds-nothing}
use Rattle.sms_desk.proofs.HoldLemmas.{current-holding}

-- a list that goes on has begun
pub begun-starts : (list seen : List (Signed Event)) → StartsWith list seen → 0 < length seen → 0 < length list
begun-starts list seen starts some = let longer = ap length starts.1 ∙ length-append seen starts.0 in omega (arith, longer, some)

kept-up : (list : List (Signed Event)) (old middle new : Option Held) (answer : Answer) → middle ≡ old → KeepsUp list middle new answer → KeepsUp list old new answer
kept-up list old middle new answer same keeps = subst (λ h. KeepsUp list h new answer) same keeps

module _ {P : Type 0} {keeper : Ghosts P} where
  -- the journal of a core is legal, and so is its signed list
  pub legal-list : (v : SignedCore P keeper) → IsLegal v.core.opening v.core.journal → IsLegalList (list_of v)
  legal-list v legal = rw (signed_entries v.core.opening v.core.mark v.before v.core.journal v.numbers.items) legal

  -- what is held of the core's journal is held of its signed list, and the other way round
  pub list-holding : (v : SignedCore P keeper) (held : Option Held) → IsHolding v.core.opening v.core.journal held → HoldsOf (list_of v) held
  list-holding v held is = rw (signed_entries v.core.opening v.core.mark v.before v.core.journal v.numbers.items) is

  pub holding-list : (v : SignedCore P keeper) (held : Option Held) → HoldsOf (list_of v) held → IsHolding v.core.opening v.core.journal held
  holding-list v held is = rw (signed_entries v.core.opening v.core.mark v.before v.core.journal v.numbers.items) at is

  pub list-current : (v : SignedCore P keeper) (held : Option Held) → IsCurrent v.core.opening v.core.journal held → HoldsNow (list_of v) held
  list-current v held is = rw (signed_entries v.core.opening v.core.mark v.before v.core.journal v.numbers.items) is

  -- a step leaves the opening, and the core's journal goes on
  pub core-goes-on : (v w : SignedCore P keeper) (number : ℕ) (request : Request) (answer : Answer) → Adds (list_of v) (list_of w) number request answer
      → (w.core.opening ≡ v.core.opening) × GoesOn w.core.opening v.core.journal w.core.journal request answer
  core-goes-on v w number request answer adds =
      let same : w.core.opening ≡ v.core.opening = opening-starts (list_of w) (list_of v) (by_seat number (entry_of request answer), adds.list_is) (omega arith) in
      let goes : GoesOn v.core.opening (entries_in (list_of v)) (entries_in (list_of w)) request answer = adds-goes-on (list_of v) (list_of w) number request answer adds in
      let there : GoesOn v.core.opening v.core.journal w.core.journal request answer =
      rw (signed_entries v.core.opening v.core.mark v.before v.core.journal v.numbers.items, signed_entries w.core.opening w.core.mark w.before w.core.journal w.numbers.items) at goes in
      (same, subst (λ (o : Opening). GoesOn o v.core.journal w.core.journal request answer) (sym same) there)

  -- A turn that ends.

  -- the seat comes back from a turn
  pub took-turn : (lock : TableId) (number k : ℕ) (list after : List (Signed Event)) (seat : Seat (SignedCore P keeper) Event) (old new : Option Held) (request : Request) (answer : Answer)
      → IsOf lock seat → seat.number ≡ k → k ≡ number → seen seat ≡ after → mine seat ≡ made_by k after → Adds list after number request answer → IsLegalList after → HoldsOf after new → KeepsUp after old new answer
      → TookTurn lock number list seat old new request answer
  took-turn lock number k list after seat old new request answer of is same seen_is mine_is adds legal holding held = record {
    of = of;
    number_is = is ∙ same;
    adds = rw seen_is adds;
    mine_is = mine_is ∙ ap (λ n. made_by n after) same ∙ ap (made_by number) (sym seen_is);
    legal = rw seen_is legal;
    holding = rw seen_is holding;
    held = rw seen_is held;
  }

  -- memory was wanting before the step
  pub refused-turn : (lock : TableId) (number k : ℕ) (v : SignedCore P keeper) (seat : Seat (SignedCore P keeper) Event) (old new : Option Held) (request : Request) (answer : Answer)
      → IsOf lock seat → seat.number ≡ k → k ≡ number → seen seat ≡ list_of v → mine seat ≡ made_by k (list_of v) → answer ≡ record { place = 0; first = 0; reply = replies.Memory }
      → IsLegal v.core.opening v.core.journal → HoldsOf (list_of v) old → new ≡ old → TookTurn lock number (list_of v) seat old new request answer
  refused-turn lock number k v seat old new request answer of is same seen_is mine_is none legal holding kept =
      took-turn lock number k (list_of v) (list_of v) seat old new request answer of is same seen_is mine_is (adds-nothing (list_of v) number request answer none) (legal-list v legal) (rw kept holding)
      (record { entered = λ entered. (let no : false ≡ true = subst (λ (a : Answer). is_entered a.reply ≡ true) none entered in absurd cc); not_entered = λ _. inr kept })

  -- the step was made
  pub stepped-turn : (lock : TableId) (number k : ℕ) (v w : SignedCore P keeper) (seat : Seat (SignedCore P keeper) Event) (old middle new : Option Held) (own : Option Configuration) (request : Request) (answer : Answer)
      → IsOf lock seat → seat.number ≡ k → k ≡ number → seen seat ≡ list_of w → mine seat ≡ made_by k (list_of w) → Adds (list_of v) (list_of w) number request answer → HoldsOf (list_of v) old
      → (IsHolding v.core.opening v.core.journal old → IsCurrent v.core.opening v.core.journal middle) → IsOwn request own → IsLegal w.core.opening w.core.journal
      → ((h : List Entry) (asked : Request) (told : Answer) → GoesOn w.core.opening h w.core.journal asked told → IsOwn asked own → IsCurrent w.core.opening h middle → IsCurrent w.core.opening w.core.journal new)
      → TookTurn lock number (list_of v) seat old new request answer
  stepped-turn lock number k v w seat old middle new own request answer of is same seen_is mine_is adds holding fresh is_own legal renews =
      let goes = core-goes-on v w number request answer adds in
      let first : IsCurrent v.core.opening v.core.journal middle = fresh (holding-list v old holding) in
      let now : IsCurrent w.core.opening w.core.journal new = renews v.core.journal request answer goes.1 is_own (subst (λ (o : Opening). IsCurrent o v.core.journal middle) (sym goes.0) first) in
      took-turn lock number k (list_of v) (list_of w) seat old new request answer of is same seen_is mine_is adds (legal-list w legal)
      (list-holding w new (current-holding w.core.opening w.core.journal new legal now))
      (record { entered = λ _. list-current w new now; not_entered = λ _. inl (list-current w new now) })

  -- what may be given back after a step
  pub may-give : (number k : ℕ) (v u w : SignedCore P keeper) (began : List (Signed Event)) (request : Request) (answer : Answer) → k ≡ number → began ≡ list_of v → u ≡ v → Adds (list_of u) (list_of w) number request answer
      → (more : List (Signed Event)) × (list_of w ≡ began ++ more) × IsMine k more
  may-give number k v u w began request answer same untouched value adds =
      let more = by_seat number (entry_of request answer) in
      (more, adds.list_is ∙ ap (λ (x : SignedCore P keeper). list_of x ++ more) value ∙ ap (λ list. list ++ more) (sym untouched), subst (λ n. IsMine n more) (sym same) (by_seat_mine number (entry_of request answer)))

  -- the same turn, whose value was looked at before the step and behind it
  pub shown-turn : (lock : TableId) (number k : ℕ) (v u s w t : SignedCore P keeper) (seat : Seat (SignedCore P keeper) Event) (old middle new : Option Held) (own : Option Configuration) (request : Request) (answer : Answer)
      → u ≡ v → s ≡ v → t ≡ w
      → IsOf lock seat → seat.number ≡ k → k ≡ number → seen seat ≡ list_of w → mine seat ≡ made_by k (list_of w) → Adds (list_of u) (list_of w) number request answer → HoldsOf (list_of v) old
      → (IsHolding s.core.opening s.core.journal old → IsCurrent s.core.opening s.core.journal middle) → IsOwn request own → IsLegal t.core.opening t.core.journal
      → ((h : List Entry) (asked : Request) (told : Answer) → GoesOn t.core.opening h t.core.journal asked told → IsOwn asked own → IsCurrent t.core.opening h middle → IsCurrent t.core.opening t.core.journal new)
      → TookTurn lock number (list_of v) seat old new request answer
  shown-turn lock number k v u s w t seat old middle new own request answer value first second of is same seen_is mine_is adds holding fresh is_own legal renews =
      stepped-turn lock number k v w seat old middle new own request answer of is same seen_is mine_is
      (subst (λ (x : SignedCore P keeper). Adds (list_of x) (list_of w) number request answer) value adds) holding
      (subst (λ (x : SignedCore P keeper). IsHolding x.core.opening x.core.journal old → IsCurrent x.core.opening x.core.journal middle) first fresh) is_own
      (subst (λ (x : SignedCore P keeper). IsLegal x.core.opening x.core.journal) second legal)
      (subst (λ (x : SignedCore P keeper). (h : List Entry) (asked : Request) (told : Answer) → GoesOn x.core.opening h x.core.journal asked told → IsOwn asked own → IsCurrent x.core.opening h middle → IsCurrent x.core.opening x.core.journal new) second renews)

  -- A seat after a turn.

  -- what is known of the lock's seat while it lay with the worker's
  pub record Lay (lock : TableId) (j : JobSeat P keeper) (free : Seat (SignedCore P keeper) Event) : Type 0 where
    pub seen_is : job_seen j ≡ seen free
    pub mine_is : job_mine j ≡ mine free
    pub number_is : job_number j ≡ free.number
    pub of : IsOf lock free

  pub lay : (lock : TableId) (j : JobSeat P keeper) (free : Seat (SignedCore P keeper) Event) → j.seat ≡ Some free → IsJobOf lock j → Lay lock j free
  lay lock j free is job = record { seen_is = ap seen_at is; mine_is = ap mine_of is; number_is = ap number_at is; of = subst (IsSeated lock) is job.seated }

  pub begun-turn : (lock : TableId) (j : JobSeat P keeper) (free : Seat (SignedCore P keeper) Event) (list : List (Signed Event)) → j.seat ≡ Some free → StartsWith list (seen free) → StartsWith list (job_seen j)
  begun-turn lock j free list is starts = rw (ap seen_at is) starts

  -- the seat has the answer
  pub turn-submitted : (lock : TableId) (old new : JobSeat P keeper) (free back : Seat (SignedCore P keeper) Event) (list : List (Signed Event)) (number : ℕ) (request : Request) (answer : Answer)
      → old.seat ≡ Some free → new.seat ≡ Some back → new.answers ≡ old.answers → IsJobOf lock old → StartsWith list (seen free) → made_by free.number list ≡ mine free → number ≡ free.number
      → TookTurn lock number list back old.held new.held request answer → Submitted lock old new request answer
  turn-submitted lock old new free back list number request answer was is answers job starts own same took =
      let lay_old = lay lock old free was job in
      let seen_new : job_seen new ≡ seen back = ap seen_at is in
      let mine_new : job_mine new ≡ mine back = ap mine_of is in
      let number_new : job_number new ≡ back.number = ap number_at is in
      let number_is : number ≡ job_number old = same ∙ sym lay_old.number_is in
      let starts_old : StartsWith list (job_seen old) = rw lay_old.seen_is starts in
      let went : StartsWith (seen back) list = (by_seat number (entry_of request answer), took.adds.list_is) in
      record {
        job = record {
          seated = subst (IsSeated lock) (sym is) took.of;
          begun = rw seen_new (begun-starts (seen back) list went (begun-starts list (job_seen old) starts_old job.begun));
          legal = rw seen_new took.legal;
          holding = rw seen_new took.holding;
        };
        number = number_new ∙ took.number_is ∙ number_is;
        answers = answers;
        did = record { between = starts_old.0; adds = rw (← starts_old.1, seen_new, ← number_is) took.adds };
        mine = mine_new ∙ took.mine_is ∙ ap (made_by number) took.adds.list_is ∙ mine_more number list (entry_of request answer)
            ∙ ap (λ es. es ++ events (entry_of request answer)) (ap (λ n. made_by n list) same ∙ own ∙ sym lay_old.mine_is);
        held = rw seen_new took.held;
      }

  -- the seat has seen more
  pub turn-looked : (lock : TableId) (old new : JobSeat P keeper) (free back : Seat (SignedCore P keeper) Event) (list : List (Signed Event)) (k : ℕ)
      → old.seat ≡ Some free → new.seat ≡ Some back → new.answers ≡ old.answers → new.held ≡ old.held → IsJobOf lock old → StartsWith list (seen free) → made_by free.number list ≡ mine free
      → IsOf lock back → back.number ≡ k → k ≡ free.number → seen back ≡ list → mine back ≡ made_by k list → IsLegalList list → HoldsOf list old.held → HasLooked lock old new
  turn-looked lock old new free back list k was is answers held job starts own of number same seen_is mine_is legal holding =
      let lay_old = lay lock old free was job in
      let seen_new : job_seen new ≡ list = ap seen_at is ∙ seen_is in
      let starts_old : StartsWith list (job_seen old) = rw lay_old.seen_is starts in
      record {
        job = record {
          seated = subst (IsSeated lock) (sym is) of;
          begun = rw seen_new (begun-starts list (job_seen old) starts_old job.begun);
          legal = rw seen_new legal;
          holding = rw (seen_new, held) holding;
        };
        number = ap number_at is ∙ number ∙ same ∙ sym lay_old.number_is;
        answers = answers;
        seen_more = rw seen_new starts_old;
        mine = ap mine_of is ∙ mine_is ∙ ap (λ n. made_by n list) same ∙ own ∙ sym lay_old.mine_is;
        held = held;
      }

  -- Answers without a turn, and after one that was given back.

  -- memory was wanting before any turn
  pub nothing-submitted : (lock : TableId) (j : JobSeat P keeper) (request : Request) (answer : Answer) → IsJobOf lock j → answer ≡ record { place = 0; first = 0; reply = replies.Memory } → Submitted lock j j request answer
  nothing-submitted lock j request answer job none = record {
    job = job;
    number = refl;
    answers = refl;
    did = record { between = []; adds = rw append-nil (adds-nothing (job_seen j) (job_number j) request answer none) };
    mine = rw none (sym (append-nil (job_mine j)));
    held = record { entered = λ entered. (let no : false ≡ true = subst (λ (a : Answer). is_entered a.reply ≡ true) none entered in absurd cc); not_entered = λ _. inr refl };
  }

  -- the seat had looked, and then it has the answer
  pub looked-submitted : (lock : TableId) (old middle new : JobSeat P keeper) (request : Request) (answer : Answer) → HasLooked lock old middle → Submitted lock middle new request answer → Submitted lock old new request answer
  looked-submitted lock old middle new request answer looked done =
      let whole : job_seen middle ++ done.did.between ≡ job_seen old ++ (looked.seen_more.0 ++ done.did.between) =
      ap (λ xs. xs ++ done.did.between) looked.seen_more.1 ∙ append_assoc (job_seen old) looked.seen_more.0 done.did.between in
      record {
        job = done.job;
        number = done.number ∙ looked.number;
        answers = done.answers ∙ looked.answers;
        did = record { between = looked.seen_more.0 ++ done.did.between; adds = rw (← whole, ← looked.number) done.did.adds };
        mine = done.mine ∙ ap (λ es. es ++ events (entry_of request answer)) looked.mine;
        held = kept-up (job_seen new) old.held middle.held new.held answer looked.held done.held;
      }
