-- A day of space management on a store.
use Rattle.std.proofs.Common.{◌≡◌, ◌≤◌, ◌+◌, ◌-◌, ◌^◌, ℕ, List, [], Ok, Err, IfOk, IfErr, Result, Vec, Global, inl, inr, append-nil, refl, subst, sym}
use Rattle.std.specs.Prelude.{IsOkAnd, OnErr, Option, min}
use Rattle.std.specs.declared.alloc.AllocError.{AllocError}
use Rattle.sms_construct.specs.declared.entry.Entry.{Entry}
use Rattle.sms_keeper.specs.declared.rows.Rows.{Rows}
use Rattle.desk_law.specs.History.{IsLegal}
use Rattle.desk_law.specs.State.{Opening}
use Rattle.desk_records.specs.Tied.{IsSoundOpening, faults_in}
use Rattle.sms_core.specs.Core.{HasTables}
use Rattle.sms_manage.specs.Managed.{IsAsking, IsUnusedFrom, WasDayBegunFrom, WasManagedFrom, manager}
use Rattle.sms_manage.specs.ManageText.{managed_text}
use Rattle.sms_manage.specs.declared.act.Act.{Act}
use Rattle.sms_manage.proofs.SoFarLemmas.{whole-begun}
use Rattle.desk_calls.specs.Headline.{IsLawfulHistory, IsRecorded, Keeping}
use Rattle.desk_calls.specs.declared.status.RunStatus.{RunStatus}
use Rattle.desk_calls.specs.declared.status.RunStatus.TheVariants.{Done, BadWords, ReadFault, WriteFault, Script, TooLong, NoMemory}
use Rattle.store_calls.specs.Checked.{IsFreeFrom}
use Rattle.store_calls.specs.StoreDay.{DayEnds, IsDayLeft, IsDayTold, WasDay, WasDayCut}
use Rattle.store_calls.specs.StoreLists.{Seen}
use Rattle.store_calls.specs.Written.{TextEnds}

-- a number that is free in the rows is one from which the job has used none
pub free_unused : (o : Opening) (h : List Entry) (number : ℕ) → h ≡ [] → IsFreeFrom manager o.rows number → IsUnusedFrom o h number
free_unused o h number none free = rw none (record {
  floor = rw (append-nil o.rows.floors) free.floor;
  kept = λ n later. rw (append-nil o.rows.replies) (free.unkept n later);
})

-- legal histories behind a sound opening are lawful
abbrev pub AreLawful : Type 0
AreLawful = (o : Opening) (history : List Entry) → IsSoundOpening o → IsLegal o history → IsLawfulHistory o history

-- the keeper's count and tables go with the history
pub recorded_day : (o o' : Opening) (whole : List Entry) (before : Keeping) (mark count : ℕ) (told : Option Rows) → o' ≡ o → IsSoundOpening o → mark ≡ before.count → IsLegal o' whole
    → min (mark + faults_in whole) (2 ^ 64 - 1) ≤ count → HasTables o' whole told → AreLawful → IsRecorded o before (record { told = told; count = count }) whole
recorded_day o o' whole before mark count told opening sound mark_is legal counted tables lawful = record {
  lawful = lawful o whole sound (subst (λ (p : Opening). IsLegal p whole) opening legal);
  faults = subst (λ n. min (n + faults_in whole) (2 ^ 64 - 1) ≤ count) mark_is counted;
  tables = subst (λ (p : Opening). HasTables p whole told) opening tables;
}

module _ (o : Opening) (day : ℕ) (before after : Keeping) where
  -- the whole day was done
  pub whole_day : (r : Result (List Act) AllocError) (first : ℕ) (old whole : List Entry) → IsFreeFrom manager o.rows first → old ≡ [] → IsAsking old whole → IsRecorded o before after whole
      → IfOk r (λ acts. WasManagedFrom first o day old whole acts) → IfOk r (λ acts. WasDay o day before after acts)
  whole_day (Ok acts) first old whole free none asking recorded managed = record {
    first = first;
    free = free;
    history = whole;
    managed = subst (λ (h : List Entry). WasManagedFrom first o day h whole acts) none managed;
    asking = subst (λ (h : List Entry). IsAsking h whole) none asking;
    recorded = recorded;
  }
  whole_day (Err e) first old whole free none asking recorded managed = tt

  -- some of it was
  pub cut_day : (r : Result (List Act) AllocError) (first : ℕ) (old whole : List Entry) → IsFreeFrom manager o.rows first → old ≡ [] → IsAsking old whole → IsRecorded o before after whole
      → OnErr r (WasDayBegunFrom first o day old whole) → OnErr r (WasDayCut o day before after)
  cut_day (Ok acts) first old whole free none asking recorded begun = tt
  cut_day (Err e) first old whole free none asking recorded begun = record {
    first = first;
    free = free;
    history = whole;
    begun = subst (λ (h : List Entry). WasDayBegunFrom first o day h whole) none begun;
    asking = subst (λ (h : List Entry). IsAsking h whole) none asking;
    recorded = recorded;
  }

  -- a day that was done was begun
  done_begun : (acts : List Act) → WasDay o day before after acts → WasDayCut o day before after
  done_begun acts done = record {
    first = done.first;
    free = done.free;
    history = done.history;
    begun = whole-begun done.first o day [] done.history acts done.managed;
    asking = done.asking;
    recorded = done.recorded;
  }

  -- its text was made
  pub told_day : (r : Result (List Act) AllocError) (t : Result (Vec ℕ Global) AllocError) → IfOk r (λ acts. WasDay o day before after acts)
      → IfOk t (λ text. IsOkAnd r (λ acts. text.items ≡ managed_text acts)) → IfOk t (λ text. IsDayTold o day before after text.items)
  told_day (Ok acts) (Ok text) done is = record { acts = acts; done = done; told_is = is }
  told_day (Err e) (Ok text) done is = absurd is
  told_day (Ok acts) (Err e) done is = tt
  told_day (Err e) (Err f) done is = tt

  -- or memory was wanting
  pub left_day : (r : Result (List Act) AllocError) (t : Result (Vec ℕ Global) AllocError) → IfOk r (λ acts. WasDay o day before after acts) → OnErr r (WasDayCut o day before after)
      → OnErr t (IsDayLeft o day before after)
  left_day (Ok acts) (Ok text) done cut = tt
  left_day (Err e) (Ok text) done cut = tt
  left_day (Ok acts) (Err f) done cut = inr (done_begun acts done)
  left_day (Err e) (Err f) done cut = inr cut

  -- a text that was told, and the status of its writing
  told_ends : (old new : Seen) (text : List ℕ) (status : RunStatus) → IsDayTold o day before after text → TextEnds text old new status → DayEnds o day old new before after status
  told_ends old new text Done day_told ends = record { text = text; day_told = day_told; taken_whole = ends }
  told_ends old new text BadWords day_told ends = ends
  told_ends old new text ReadFault day_told ends = ends
  told_ends old new text WriteFault day_told ends = record { text = text; day_told = day_told; taken_front = ends }
  told_ends old new text (Script err) day_told ends = ends
  told_ends old new text TooLong day_told ends = ends
  told_ends old new text NoMemory day_told ends = (ends, inr (done_begun day_told.acts day_told.done))

  -- how the day ends
  pub day_ends : (old new : Seen) (t : Result (Vec ℕ Global) AllocError) (status : RunStatus) → IfOk t (λ text. IsDayTold o day before after text.items) → OnErr t (IsDayLeft o day before after)
      → OnErr t (status ≡ NoMemory) → ((whole : List ℕ) → IfOk t (λ text. text.items ≡ whole) → TextEnds whole old new status) → DayEnds o day old new before after status
  day_ends old new (Ok text) status told left wanting ends = told_ends old new text.items status told (ends text.items refl)
  day_ends old new (Err e) status told left wanting ends =
      let unwritten : TextEnds [] old new NoMemory = rw wanting at (ends [] tt) in
      subst (λ (s : RunStatus). DayEnds o day old new before after s) (sym wanting) (unwritten, left)
