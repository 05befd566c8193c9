-- How serving doors ends.
use Rattle.std.proofs.Common.{◌≡◌, ℕ, List, [], ◌∷◌, ◌++◌, length, map, refl, ap, subst, ◌∙◌, inl, inr, arith}
use Rattle.std.proofs.Common.{append_assoc}
use Rattle.std.specs.Prelude.{All, slice_index_or, slice_set}
use Rattle.std.proofs.lemmas.List.Elements.{All-cons, All-nil, All-push, All-weaker}
use Rattle.sms_base.specs.Observed.{Observed}
use Rattle.serve_door.specs.declared.door_end.DoorEnd.{DoorEnd}
use Rattle.serve_door.specs.declared.door_end.DoorEnd.TheVariants as door_ends
use Rattle.serve_door.specs.declared.visit.Visit.{Visit}
use Rattle.serve_door.specs.Doors.{DoorMoment}
use Rattle.serve_door.specs.Visits.{WasServed}
use Rattle.serve_calls.specs.ServeEnds.{AllowsStatus, AreServed, IsOver, IsOverOrFailed, IsServeEnd, IsTold, ServedDoor}
use Rattle.serve_calls.specs.ServeEnds.{Writing}
use Rattle.serve_calls.specs.declared.status.ServeStatus.{ServeStatus}
use Rattle.serve_calls.specs.declared.status.ServeStatus.TheVariants.{AcceptFault, BadWords, Done, NoMemory, WriteFault}

only : {X : Type 0} (P : X → Type 0) (x : X) → P x → All P (x ∷ [])
only P x p = All-cons P x [] p (All-nil P)

-- the text of doors that ended so was told
pub told : (done : ServeStatus) (ends : List DoorEnd) (old new : Writing) (text : List ℕ) (status : ServeStatus) → AllowsStatus ends done → IsTold done old new text status → IsServeEnd ends old new text status
told Done ends old new text status allows (inl whole) = rw whole.0 (allows, whole.1)
told Done ends old new text status allows (inr (inl cut)) = rw cut.0 (All-weaker IsOver IsOverOrFailed (λ end over. inl over) ends allows, cut.1)
told Done ends old new text status allows (inr (inr wanting)) = rw wanting tt
told BadWords ends old new text status allows how = absurd allows
told WriteFault ends old new text status allows how = absurd allows
told NoMemory ends old new text status allows how = absurd allows
told AcceptFault ends old new text status allows (inl whole) = rw whole.0 (allows.0, allows.1, whole.1)
told AcceptFault ends old new text status allows (inr (inl cut)) = rw cut.0 (allows.0, cut.1)
told AcceptFault ends old new text status allows (inr (inr wanting)) = rw wanting tt

-- one more door is over
pub one-over : (ends : List DoorEnd) (end : DoorEnd) (done : ServeStatus) → IsOver end → AllowsStatus ends done → AllowsStatus (ends ++ end ∷ []) done
one-over ends end Done over allows = All-push IsOver ends end allows over
one-over ends end BadWords over allows = allows
one-over ends end WriteFault over allows = allows
one-over ends end NoMemory over allows = allows
one-over ends end AcceptFault over allows = (
  All-push IsOverOrFailed ends end allows.0 (inl over),
  record {
    before = allows.1.before;
    behind = allows.1.behind ++ end ∷ [];
    failed = ap (λ l. l ++ end ∷ []) allows.1.failed ∙ append_assoc allows.1.before (door_ends.AcceptFault ∷ allows.1.behind) (end ∷ []);
  },
)

all-allowed : (ends : List DoorEnd) (done : ServeStatus) → AllowsStatus ends done → All IsOverOrFailed ends
all-allowed ends Done allows = All-weaker IsOver IsOverOrFailed (λ end over. inl over) ends allows
all-allowed ends BadWords allows = absurd allows
all-allowed ends WriteFault allows = absurd allows
all-allowed ends NoMemory allows = absurd allows
all-allowed ends AcceptFault allows = allows.0

-- one more door failed
pub one-failed : (ends : List DoorEnd) (done : ServeStatus) → AllowsStatus ends done → AllowsStatus (ends ++ door_ends.AcceptFault ∷ []) AcceptFault
one-failed ends done allows = (All-push IsOverOrFailed ends door_ends.AcceptFault (all-allowed ends done allows) (inr refl), record { before = ends; behind = []; failed = refl })

-- the one door of a list was served
pub AreServed-one : {C X : Type 0} (seen : C → Observed) (most : ℕ) (moment : X → DoorMoment C) (doors : List X) (old new : X) (visits : List Visit) (end : DoorEnd)
    → length doors ≡ 1 → old ≡ slice_index_or doors 0 old → WasServed seen most (moment old) (moment new) visits end
    → AreServed seen most (map moment doors) (map moment (slice_set doors 0 new)) (visits ∷ []) (end ∷ [])
AreServed-one seen most moment [] old new visits end one is served = absurd (omega (arith, one))
AreServed-one {C} {X} seen most moment (x ∷ []) old new visits end one is served =
    let door : ServedDoor C = record { before = moment old; after = moment new; visits = visits; end = end } in
    subst (λ (d : X). AreServed seen most (moment d ∷ []) (moment new ∷ []) (visits ∷ []) (end ∷ [])) is
    (record {
      doors = door ∷ [];
      old_are = refl;
      new_are = refl;
      visits_are = refl;
      ends_are = refl;
      each = only (λ (one : ServedDoor C). WasServed seen most one.before one.after one.visits one.end) door served;
    })
AreServed-one seen most moment (x ∷ y ∷ doors) old new visits end one is served = absurd (omega (arith, one))
