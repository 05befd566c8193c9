-- What contracts see of a link, a door and a sink by what these tell.
use Rattle.std.specs.Prelude.{ℕ, Bool, List, Option}
use Rattle.sms_base.specs.Observed.{Observed}
use Rattle.serve_door.specs.Doors.{DoorMoment}
use Rattle.serve_calls.specs.ServeEnds.{Writing}

-- what these tell of a link, from which is read and to which is written
abbrev pub seen_link : {C : Type 0} → (C → Option (List ℕ)) → (C → Option ℕ) → (C → ℕ) → (C → Option (List ℕ)) →
    (C → ℕ) → C → Observed
seen_link left reads read_faults taken write_faults =
    λ link. record {
      left = left link;
      reads = reads link;
      read_faults = read_faults link;
      taken = taken link;
      write_faults = write_faults link;
    }

-- what these tell of a door
abbrev pub seen_door : {A C : Type 0} → (A → Option ℕ) → (A → ℕ) → (A → Bool) → (A → ℕ) → (A → ℕ) →
    (A → Option (List C)) → (A → Option (List C)) → A → DoorMoment C
seen_door asked given ended door_faults link_faults waiting back =
    λ door. record {
      asked = asked door;
      given = given door;
      ended = ended door;
      door_faults = door_faults door;
      link_faults = link_faults door;
      waiting = waiting door;
      back = back door;
    }

-- what these tell of a sink
abbrev pub seen_sink : {K : Type 0} → (K → Option (List ℕ)) → (K → ℕ) → K → Writing
seen_sink taken faults sink = record { taken = taken sink; faults = faults sink }
