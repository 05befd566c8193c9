-- Connections in memory, and events that come by a script.
use Rattle.std.specs.Prelude.{ℕ, List, Option}
use Rattle.ready_wires.specs.Wires.{WireSeen}
use Rattle.ready_wires.specs.Events.{ReadySeen}
use Rattle.ready_wires.specs.declared.mem_wire.Turn.{Turn}

-- what is seen of it, the bytes that are left to read, how many it takes yet, and what its next calls come to
pub record WireInMemory : Type 0 where
  pub seen : WireSeen
  pub unread : List ℕ
  pub room : ℕ
  pub reads : List Turn
  pub writes : List Turn

-- what is seen of it, the connections that were handed back, the happenings to come, and the watches that fail
pub record ReadinessInMemory (H C : Type 0) : Type 0 where
  pub seen : ReadySeen
  pub back : Option (List C)
  pub script : List H
  pub watches : ℕ
  pub fails : List ℕ
