-- How a call ends that writes an answer to its sink and reads no source: each status and its cause.
use Rattle.std.specs.Prelude.{◌≡◌, ℕ, List, Option}
use Rattle.std.specs.Io.KnownBytes.{Appends}
use Rattle.desk_common.specs.Causes.{Rose}
use Rattle.desk_common.specs.Fronts.{IsProperPrefix}
use Rattle.tool_calls.specs.declared.status.ToolStatus.{ToolStatus}
use Rattle.tool_calls.specs.declared.status.ToolStatus.TheVariants.{Done, FaultFound, WriteFault, NoMemory}

-- what is told of a sink at one moment
pub record SinkSeen : Type 0 where
  pub taken : Option (List ℕ)
  pub faults : ℕ

-- what these tell of a sink
abbrev pub sink_seen : {K : Type 0} → (K → Option (List ℕ)) → (K → ℕ) → K → SinkSeen
sink_seen taken faults sink = record { taken = taken sink; faults = faults sink }

-- the sink took the whole of a text that is the answer with this status
pub record WasTold (answers : ToolStatus → List ℕ → Type 0) (old new : SinkSeen) (status : ToolStatus) : Type 0 where
  pub text : List ℕ
  pub answer : answers status text
  pub written : Appends old.taken new.taken text
  pub faults : new.faults ≡ old.faults

-- the sink took a proper front of an answer before its count of faults rose
pub record WasCutOff (answers : ToolStatus → List ℕ → Type 0) (old new : SinkSeen) : Type 0 where
  pub status : ToolStatus
  pub text : List ℕ
  pub front : List ℕ
  pub answer : answers status text
  pub proper : IsProperPrefix front text
  pub written : Appends old.taken new.taken front
  pub rose : Rose old.faults new.faults

-- what each status says of the sink before and after
abbrev pub EndsTold : (ToolStatus → List ℕ → Type 0) → SinkSeen → SinkSeen → ToolStatus → Type 0
EndsTold answers old new Done = WasTold answers old new Done
EndsTold answers old new FaultFound = WasTold answers old new FaultFound
EndsTold answers old new WriteFault = WasCutOff answers old new
EndsTold answers old new NoMemory = new ≡ old
EndsTold answers old new status = ⊥
