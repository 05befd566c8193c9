-- When the running state stands for a state of the desk.
use Rattle.std.specs.Prelude.{ℕ, ◌≡◌, List}
use Rattle.desk_law.specs.State.{DeskState, set_named}
use Rattle.desk_law.specs.Lawful.{IsLawful}
use Rattle.sms_volumes.specs.Holding.{AreVolumesOf}
use Rattle.desk_state.specs.Catalog.{set_in}
use Rattle.desk_state.specs.declared.running.Running.{Running}

-- the same activations, the same configuration, its volumes as they stand, and each name finds its data set
pub record IsRunning (s : DeskState) (running : Running) : Type 0 where
  pub activations : running.activations ≡ s.activations
  pub active : running.config ≡ s.active
  pub volumes : AreVolumesOf s running.volumes
  pub sets : (dsn : List ℕ) → set_in dsn running.catalog.sets ≡ set_named dsn s.sets

-- it stands for some lawful state
pub record IsSomeState (running : Running) : Type 0 where
  pub state : DeskState
  pub lawful : IsLawful state
  pub stands : IsRunning state running
