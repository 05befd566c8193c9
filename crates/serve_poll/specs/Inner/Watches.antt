-- What watching a connection again leaves.
use Rattle.std.specs.Prelude.{◌≡◌}
use Rattle.ready_wires.specs.declared.watch.Watch.{Watch}

-- it is watched under the same key, since it was first
pub record IsSameWatch (old new : Watch) : Type 0 where
  pub key : new.key ≡ old.key
  pub since : new.since ≡ old.since
