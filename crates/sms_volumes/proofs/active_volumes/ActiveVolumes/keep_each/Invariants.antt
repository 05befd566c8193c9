use Rattle.std.proofs.Common.{◌≡◌}
use Rattle.std.specs.List.{AllZip}
use Rattle.sms_volumes.specs.Changing.{HasChanged}
use Rattle.sms_volumes.proofs.PartLemmas.{kept_so_far}
use Rattle.sms_volumes.proofs.active_volumes.ActiveVolumes.keep_each.Given as goal

-- of the extents that were gone over only the kept ones stay
abbrev pub invariant-loop-place : goal.invariant-loop-place
invariant-loop-place l = record {
  groups : l.self.groups.items ≡ l.fn.self.groups.items;
  volumes : AllZip (HasChanged l.extents (kept_so_far l.place l.kept l.extents)) l.fn.self.volumes.items l.self.volumes.items;
}
