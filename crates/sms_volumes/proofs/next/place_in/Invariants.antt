use Rattle.std.proofs.Common.{◌≡◌, drop}
use Rattle.std.specs.Prelude.{bytes_eq, find}
use Rattle.sms_volumes.proofs.next.place_in.Given as goal

-- the group is one of those that are left
abbrev pub invariant-loop-place : goal.invariant-loop-place
invariant-loop-place l = find (λ group. bytes_eq group.name l.name) (drop l.place l.groups) ≡ find (λ group. bytes_eq group.name l.name) l.groups
