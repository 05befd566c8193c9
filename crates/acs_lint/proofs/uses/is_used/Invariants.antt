use Rattle.std.proofs.Common.{◌≡◌, bytes_eq, drop, map}
use Rattle.std.specs.List.{list_any}
use Rattle.acs_lint.proofs.uses.is_used.Given as goal

-- none of the names that were gone over is this one
abbrev pub invariant-loop-other : goal.invariant-loop-other
invariant-loop-other l = list_any (bytes_eq l.name) (map (λ other. other.now) (drop l.other-index l.names)) ≡ list_any (bytes_eq l.name) (map (λ other. other.now) l.names)
