use Rattle.std.proofs.Common.{◌≡◌, drop}
use Rattle.std.specs.Prelude.{Bool}
use Rattle.acs_code.specs.Compiled.{compiled_comparand}
use Rattle.acs_code.proofs.lists.list_place.Given as goal

abbrev pub invariant-loop-place : goal.invariant-loop-place
invariant-loop-place l = (whole : Bool) → compiled_comparand whole (drop l.place l.lists) l.name ≡ compiled_comparand whole l.lists l.name
