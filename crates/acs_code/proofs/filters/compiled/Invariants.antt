use Rattle.std.proofs.Common.{◌≡◌, ◌++◌, drop}
use Rattle.acs_code.specs.Compiled.{compiled_in}
use Rattle.acs_code.proofs.filters.compiled.Given as goal

abbrev pub invariant-loop-stmt : goal.invariant-loop-stmt
invariant-loop-stmt l = l.lists.items ++ compiled_in (drop l.stmt-index l.body) ≡ compiled_in l.body
