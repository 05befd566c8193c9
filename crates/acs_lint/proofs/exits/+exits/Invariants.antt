use Rattle.std.proofs.Common.{◌≡◌, drop}
use Rattle.std.specs.List.{list_all, list_any}
use Rattle.acs_trace.specs.Lint.{always_exits}
use Rattle.acs_lint.specs.Inner.Exits.{when_exits}
use Rattle.acs_lint.proofs.exits.+exits.Given as goal

-- none of the statements that were gone over always exits
abbrev pub invariant-block_exits-statements : goal.invariant-block_exits-statements
invariant-block_exits-statements l = list_any always_exits (drop l.inner-index l.block) ≡ list_any always_exits l.block

-- each of the WHENs that were gone over does
abbrev pub invariant-whens_exit-clauses : goal.invariant-whens_exit-clauses
invariant-whens_exit-clauses l = list_all when_exits (drop l.arm-index l.whens) ≡ list_all when_exits l.whens
