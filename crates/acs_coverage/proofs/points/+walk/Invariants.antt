use Rattle.std.proofs.Common.{◌≡◌, ◌++◌, take}
use Rattle.std.specs.Prelude.{flat_map}
use Rattle.acs_coverage.specs.Inner.Parts.{points_of_when}
use Rattle.acs_coverage.specs.Points.{points_in}
use Rattle.acs_coverage.proofs.points.+walk.Given as goal

-- the points of the statements that were gone over
abbrev pub invariant-block-statements : goal.invariant-block-statements
invariant-block-statements l = l.points.items ≡ l.initial.points.items ++ flat_map points_in (take l.inner-index l.body)

-- those of the WHENs that were gone over
abbrev pub invariant-when_clauses-clauses : goal.invariant-when_clauses-clauses
invariant-when_clauses-clauses l = l.points.items ≡ l.initial.points.items ++ flat_map (λ arm. points_of_when arm l.subject) (take l.arm-index l.whens)
