use Rattle.std.proofs.Common.{◌≡◌, drop}
use Rattle.acs_lint.specs.Whens.{coverer}
use Rattle.acs_lint.proofs.whens.coverer.Given as goal

-- none of the WHENs that were gone over covers the later one
abbrev pub invariant-loop-earlier : goal.invariant-loop-earlier
invariant-loop-earlier l = coverer l.subject l.later (drop l.earlier-index l.before) ≡ coverer l.subject l.later l.before
