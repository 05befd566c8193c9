use Rattle.std.proofs.Common.{◌≡◌, drop}
use Rattle.acs_lint.specs.Entries.{entry_coverer}
use Rattle.acs_lint.proofs.entries.entry_coverer.Given as goal

-- none of the entries that were gone over covers the later one
abbrev pub invariant-loop-earlier : goal.invariant-loop-earlier
invariant-loop-earlier l = entry_coverer l.later (drop l.earlier-index l.before) ≡ entry_coverer l.later l.before
