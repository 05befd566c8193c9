use Rattle.std.proofs.Common.{◌≡◌, ◌≤◌, ◌+◌, drop}
use Rattle.acs_tree.specs.Slates.{count_of}
use Rattle.acs_tree.proofs.slate.count_of.Given as goal

abbrev pub invariant-loop-line : goal.invariant-loop-line
invariant-loop-line l = (l.count + count_of l.kind (drop l.line-index l.lines) ≡ count_of l.kind l.lines) × (l.count ≤ l.line-index)
