use Rattle.std.proofs.Common.{◌≡◌, length}
use Rattle.acs_lint.specs.Blocks.{behind_in}
use Rattle.acs_lint.proofs.blocks.push_behind.Given as goal

-- nothing was found yet, and the statements that were gone over fall through
abbrev pub invariant-statements : goal.invariant-statements
invariant-statements l = (l.found.items ≡ l.initial.found.items) × (behind_in l.left ≡ behind_in l.block)

abbrev pub decreases-statements : goal.decreases-statements
decreases-statements l = length l.left
