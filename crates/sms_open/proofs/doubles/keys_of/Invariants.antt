use Rattle.std.proofs.Common.{◌≡◌, ◌++◌, drop, map}
use Rattle.sms_open.specs.Inner.Targets.{key_of_row}
use Rattle.sms_open.proofs.doubles.keys_of.Given as goal

-- the keys so far, and those of the replies that are left
abbrev pub invariant-loop-row : goal.invariant-loop-row
invariant-loop-row l = l.keys.items ++ map key_of_row (drop l.row-index l.replies) ≡ map key_of_row l.replies
