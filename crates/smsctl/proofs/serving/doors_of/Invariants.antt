use Rattle.std.proofs.Common.{◌≡◌, ◌≤◌, length}
use Rattle.smsctl.proofs.serving.doors_of.Given as goal

-- there are as many doors as were counted
abbrev pub invariant-loop : goal.invariant-loop
invariant-loop l = (length l.doors.items ≡ l.counter) × (l.counter ≤ l.count)
