use Rattle.std.proofs.Common.{◌≡◌, ◌≤◌, ◌+◌, take}
use Rattle.fault_notes.specs.Inner.Places.{column_behind}
use Rattle.fault_notes.proofs.place.column_behind.Given as goal

-- the column behind the bytes that were gone over
abbrev pub invariant-loop-byte : goal.invariant-loop-byte
invariant-loop-byte l = (l.column ≡ column_behind (take l.byte-index l.text)) × (1 ≤ l.column) × (l.column ≤ l.byte-index + 1)
