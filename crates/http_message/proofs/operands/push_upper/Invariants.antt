use Rattle.std.proofs.Common.{◌≡◌, ◌++◌, take, map}
use Rattle.std.specs.Char.{to_ascii_uppercase}
use Rattle.http_message.proofs.operands.push_upper.Given as goal

-- the bytes so far
abbrev pub invariant-loop-byte : goal.invariant-loop-byte
invariant-loop-byte l = l.text.items ≡ l.initial.text.items ++ map to_ascii_uppercase (take l.byte-index l.bytes)
