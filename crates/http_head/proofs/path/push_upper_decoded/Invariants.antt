use Rattle.std.proofs.Common.{◌≡◌, ◌++◌, map}
use Rattle.std.specs.Char.{to_ascii_uppercase}
use Rattle.percent_encoding.specs.Iter.{decoded_bytes}
use Rattle.percent_encoding.specs.Percent.{percent_decode}
use Rattle.http_head.proofs.path.push_upper_decoded.Given as goal

-- with what is left, the text is the whole
abbrev pub invariant-loop-byte : goal.invariant-loop-byte
invariant-loop-byte l =
    (goal.iterator-loop-byte).can_next l.byte-iterator
    × (goal.iterator-loop-byte).is_finite l.byte-iterator
    × (l.text.items ++ map to_ascii_uppercase (decoded_bytes l.byte-iterator)
    ≡ l.fn.text.items ++ map to_ascii_uppercase (percent_decode l.fn.piece))
