use Rattle.std.proofs.Common.{◌≡◌, drop}
use Rattle.http_head.specs.Inner.Feeds.{behind_empty}
use Rattle.http_head.proofs.all_headers.size_of_empty_lines.Given as goal

-- the bytes so far end empty lines
abbrev pub invariant-loop-at : goal.invariant-loop-at
invariant-loop-at l = behind_empty l.buf ≡ behind_empty (drop l.at l.buf)
