use Rattle.std.proofs.Common.{◌≡◌, ◌≤◌, take}
use Rattle.http_head.specs.Heads.{line_feeds}
use Rattle.http_head.proofs.all_headers.line_feeds.Given as goal

-- the line feeds so far
abbrev pub invariant-loop-byte : goal.invariant-loop-byte
invariant-loop-byte l = (l.count ≡ line_feeds (take l.byte-index l.buf)) × (l.count ≤ l.byte-index)
