use Rattle.std.proofs.Common.{◌≡◌, ◌≤◌, take}
use Rattle.http_head.specs.Heads.{line_feeds}
use Rattle.http_head.proofs.all_headers.nth_line_feed.Given as goal

-- the line feeds so far
abbrev pub invariant-loop-at : goal.invariant-loop-at
invariant-loop-at l = (l.before ≡ line_feeds (take l.at l.text)) × (l.before ≤ l.count)
