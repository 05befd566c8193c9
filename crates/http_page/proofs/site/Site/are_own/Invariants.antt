-- The headers that are left decide.
use Rattle.std.proofs.Common.{◌≡◌, ◌≤◌, length, map}
use Rattle.std.specs.Prelude.{All}
use Rattle.std.specs.List.{list_all}
use Rattle.httparse.specs.Spans.{IsHeaderWithin, header_bytes}
use Rattle.http_page.specs.Sites.{is_own}
use Rattle.http_page.proofs.site.Site.are_own.Given as goal

abbrev pub invariant-loop-header : goal.invariant-loop-header
invariant-loop-header l = record {
  same : list_all (is_own l.self) (map (header_bytes l.buf) l.rest) ≡ list_all (is_own l.self) (map (header_bytes l.buf) l.headers);
  within : All (IsHeaderWithin (length l.buf)) l.rest;
  fewer : length l.rest ≤ length l.headers;
}

abbrev pub decreases-loop-header : goal.decreases-loop-header
decreases-loop-header l = length l.rest
