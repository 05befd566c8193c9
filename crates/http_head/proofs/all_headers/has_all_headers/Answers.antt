-- The lines are tested at the one line feed that can end them.
use Rattle.std.proofs.Common.{arith, rules}
use Rattle.http_head.proofs.LastFeed.{at_last, no_last, past_last}
use Rattle.http_head.proofs.all_headers.has_all_headers.Goals as goal

pub returns-in_default : goal.returns-in_default
returns-in_default c =
    let empty = c.size_of_empty_lines-empty in
    (λ t. absurd (cc t), λ h. absurd (no_last c.args.buf.now empty.result empty.ensures.behind (search rules) h))

pub returns-then-empty-at-lt-MAX_HEAD : goal.returns-then-empty-at-lt-MAX_HEAD
returns-then-empty-at-lt-MAX_HEAD c =
    let empty = c.size_of_empty_lines-empty in
    at_last c.args.buf.now empty.result c.in-Some.at c.are_all_headers.result empty.ensures.fits empty.ensures.behind (search rules) c.if-empty-at-lt-MAX_HEAD.true c.are_all_headers.ensures

pub returns-else-empty-at-lt-MAX_HEAD : goal.returns-else-empty-at-lt-MAX_HEAD
returns-else-empty-at-lt-MAX_HEAD c =
    let empty = c.size_of_empty_lines-empty in
    let past = c.if-empty-at-lt-MAX_HEAD.false in
    (λ t. absurd (grind (arith, past)), λ h. absurd (past_last c.args.buf.now empty.result c.in-Some.at empty.ensures.fits empty.ensures.behind (search rules) past h))
