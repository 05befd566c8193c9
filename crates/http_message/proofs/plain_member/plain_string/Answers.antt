-- The quote ends the bytes.
use Rattle.std.proofs.Common.{add-one}
use Rattle.std.proofs.lemmas.List.{take_rest}
use Rattle.http_message.proofs.AsciiLemmas.{ascii_from}
use Rattle.http_message.proofs.MemberLemmas.{quote_at}
use Rattle.http_message.proofs.plain_member.plain_string.Goals as goal

pub returns-then-byte-eq34-clause-cut : goal.returns-then-byte-eq34-clause-cut
returns-then-byte-eq34-clause-cut c =
    rw (take_rest, add-one) (quote_at c.args.text.now c.loop-at.at c.loop-at.invariant.itself c.loop-at-test.true c.if-byte-eq34.true)

pub returns-then-byte-eq34-clause-ascii : goal.returns-then-byte-eq34-clause-ascii
returns-then-byte-eq34-clause-ascii c =
    rw (take_rest, add-one) (ascii_from c.args.text.now c.loop-at.at c.loop-at.invariant.ascii c.if-byte-eq34.true)
