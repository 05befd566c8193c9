-- No control byte, no quote and no backslash.
use Rattle.std.proofs.Common.{arith}
use Rattle.json.proofs.Printed.Strings.{escape_byte_plain}
use Rattle.http_message.proofs.plain_member.is_plain.Goals as goal

pub returns-clause-itself : goal.returns-clause-itself
returns-clause-itself c = λ is. escape_byte_plain c.args.byte c.if-byte-eq34.false c.if-byte-eq92.false (omega (arith, c.if-byte-lt32.false))
