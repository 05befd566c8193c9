-- No control byte, no quote and no backslash.
use Rattle.std.proofs.Common.{arith}
use Rattle.json.proofs.Printed.Strings.{escape_byte_plain}
use Rattle.json_text.proofs.quoting.is_plain.Goals as goal

pub returns-then-byte-lt92 : goal.returns-then-byte-lt92
returns-then-byte-lt92 c = λ is. escape_byte_plain c.args.byte (λ e. omega (arith, c.if-byte-gt34.true)) (λ e. omega (arith, c.if-byte-lt92.true)) (omega (arith, c.if-byte-gt34.true))

pub returns : goal.returns
returns c = λ is. escape_byte_plain c.args.byte c.if-byte-eq34.false c.if-byte-eq92.false (omega (arith, c.if-byte-lt32.false))
