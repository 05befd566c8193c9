use Rattle.std.proofs.Common.{arith}
use Rattle.sms_open.proofs.SizeLemmas.{count-most}
use Rattle.sms_open.proofs.sets.are_few.Goals as goal

pub returns-then-extents : goal.returns-then-extents
returns-then-extents c = λ volser. omega (arith, count-most volser c.args.extents.now, c.if-extents.true)
