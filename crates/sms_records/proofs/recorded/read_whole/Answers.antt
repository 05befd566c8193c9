use Rattle.std.proofs.Common.{arith}
use Rattle.sms_records.specs.Inner.WholeLaws.{is_found, is_bad}
use Rattle.sms_records.proofs.recorded.read_whole.Goals as goal

pub returns-clause-found : goal.returns-clause-found
returns-clause-found g c = is_found g.T.Recorded.form c.args.bytes.now c.whole.result g.met.T.Recorded.exact
    (λ i. omega (arith, c.type_inv.bytes i)) c.whole.ensures

pub returns-clause-bad : goal.returns-clause-bad
returns-clause-bad g c = is_bad g.T.Recorded.form c.args.bytes.now c.whole.result c.whole.ensures
