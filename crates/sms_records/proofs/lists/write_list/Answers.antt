use Rattle.std.proofs.Common.{arith, ◌<◌, ◌^◌, length}
use Rattle.sms_records.specs.Inner.FormLaws.{on_ok}
use Rattle.sms_records.specs.Inner.ListLaws.{list_readable}
use Rattle.sms_records.proofs.lists.write_list.Goals as goal

pub returns-clause-readable : goal.returns-clause-readable
returns-clause-readable g c =
    let few : length c.args.items.now < 2 ^ 64 = omega (arith, c.write_number.ensures.fits) in
    on_ok c.write_items.result
    (λ h. list_readable g.T.Recorded.form c.args.items.now few h) c.write_items.ensures.readable
