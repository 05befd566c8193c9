use Rattle.std.proofs.Common.{◌≡◌, ◌-◌}
use Rattle.sms_records.specs.Form.{many_at}
use Rattle.sms_records.specs.Inner.ListLaws.{with_front}
use Rattle.sms_records.proofs.lists.read_items.Given as goal

abbrev pub invariant-loop : goal.invariant-loop
invariant-loop g l = with_front l.items.items
    (many_at g.T.Recorded.form (l.count - l.counter) l.rest) ≡ many_at g.T.Recorded.form l.count l.bytes
