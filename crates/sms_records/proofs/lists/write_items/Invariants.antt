use Rattle.std.proofs.Common.{◌≡◌, ◌++◌, take}
use Rattle.std.specs.List.{flat_map, AllByRecursion}
use Rattle.sms_records.specs.Form.{IsReadable}
use Rattle.sms_records.proofs.lists.write_items.Given as goal

abbrev pub invariant-loop-item : goal.invariant-loop-item
invariant-loop-item g l = (l.out.items ≡ l.initial.out.items ++ flat_map g.T.Recorded.form.write
    (take l.item-index l.items)) × AllByRecursion (IsReadable g.T.Recorded.form) (take l.item-index l.items)
