use Rattle.std.proofs.Common.{◌-◌, ◌∙◌, ap, arith}
use Rattle.track_ledger.specs.Inner.Trees.{items_of}
use Rattle.track_ledger.proofs.TreeLemmas.{after-insert-right}
use Rattle.track_ledger.proofs.changing.+with_insert.Goals as goal

pub returns-else-index-before : goal.returns-else-index-before
returns-else-index-before t c =
    let parts = c.taken-cell.result in
    after-insert-right (items_of c.args.tree) (items_of parts.left) parts.gap (items_of parts.right) (items_of c.with_insert-right.result) (items_of c.settled-in-Full.result) c.args.index
    (c.args.index - c.len-before.result - 1) c.args.gap (ap items_of c.in-Full.is ∙ c.taken-cell.ensures) (omega (arith, c.len-before.ensures.value, c.if-index-before.false)) (omega (arith, c.len-before.ensures.value))
    c.with_insert-right.ensures c.settled-in-Full.ensures
