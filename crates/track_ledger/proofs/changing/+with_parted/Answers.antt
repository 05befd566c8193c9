use Rattle.std.proofs.Common.{◌-◌, ◌∙◌, ap, arith}
use Rattle.track_ledger.specs.Inner.Trees.{items_of}
use Rattle.track_ledger.proofs.TreeLemmas.{after-part-here, after-part-left, after-part-right}
use Rattle.track_ledger.proofs.changing.+with_parted.Goals as goal

pub returns-then-index-before : goal.returns-then-index-before
returns-then-index-before t c =
    let parts = c.taken-cell.result in
    after-part-left (items_of c.args.tree) (items_of parts.left) (items_of c.with_parted-left.result) parts.gap (items_of parts.right) (items_of c.settled.result) c.args.index c.args.gap c.args.next
    (ap items_of c.in-Full.is ∙ c.taken-cell.ensures) (omega (arith, c.len-before.ensures.value, c.if-index-before.true)) c.with_parted-left.ensures c.settled.ensures

pub returns-then-before-index : goal.returns-then-before-index
returns-then-before-index t c =
    let parts = c.taken-cell.result in
    after-part-right (items_of c.args.tree) (items_of parts.left) parts.gap (items_of parts.right) (items_of c.with_parted-right.result) (items_of c.settled-then-before-index.result) c.args.index
    (c.args.index - c.len-before.result - 1) c.args.gap c.args.next (ap items_of c.in-Full.is ∙ c.taken-cell.ensures) (omega (arith, c.len-before.ensures.value, c.if-before-index.true)) (omega (arith, c.len-before.ensures.value))
    c.with_parted-right.ensures c.settled-then-before-index.ensures

pub returns : goal.returns
returns t c =
    let parts = c.taken-cell.result in
    after-part-here (items_of c.args.tree) (items_of parts.left) parts.gap (items_of parts.right) (items_of c.with_insert.result) (items_of c.settled-in-Full.result) c.args.index c.args.gap c.args.next
    (ap items_of c.in-Full.is ∙ c.taken-cell.ensures) (omega (arith, c.len-before.ensures.value, c.if-index-before.false, c.if-before-index.false)) c.with_insert.ensures c.settled-in-Full.ensures
