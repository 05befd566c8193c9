use Rattle.std.proofs.Common.{◌-◌, ◌∙◌, ap, arith}
use Rattle.track_ledger.specs.Inner.Trees.{items_of}
use Rattle.track_ledger.proofs.TreeLemmas.{after-set-here, after-set-left, after-set-right}
use Rattle.track_ledger.proofs.changing.+with_set.Goals as goal

pub returns-then-index-before : goal.returns-then-index-before
returns-then-index-before t c =
    let parts = c.taken-cell.result in
    after-set-left (items_of c.args.tree) (items_of parts.left) (items_of c.with_set.result) parts.gap (items_of parts.right) (items_of c.fork.result) c.args.index c.args.gap
    (ap items_of c.in-Full.is ∙ c.taken-cell.ensures) (omega (arith, c.len-before.ensures.value, c.if-index-before.true)) c.with_set.ensures c.fork.ensures

pub returns-then-before-index : goal.returns-then-before-index
returns-then-before-index t c =
    let parts = c.taken-cell.result in
    after-set-right (items_of c.args.tree) (items_of parts.left) parts.gap (items_of parts.right) (items_of c.with_set-then-before-index.result) (items_of c.fork-then-before-index.result) c.args.index
    (c.args.index - c.len-before.result - 1) c.args.gap (ap items_of c.in-Full.is ∙ c.taken-cell.ensures) (omega (arith, c.len-before.ensures.value, c.if-before-index.true)) (omega (arith, c.len-before.ensures.value))
    c.with_set-then-before-index.ensures c.fork-then-before-index.ensures

pub returns : goal.returns
returns t c =
    let parts = c.taken-cell.result in
    after-set-here (items_of c.args.tree) (items_of parts.left) parts.gap (items_of parts.right) (items_of c.fork-in-Full.result) c.args.index c.args.gap
    (ap items_of c.in-Full.is ∙ c.taken-cell.ensures) (omega (arith, c.len-before.ensures.value, c.if-index-before.false, c.if-before-index.false)) c.fork-in-Full.ensures
