use Rattle.std.proofs.Common.{◌-◌, ◌∙◌, ap, arith}
use Rattle.track_ledger.specs.declared.piece.Piece.{Piece}
use Rattle.track_ledger.specs.Inner.Trees.{items_of}
use Rattle.track_ledger.proofs.TreeLemmas.{after-remove-here, after-remove-right, at-right-in}
use Rattle.track_ledger.proofs.changing.+without.Goals as goal

pub returns-then-before-index-clause-tree : goal.returns-then-before-index-clause-tree
returns-then-before-index-clause-tree t c =
    let parts = c.taken-cell.result in
    after-remove-right (items_of c.args.tree) (items_of parts.left) parts.gap (items_of parts.right) (items_of c.without-rest.result.tree) (items_of c.with_right.result.tree) c.args.index
    (c.args.index - c.len-before.result - 1) (ap items_of c.in-Full.is ∙ c.taken-cell.ensures) (omega (arith, c.len-before.ensures.value, c.if-before-index.true)) (omega (arith, c.len-before.ensures.value))
    c.without-rest.ensures.tree c.with_right.ensures.tree

pub returns-then-before-index-clause-gap : goal.returns-then-before-index-clause-gap
returns-then-before-index-clause-gap t c = λ d.
    let parts = c.taken-cell.result in
    c.with_right.ensures.gap ∙ at-right-in (items_of c.args.tree) (items_of parts.left) parts.gap (items_of parts.right) c.args.index (c.args.index - c.len-before.result - 1) c.without-rest.result.gap d
    (ap items_of c.in-Full.is ∙ c.taken-cell.ensures) (omega (arith, c.len-before.ensures.value, c.if-before-index.true)) (omega (arith, c.len-before.ensures.value)) (c.without-rest.ensures.gap d)

pub returns-clause-tree : goal.returns-clause-tree
returns-clause-tree t c =
    let parts = c.taken-cell.result in
    let d : Piece = record { start = 0; length = 0 } in
    after-remove-here (items_of c.args.tree) (items_of parts.left) parts.gap c.without-rest-in-Full.result.gap d (items_of parts.right) (items_of c.without-rest-in-Full.result.tree) (items_of c.settled.result) c.args.index
    (ap items_of c.in-Full.is ∙ c.taken-cell.ensures) (omega (arith, c.len-before.ensures.value, c.if-index-before.false, c.if-before-index.false)) (omega (arith, c.len.ensures.value, c.if-len-eq0.false))
    c.without-rest-in-Full.ensures.tree (c.without-rest-in-Full.ensures.gap d) c.settled.ensures
