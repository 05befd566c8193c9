use Rattle.std.proofs.Common.{◌≡◌, ◌-◌, ◌++◌, ◌∷◌, ◌∙◌, List, length, ap, arith}
use Rattle.track_ledger.specs.declared.piece.Piece.{Piece}
use Rattle.track_ledger.specs.Inner.Trees.{items_of}
use Rattle.track_ledger.proofs.TreeLemmas.{after-join-here, after-join-last, after-join-left, after-join-right}
use Rattle.track_ledger.proofs.TreeLemmas.{fewer-joined, fewer-removed, length-node}
use Rattle.track_ledger.proofs.changing.+with_joined.Goals as goal

pub returns-then-index-before : goal.returns-then-index-before
returns-then-index-before t c =
    let parts = c.taken-cell.result in
    after-join-left (items_of c.args.tree) (items_of parts.left) (items_of c.with_joined.result.tree) parts.gap (items_of parts.right) (items_of c.with_left.result.tree) c.args.index c.args.gap
    (ap items_of c.in-Full.is ∙ c.taken-cell.ensures) (omega (arith, c.len-before.ensures.value, c.if-index-before.true)) c.with_joined.ensures c.with_left.ensures.tree

pub with_right-requires : goal.with_right-requires
with_right-requires t c =
    let parts = c.taken-cell.result in
    let left = items_of parts.left in
    let right = items_of parts.right in
    let rest = items_of c.with_joined-rest.result.tree in
    let whole : length (items_of c.args.tree) ≡ length (left ++ (parts.gap ∷ right)) = ap (λ (l : List Piece). length l) (ap items_of c.in-Full.is ∙ c.taken-cell.ensures) in
    let count = length-node left parts.gap right in
    let next = length-node left parts.gap rest in
    let fewer = fewer-joined right rest (c.args.index - c.len-before.result - 1) c.args.gap (omega (arith, whole, count, c.requires.at, c.len-before.ensures.value, c.if-before-index.true)) c.with_joined-rest.ensures in
    omega (arith, whole, count, next, fewer, c.requires.small)

pub returns-then-before-index : goal.returns-then-before-index
returns-then-before-index t c =
    let parts = c.taken-cell.result in
    after-join-right (items_of c.args.tree) (items_of parts.left) parts.gap (items_of parts.right) (items_of c.with_joined-rest.result.tree) (items_of c.with_right.result.tree) c.args.index
    (c.args.index - c.len-before.result - 1) c.args.gap (ap items_of c.in-Full.is ∙ c.taken-cell.ensures) (omega (arith, c.len-before.ensures.value, c.if-before-index.true)) (omega (arith, c.len-before.ensures.value))
    c.with_joined-rest.ensures c.with_right.ensures.tree

pub with_left-requires-then-index-before-2 : goal.with_left-requires-then-index-before-2
with_left-requires-then-index-before-2 t c =
    let parts = c.taken-cell.result in
    let left = items_of parts.left in
    let right = items_of parts.right in
    let rest = items_of c.without.result.tree in
    let whole : length (items_of c.args.tree) ≡ length (left ++ (parts.gap ∷ right)) = ap (λ (l : List Piece). length l) (ap items_of c.in-Full.is ∙ c.taken-cell.ensures) in
    let count = length-node left parts.gap right in
    let next = length-node rest c.args.gap right in
    let fewer = fewer-removed left rest c.args.index (omega (arith, c.len-before.ensures.value, c.if-index-before-2.true)) c.without.ensures.tree in
    omega (arith, whole, count, next, fewer, c.requires.small)

pub returns-then-index-before-2 : goal.returns-then-index-before-2
returns-then-index-before-2 t c =
    let parts = c.taken-cell.result in
    after-join-last (items_of c.args.tree) (items_of parts.left) parts.gap (items_of parts.right) (items_of c.without.result.tree) (items_of c.with_left-then-index-before-2.result.tree) c.args.index c.args.gap
    (ap items_of c.in-Full.is ∙ c.taken-cell.ensures) (omega (arith, c.len-before.ensures.value, c.if-index-before.false, c.if-index-before-2.true)) c.without.ensures.tree c.with_left-then-index-before-2.ensures.tree

pub returns : goal.returns
returns t c =
    let parts = c.taken-cell.result in
    after-join-here (items_of c.args.tree) (items_of parts.left) parts.gap (items_of parts.right) (items_of c.without-in-Full.result.tree) (items_of c.with_right-in-Full.result.tree) c.args.index c.args.gap
    (ap items_of c.in-Full.is ∙ c.taken-cell.ensures) (omega (arith, c.len-before.ensures.value, c.if-before-index.false, c.if-index-before-2.false)) c.without-in-Full.ensures.tree c.with_right-in-Full.ensures.tree
