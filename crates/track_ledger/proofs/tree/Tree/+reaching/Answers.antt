use Rattle.std.proofs.Common.{rules, ◌≡◌, ◌+◌, ◌-◌, ◌++◌, ◌∷◌, List, sym, subst, arith}
use Rattle.std.proofs.lemmas.Grind.{common_steps}
use Rattle.track_ledger.specs.declared.piece.Piece.{Piece}
use Rattle.track_ledger.specs.Inner.GapChanges.{AreInOrder, IsFirstReaching}
use Rattle.track_ledger.specs.Inner.Trees.{items_of}
use Rattle.track_ledger.proofs.TreeLemmas.{length-node, order-left, order-right, reach-left, reach-right}
use Rattle.track_ledger.proofs.tree.Tree.+reaching.Goals as goal

pub reaching-requires : goal.reaching-requires
reaching-requires t c =
    let left = items_of c.node.inside.left in
    let gap = c.node.inside.gap in
    let right = items_of c.node.inside.right in
    let whole : items_of c.args.self.now ≡ left ++ (gap ∷ right) = search rules in
    (grind (arith, common_steps), order-right left gap right (subst AreInOrder whole c.requires))

pub reaching-requires-else-end-track : goal.reaching-requires-else-end-track
reaching-requires-else-end-track t c =
    let left = items_of c.node.inside.left in
    let gap = c.node.inside.gap in
    let right = items_of c.node.inside.right in
    let whole : items_of c.args.self.now ≡ left ++ (gap ∷ right) = search rules in
    (grind (arith, common_steps), order-left left gap right (subst AreInOrder whole c.requires))

pub returns-then-end-track : goal.returns-then-end-track
returns-then-end-track t c =
    let left = items_of c.node.inside.left in
    let gap = c.node.inside.gap in
    let right = items_of c.node.inside.right in
    let whole : items_of c.args.self.now ≡ left ++ (gap ∷ right) = search rules in
    let count = length-node left gap right in
    let counted = c.node.invariant.counted in
    subst (λ (l : List Piece). IsFirstReaching l c.args.track (c.node.inside.count - c.len.result + c.reaching.result)) (sym whole)
    (reach-right left gap right c.args.track _ c.reaching.result (subst AreInOrder whole c.requires) (omega (arith, c.end.ensures, c.if-end-track.true)) c.reaching.ensures
    (omega (arith, count, counted, c.len.ensures.value)))

pub returns-else-end-track : goal.returns-else-end-track
returns-else-end-track t c =
    let left = items_of c.node.inside.left in
    let gap = c.node.inside.gap in
    let right = items_of c.node.inside.right in
    let whole : items_of c.args.self.now ≡ left ++ (gap ∷ right) = search rules in
    subst (λ (l : List Piece). IsFirstReaching l c.args.track c.reaching-else-end-track.result) (sym whole)
    (reach-left left gap right c.args.track c.reaching-else-end-track.result (subst AreInOrder whole c.requires) (omega (arith, c.end.ensures, c.if-end-track.false)) c.reaching-else-end-track.ensures)
