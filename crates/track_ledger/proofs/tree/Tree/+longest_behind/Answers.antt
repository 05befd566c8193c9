use Rattle.std.proofs.Common.{rules, ◌≡◌, ◌≤◌, ◌++◌, ◌∷◌, [], List, true, false, refl, sym, ap, ◌∙◌, subst, arith}
use Rattle.std.specs.Prelude.{Bool, not}
use Rattle.std.specs.List.{All}
use Rattle.std.proofs.lemmas.Grind.{common_steps}
use Rattle.std.proofs.lemmas.List.Elements.{All-weaker}
use Rattle.track_ledger.specs.declared.piece.Piece.{Piece}
use Rattle.track_ledger.specs.GapRule.{comes_first}
use Rattle.track_ledger.specs.Inner.GapLists.{StandApart}
use Rattle.track_ledger.specs.Inner.Measures.{cuts_by, longest_among}
use Rattle.track_ledger.specs.Inner.Trees.{items_of}
use Rattle.track_ledger.proofs.MeasureLemmas.{all-behind, among-all, among-node}
use Rattle.track_ledger.proofs.TreeLemmas.{apart-left, apart-right, starts-left, starts-right}
use Rattle.track_ledger.proofs.tree.Tree.+longest_behind.Goals as goal

-- it stands behind the last
abbrev after : Piece → Piece → Bool
after last cut = not (comes_first cut last)

pub returns-then-not-is_first : goal.returns-then-not-is_first
returns-then-not-is_first t c =
    let m = c.args.measure in
    let last = c.args.last.now in
    let left = items_of c.node.inside.left in
    let gap = c.node.inside.gap in
    let right = items_of c.node.inside.right in
    let whole : items_of c.args.self.now ≡ left ++ (gap ∷ right) = search rules in
    let most = c.node.invariant.measured m in
    let best : Piece = record { start = c.args.from; length = c.by.result } in
    let first : comes_first best last ≡ false = grind (arith, common_steps) in
    let from = subst (All (λ (g : Piece). c.args.from ≤ g.start)) whole c.requires.behind in
    let behind = all-behind m (left ++ (gap ∷ right)) best last (c.by.ensures ∙ most) from first in
    let pass = All-weaker (λ (cut : Piece). comes_first cut last ≡ false) (λ (cut : Piece). after last cut ≡ true) (λ cut e. ap not e) (cuts_by m (left ++ (gap ∷ right))) behind in
    c.by.ensures ∙ most ∙ sym (among-all (after last) m (left ++ (gap ∷ right)) pass) ∙ ap (λ (l : List Piece). longest_among (after last) (cuts_by m l)) (sym whole)

pub longest_behind-left-requires : goal.longest_behind-left-requires
longest_behind-left-requires t c =
    let left = items_of c.node.inside.left in
    let gap = c.node.inside.gap in
    let right = items_of c.node.inside.right in
    let whole : items_of c.args.self.now ≡ left ++ (gap ∷ right) = search rules in (
      grind (arith, common_steps),
      (apart-left left gap right (subst StandApart whole c.requires.apart), starts-left c.args.from left gap right (subst (All (λ (g : Piece). c.args.from ≤ g.start)) whole c.requires.behind)),
    )

pub longest_behind-right-requires : goal.longest_behind-right-requires
longest_behind-right-requires t c =
    let left = items_of c.node.inside.left in
    let gap = c.node.inside.gap in
    let right = items_of c.node.inside.right in
    let whole : items_of c.args.self.now ≡ left ++ (gap ∷ right) = search rules in
    let apart = subst StandApart whole c.requires.apart in
    (grind (arith, common_steps), (apart-right left gap right apart, starts-right left gap right apart))

pub returns-else-not-is_first : goal.returns-else-not-is_first
returns-else-not-is_first t c =
    let m = c.args.measure in
    let left = items_of c.node.inside.left in
    let gap = c.node.inside.gap in
    let right = items_of c.node.inside.right in
    let whole : items_of c.args.self.now ≡ left ++ (gap ∷ right) = search rules in
    among-node (after c.args.last.now) m left gap right c.longest_behind-left.result (longest_among (after c.args.last.now) (cuts_by m (gap ∷ []))) c.longest_behind-right.result c.length_behind.result
    c.longest_behind-left.ensures refl c.longest_behind-right.ensures (omega (arith, c.max.ensures, c.length_behind.ensures))
    ∙ ap (λ (l : List Piece). longest_among (after c.args.last.now) (cuts_by m l)) (sym whole)
