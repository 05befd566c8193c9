use Rattle.std.proofs.Common.{rules, ◌≡◌, ◌<◌, ◌++◌, ◌∷◌, sym, ap, ◌∙◌, subst, arith, List}
use Rattle.std.specs.Prelude.{None, ℕ, Bool, not}
use Rattle.track_ledger.specs.declared.piece.Piece.{Piece}
use Rattle.track_ledger.specs.GapRule.{comes_first}
use Rattle.track_ledger.specs.Inner.Measures.{longest_by}
use Rattle.track_ledger.specs.Inner.Trees.{items_of}
use Rattle.track_ledger.proofs.MeasureLemmas.{holding-none, lowest-left, lowest_of, lowest-own, lowest-right}
use Rattle.track_ledger.proofs.NextLemmas.{is_so_long, short-off}
use Rattle.track_ledger.proofs.tree.Tree.+lowest_behind.Goals as goal

-- it holds the tracks and stands behind the last
abbrev passes : ℕ → Piece → Piece → Bool
passes tracks last = is_so_long (λ (cut : Piece). not (comes_first cut last)) tracks

pub returns-then-by-tracks : goal.returns-then-by-tracks
returns-then-by-tracks t c =
    let left = items_of c.node.inside.left in
    let gap = c.node.inside.gap in
    let right = items_of c.node.inside.right in
    let whole : items_of c.args.self.now ≡ left ++ (gap ∷ right) = search rules in
    let most = c.node.invariant.measured c.args.measure in
    let short : longest_by c.args.measure (left ++ (gap ∷ right)) < c.args.tracks = omega (arith, most, c.by.ensures, c.if-by-tracks.true) in
    let none = holding-none c.args.measure c.args.tracks (left ++ (gap ∷ right)) (passes c.args.tracks c.args.last.now) (short-off (λ (cut : Piece). not (comes_first cut c.args.last.now)) c.args.tracks) short in
    subst (λ (l : List Piece). None ≡ lowest_of (passes c.args.tracks c.args.last.now) c.args.measure l) (sym whole) none

pub returns-in-Some : goal.returns-in-Some
returns-in-Some t c =
    let p = passes c.args.tracks c.args.last.now in
    let left = items_of c.node.inside.left in
    let gap = c.node.inside.gap in
    let right = items_of c.node.inside.right in
    let whole : items_of c.args.self.now ≡ left ++ (gap ∷ right) = search rules in
    lowest-left p c.args.measure left gap right c.in-Some.gap c.in-Some.ensures ∙ ap (lowest_of p c.args.measure) (sym whole)

pub returns-in-Some-cut_behind : goal.returns-in-Some-cut_behind
returns-in-Some-cut_behind t c =
    let p = passes c.args.tracks c.args.last.now in
    let left = items_of c.node.inside.left in
    let gap = c.node.inside.gap in
    let right = items_of c.node.inside.right in
    let whole : items_of c.args.self.now ≡ left ++ (gap ∷ right) = search rules in
    lowest-own p c.args.measure left gap right c.in-Some-cut_behind.gap c.in_default.ensures c.in-Some-cut_behind.ensures ∙ ap (lowest_of p c.args.measure) (sym whole)

pub returns-in_default-cut_behind : goal.returns-in_default-cut_behind
returns-in_default-cut_behind t c =
    let p = passes c.args.tracks c.args.last.now in
    let left = items_of c.node.inside.left in
    let gap = c.node.inside.gap in
    let right = items_of c.node.inside.right in
    let whole : items_of c.args.self.now ≡ left ++ (gap ∷ right) = search rules in
    lowest-right p c.args.measure left gap right c.lowest_behind-in-Full.result c.in_default.ensures c.in_default-cut_behind.ensures c.lowest_behind-in-Full.ensures
    ∙ ap (lowest_of p c.args.measure) (sym whole)
