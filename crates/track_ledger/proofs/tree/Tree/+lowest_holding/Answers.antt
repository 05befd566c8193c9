use Rattle.std.proofs.Common.{rules, ◌≡◌, ◌<◌, ◌++◌, ◌∷◌, sym, ap, ◌∙◌, subst, arith, List}
use Rattle.std.specs.Prelude.{None, ℕ, Bool, false, nat_le}
use Rattle.std.proofs.lemmas.Bool.Decides.{nat_tests}
use Rattle.track_ledger.specs.declared.piece.Piece.{Piece}
use Rattle.track_ledger.specs.Inner.Measures.{longest_by}
use Rattle.track_ledger.specs.Inner.Trees.{items_of}
use Rattle.track_ledger.proofs.MeasureLemmas.{holding-none, lowest-left, lowest_of, lowest-own, lowest-right}
use Rattle.track_ledger.proofs.tree.Tree.+lowest_holding.Goals as goal

-- it has so many tracks
abbrev is_long : ℕ → Piece → Bool
is_long tracks cut = nat_le tracks cut.length

short-one : (tracks : ℕ) (cut : Piece) → cut.length < tracks → is_long tracks cut ≡ false
short-one tracks cut short = grind (arith, nat_tests, short)

pub returns-then-from-tracks-clause-lowest : goal.returns-then-from-tracks-clause-lowest
returns-then-from-tracks-clause-lowest t c =
    let left = items_of c.node.inside.left in
    let gap = c.node.inside.gap in
    let right = items_of c.node.inside.right in
    let whole : items_of c.args.self.now ≡ left ++ (gap ∷ right) = search rules in
    let most = c.node.invariant.measured c.args.measure in
    let short : longest_by c.args.measure (left ++ (gap ∷ right)) < c.args.tracks = omega (arith, most, c.by.ensures, c.from.ensures, c.if-from-tracks.true) in
    subst (λ (l : List Piece). None ≡ lowest_of (is_long c.args.tracks) c.args.measure l) (sym whole) (holding-none c.args.measure c.args.tracks (left ++ (gap ∷ right)) (is_long c.args.tracks) (short-one c.args.tracks) short)

pub returns-in-Some-clause-lowest : goal.returns-in-Some-clause-lowest
returns-in-Some-clause-lowest t c =
    let left = items_of c.node.inside.left in
    let gap = c.node.inside.gap in
    let right = items_of c.node.inside.right in
    let whole : items_of c.args.self.now ≡ left ++ (gap ∷ right) = search rules in
    lowest-left (is_long c.args.tracks) c.args.measure left gap right c.in-Some.gap c.in-Some.ensures.lowest ∙ ap (lowest_of (is_long c.args.tracks) c.args.measure) (sym whole)

pub returns-in-Some-cut_holding-clause-lowest : goal.returns-in-Some-cut_holding-clause-lowest
returns-in-Some-cut_holding-clause-lowest t c =
    let left = items_of c.node.inside.left in
    let gap = c.node.inside.gap in
    let right = items_of c.node.inside.right in
    let whole : items_of c.args.self.now ≡ left ++ (gap ∷ right) = search rules in
    lowest-own (is_long c.args.tracks) c.args.measure left gap right c.in-Some-cut_holding.gap c.in_default.ensures.lowest c.in-Some-cut_holding.ensures.lowest ∙ ap (lowest_of (is_long c.args.tracks) c.args.measure) (sym whole)

pub returns-in_default-cut_holding-clause-lowest : goal.returns-in_default-cut_holding-clause-lowest
returns-in_default-cut_holding-clause-lowest t c =
    let left = items_of c.node.inside.left in
    let gap = c.node.inside.gap in
    let right = items_of c.node.inside.right in
    let whole : items_of c.args.self.now ≡ left ++ (gap ∷ right) = search rules in
    lowest-right (is_long c.args.tracks) c.args.measure left gap right c.lowest_holding-in-Full.result c.in_default.ensures.lowest c.in_default-cut_holding.ensures.lowest c.lowest_holding-in-Full.ensures.lowest
    ∙ ap (lowest_of (is_long c.args.tracks) c.args.measure) (sym whole)
