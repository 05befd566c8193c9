use Rattle.std.proofs.Common.{◌≡◌, ◌+◌, ◌∙◌, drop, length, sym, nat_cmp, arith, rules}
use Rattle.std.specs.Cmp.Lexicographic.{slice_cmp}
use Rattle.dsn_mask.proofs.SameLemmas.{same_level}
use Rattle.dsn_mask.proofs.WordLemmas.{then-decided, then-level, word-order}
use Rattle.dsn_mask.proofs.byte_words.order.Goals as goal

pub loop-place-preserved : goal.loop-place-preserved
loop-place-preserved g c =
    let xs = c.args.a.now in
    let ys = c.args.b.now in
    let p = c.loop-place.place in
    let whole : length xs ≡ g.row.N = search rules in
    let full : length ys ≡ g.row.N = search rules in
    let word = word-order xs ys p c.cmp-found.result (omega (arith, whole)) (whole ∙ sym full) c.word_at.ensures.bytes c.word_at-in-loop-place.ensures.bytes search rules in
    (omega arith, c.loop-place.invariant.1 ∙ word ∙ then-level c.cmp-found.result (slice_cmp nat_cmp (drop (p + 8) xs) (drop (p + 8) ys)) (sym c.is_ne.ensures ∙ c.if-is_ne.false))

pub returns-then-is_ne : goal.returns-then-is_ne
returns-then-is_ne g c =
    let xs = c.args.a.now in
    let ys = c.args.b.now in
    let p = c.loop-place.place in
    let whole : length xs ≡ g.row.N = search rules in
    let full : length ys ≡ g.row.N = search rules in
    let word = word-order xs ys p c.cmp-found.result (omega (arith, whole)) (whole ∙ sym full) c.word_at.ensures.bytes c.word_at-in-loop-place.ensures.bytes search rules in
    sym (c.loop-place.invariant.1 ∙ word ∙ then-decided c.cmp-found.result (slice_cmp nat_cmp (drop (p + 8) xs) (drop (p + 8) ys)) (sym c.is_ne.ensures ∙ c.if-is_ne.true))

pub returns-then-are_same : goal.returns-then-are_same
returns-then-are_same g c =
    sym (c.loop-place.invariant.1 ∙ same_level c.loop-place.place c.args.a.now c.args.b.now (sym c.are_same.ensures ∙ c.if-are_same.true))
