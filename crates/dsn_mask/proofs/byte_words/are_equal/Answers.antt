use Rattle.std.proofs.Common.{◌≡◌, ◌∙◌, length, sym, arith, rules}
use Rattle.dsn_mask.proofs.SameLemmas.{word_same}
use Rattle.dsn_mask.proofs.byte_words.are_equal.Goals as goal

pub loop-place-preserved : goal.loop-place-preserved
loop-place-preserved g c =
    let xs = c.args.a.now in
    let ys = c.args.b.now in
    let p = c.loop-place.place in
    let whole : length xs ≡ g.row.N = search rules in
    let full : length ys ≡ g.row.N = search rules in
    let word = word_same xs ys p c.word_at.result c.word_at-in-loop-place.result (omega (arith, whole)) (whole ∙ sym full) c.word_at.ensures.bytes c.word_at-in-loop-place.ensures.bytes c.word_at.ensures.value c.word_at-in-loop-place.ensures.value search rules in
    (omega arith, c.loop-place.invariant.1 ∙ word)
