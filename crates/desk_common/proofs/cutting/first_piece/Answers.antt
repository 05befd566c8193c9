use Rattle.std.proofs.Common.{add-one, arith}
use Rattle.std.proofs.lemmas.List.{take_rest}
use Rattle.desk_common.proofs.WordLemmas.{words_of_first, words_of_only}
use Rattle.desk_common.proofs.cutting.first_piece.Goals as goal

pub returns-then-count-text-clause-words : goal.returns-then-count-text-clause-words
returns-then-count-text-clause-words c =
    let said = c.bytes_before-count.ensures in
    rw (take_rest, add-one) (words_of_first c.args.blank c.args.text.now c.bytes_before-count.result said.before c.if-count-text.true (said.found c.if-count-text.true))

pub returns-else-count-text-clause-words : goal.returns-else-count-text-clause-words
returns-else-count-text-clause-words c =
    words_of_only c.args.blank c.args.text.now (λ k less. c.bytes_before-count.ensures.before k (omega arith))
