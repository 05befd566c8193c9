use Rattle.std.proofs.Common.{add-one, arith}
use Rattle.std.proofs.lemmas.List.{take_rest}
use Rattle.sms_script.proofs.PieceLemmas.{first_piece_is, only_piece_is}
use Rattle.sms_script.proofs.parts.first_piece.Goals as goal

pub returns-then-count-text-clause-pieces : goal.returns-then-count-text-clause-pieces
returns-then-count-text-clause-pieces c =
    let said = c.count_before-count.ensures in
    rw (take_rest, add-one) (first_piece_is c.args.text.now c.count_before-count.result said.before c.if-count-text.true (said.found c.if-count-text.true))

pub returns-else-count-text-clause-pieces : goal.returns-else-count-text-clause-pieces
returns-else-count-text-clause-pieces c =
    only_piece_is c.args.text.now (λ k less. c.count_before-count.ensures.before k (omega arith))
