use Rattle.std.proofs.Common.{add-one, arith}
use Rattle.std.proofs.lemmas.List.{take_rest}
use Rattle.sms_script.proofs.LineLemmas.{first_line_is, only_line_is}
use Rattle.sms_script.proofs.lines.first_line.Goals as goal

pub returns-then-count-text-clause-lines : goal.returns-then-count-text-clause-lines
returns-then-count-text-clause-lines c =
    let said = c.count_before-count.ensures in
    rw (take_rest, add-one) (first_line_is c.args.text.now c.count_before-count.result said.before c.if-count-text.true (said.found c.if-count-text.true))

pub returns-else-count-text-clause-lines : goal.returns-else-count-text-clause-lines
returns-else-count-text-clause-lines c =
    only_line_is c.args.text.now (λ k less. c.count_before-count.ensures.before k (omega arith)) c.requires
