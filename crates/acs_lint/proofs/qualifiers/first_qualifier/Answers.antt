use Rattle.std.proofs.Common.{add-one, arith}
use Rattle.std.proofs.lemmas.List.{take_rest}
use Rattle.dsn_mask.proofs.Split.{qualifiers_of-stop, qualifiers_of-one}
use Rattle.acs_lint.proofs.qualifiers.first_qualifier.Goals as goal

pub returns-then-count-bytes : goal.returns-then-count-bytes
returns-then-count-bytes c =
    let said = c.bytes_before-count.ensures in
    rw (take_rest, add-one) (qualifiers_of-stop c.args.bytes.now c.bytes_before-count.result said.before c.if-count-bytes.true (said.found c.if-count-bytes.true))

pub returns-else-count-bytes : goal.returns-else-count-bytes
returns-else-count-bytes c = qualifiers_of-one c.args.bytes.now (λ k less. c.bytes_before-count.ensures.before k (omega arith))
