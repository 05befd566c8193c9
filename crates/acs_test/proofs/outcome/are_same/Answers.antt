use Rattle.acs_test.proofs.SameLemmas.{ends_differ, lines_decide}
use Rattle.acs_test.proofs.outcome.are_same.Goals as goal

pub returns-then-is_same_end : goal.returns-then-is_same_end
returns-then-is_same_end c =
    lines_decide c.args.one.now c.args.other.now c.args.written.now c.args.others.now c.are_same_lines.result (c.is_same_end.ensures.0 c.if-is_same_end.true) c.are_same_lines.ensures

pub returns-else-is_same_end : goal.returns-else-is_same_end
returns-else-is_same_end c = (
  λ t. absurd (cc t),
  λ e. absurd (ends_differ c.args.one.now c.args.other.now c.args.written.now c.args.others.now c.is_same_end.result c.is_same_end.ensures c.if-is_same_end.false e),
)
