use Rattle.std.proofs.Common.{◌∙◌, sym}
use Rattle.acs_lint.proofs.EndLemmas.{ends_apart}
use Rattle.acs_lint.proofs.piece_covering.may_end.Goals as goal

pub returns-in-Some-split_last : goal.returns-in-Some-split_last
returns-in-Some-split_last c = λ h.
    ends_apart c.args.piece.now c.args.other.now c.in-Some.field-0-1.now c.in-Some-split_last.field-0-1.now c.in-Some.last.now c.in-Some-split_last.byte.now
    c.in-Some.ensures.cases.0 c.in-Some-split_last.ensures.cases.0 (sym c.ends_alike.ensures ∙ h)
