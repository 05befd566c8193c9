use Rattle.std.proofs.Common.{length}
use Rattle.std.specs.Prelude.{option_copied}
use Rattle.dsn_mask.specs.Qualifiers.{qualifiers_of, qualifiers_left}
use Rattle.acs_lint.proofs.QualifierTurns.{QualifierWalk}
use Rattle.dsn_mask.proofs.Turns.{cost}
use Rattle.acs_lint.proofs.mask_covering.mask_covers.Given as goal

abbrev pub invariant-walk : goal.invariant-walk
invariant-walk l =
    QualifierWalk (qualifiers_of l.mask) (qualifiers_of l.other) (qualifiers_left (option_copied l.pieces)) (qualifiers_left (option_copied l.qualifiers)) (qualifiers_left (option_copied l.behind_stars)) (qualifiers_left (option_copied l.later))

abbrev pub decreases-walk : goal.decreases-walk
decreases-walk l =
    cost (length (qualifiers_of l.mask)) (length (qualifiers_of l.other)) (length (qualifiers_left (option_copied l.behind_stars))) (length (qualifiers_left (option_copied l.later))) (length (qualifiers_left (option_copied l.pieces)))
