use Rattle.std.proofs.Common.{length}
use Rattle.acs_lint.proofs.ByteTurns.{ByteWalk}
use Rattle.dsn_mask.proofs.Turns.{cost}
use Rattle.acs_lint.proofs.piece_covering.walk.Given as goal

abbrev pub invariant-walk : goal.invariant-walk
invariant-walk l = ByteWalk l.piece l.other l.symbols l.text l.behind_star l.later

abbrev pub decreases-walk : goal.decreases-walk
decreases-walk l = cost (length l.piece) (length l.other) (length l.behind_star) (length l.later) (length l.symbols)
