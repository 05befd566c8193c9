use Rattle.std.proofs.Common.{length}
use Rattle.dsn_mask.proofs.ByteTurns.{ByteWalk}
use Rattle.dsn_mask.proofs.Turns.{cost}
use Rattle.dsn_mask.proofs.piece.piece_fits.Given as goal

abbrev pub invariant-walk : goal.invariant-walk
invariant-walk l = ByteWalk l.piece l.bytes l.symbols l.text l.behind_star l.later

abbrev pub decreases-walk : goal.decreases-walk
decreases-walk l = cost (length l.piece) (length l.bytes) (length l.behind_star) (length l.later) (length l.symbols)
