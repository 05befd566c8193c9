use Rattle.std.proofs.Common.{◌≤◌, length}
use Rattle.acs_lex.proofs.CutLemmas.{FrontCut}
use Rattle.acs_lex.proofs.scanner.scan.Given as goal

abbrev pub invariant-pieces : goal.invariant-pieces
invariant-pieces l = record { cut : FrontCut (length l.text) l.text l.rest l.tokens; within : length l.rest ≤ l.total }

abbrev pub decreases-pieces : goal.decreases-pieces
decreases-pieces l = length l.rest
