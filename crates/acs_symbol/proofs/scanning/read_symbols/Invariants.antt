use Rattle.std.proofs.Common.{◌≤◌, length}
use Rattle.acs_symbol.proofs.ScanLemmas.{FrontRead}
use Rattle.acs_symbol.proofs.scanning.read_symbols.Given as goal

abbrev pub invariant-pieces : goal.invariant-pieces
invariant-pieces l = record { read : FrontRead l.text l.rest l.symbols; within : length l.rest ≤ l.total }

abbrev pub decreases-pieces : goal.decreases-pieces
decreases-pieces l = length l.rest
