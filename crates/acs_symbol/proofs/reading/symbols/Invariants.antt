use Rattle.std.proofs.Common.{◌≡◌, take}
use Rattle.acs_symbol.specs.Symbols.{symbols_of}
use Rattle.acs_symbol.proofs.reading.symbols.Given as goal

abbrev pub invariant-loop-token : goal.invariant-loop-token
invariant-loop-token l = l.symbols.items ≡ symbols_of l.text (take l.token-index l.tokens)
