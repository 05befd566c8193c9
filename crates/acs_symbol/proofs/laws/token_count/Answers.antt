use Rattle.std.specs.Prelude.{length}
use Rattle.std.proofs.Common.{arith}
use Rattle.acs_symbol.proofs.CountLemmas.{count_within}
use Rattle.acs_symbol.proofs.laws.token_count.Goals as goal

pub returns : goal.returns
returns c = λ text tokens h. omega (arith, count_within 0 (length text) tokens h)
