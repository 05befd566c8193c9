-- Each token covers a byte of its own.
use Rattle.std.proofs.Common.{◌≤◌, ◌+◌, ℕ, List, [], ◌∷◌, length, arith}
use Rattle.acs_lex.specs.declared.token.Token.{Token}
use Rattle.acs_lex.specs.Tokens.{InOrder}

-- the tokens between two places are at most the bytes between them
pub count_within : (from to : ℕ) (tokens : List Token) → InOrder from to tokens → from + length tokens ≤ to
count_within from to [] h = omega arith
count_within from to (one ∷ tokens) h = omega (arith, count_within one.to to tokens h.2)
