-- Why the tokens of a text are refused (docs/manual/acs-language.md, Places of faults).
use Rattle.std.specs.Prelude.{ℕ, List}
use Rattle.acs_symbol.specs.declared.symbol.Symbol.{Symbol}
use Rattle.acs_parse.specs.declared.fault.ParseErr.{ParseErr}
use Rattle.acs_parse.specs.declared.fault.ParseErr.TheVariants.{Unexpected, Ended, Deep}
use Rattle.acs_parse.specs.Places.{IsFirstWrong, IsTooDeep, EndsEarly}

-- the fault of tokens that are no routine, or one that is too deep
pub data IsParseFault (ts : List Symbol) : ParseErr → Type 0 where
  unexpected : {k : ℕ} → IsFirstWrong ts k → IsParseFault ts (Unexpected k)
  ended : EndsEarly ts → IsParseFault ts Ended
  deep : {k : ℕ} → IsTooDeep ts k → IsParseFault ts (Deep k)
