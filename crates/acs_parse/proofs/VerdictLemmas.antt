-- When reading is over before the end of the tokens.
use Rattle.std.specs.Prelude.{Bool, true, false}
use Rattle.acs_parse.specs.Inner.Table.{Verdict, Complete, Short, Stop, TooMany}

-- it ended at a token
abbrev pub is_over : Verdict → Bool
is_over Complete = false
is_over Short = false
is_over (Stop n) = true
is_over (TooMany n) = true
