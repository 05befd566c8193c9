-- Where tokens stop being the front of a routine, over all that could follow them
-- (docs/manual/acs-language.md, Places of faults).
use Rattle.std.specs.Prelude.{ℕ, ◌<◌, ◌+◌, Bool, List, ◌++◌, length, take}
use Rattle.acs_tree.specs.declared.routine.Routine.{Routine}
use Rattle.acs_symbol.specs.declared.symbol.Symbol.{Symbol}
use Rattle.acs_parse.specs.Grammar.{limited, unlimited, IsRoutine}

-- the tokens are the front of some routine's tokens; no more is open than may be
abbrev pub Begins : (ℕ → Bool) → List Symbol → Type 0
Begins may ts = (others : List Symbol) × (tree : Routine) × IsRoutine may (ts ++ others) tree

-- the first k tokens begin some routine within the limit, and the first k + 1 begin none, however deep
pub record IsFirstWrong (ts : List Symbol) (k : ℕ) : Type 0 where
  pub within : k < length ts
  pub before : Begins limited (take k ts)
  pub wrong : Begins unlimited (take (k + 1) ts) → ⊥

-- the first k + 1 tokens begin some routine, and the first k begin one with at most 200 open at once,
-- but the first k + 1 begin none such: token k opens the 201st
pub record IsTooDeep (ts : List Symbol) (k : ℕ) : Type 0 where
  pub within : k < length ts
  pub before : Begins limited (take k ts)
  pub goes_on : Begins unlimited (take (k + 1) ts)
  pub deep : Begins limited (take (k + 1) ts) → ⊥

-- the tokens begin some routine within the limit, and are none within it
pub record EndsEarly (ts : List Symbol) : Type 0 where
  pub begins : Begins limited ts
  pub no_routine : (tree : Routine) → IsRoutine limited ts tree → ⊥
