-- What a run comes to.
use Rattle.std.specs.Prelude.{ℕ, List, [], ◌++◌}
use Rattle.acs_tree.specs.declared.ending.Ending.{Ending}
use Rattle.acs_tree.specs.declared.ending.Ending.TheVariants.{Falls, Exit}
use Rattle.acs_tree.specs.declared.input.Input.{Input}
use Rattle.acs_tree.specs.declared.values.Values.{Values}

-- the new values, the lines that were written, and the ending
pub record Outcome : Type 0 where
  pub values : Values
  pub lines : List (List ℕ)
  pub ending : Ending

-- what a statement does with an input and the values so far
abbrev pub Action : Type 0
Action = Input → Values → Outcome

-- the end is reached and nothing was written
abbrev pub falls : Values → Outcome
falls values = record { values = values; lines = []; ending = Falls }

-- EXIT with that code
abbrev pub exits : ℕ → Values → Outcome
exits code values = record { values = values; lines = []; ending = Exit code }

-- the same with lines that were written before
abbrev pub behind : List (List ℕ) → Outcome → Outcome
behind lines outcome = record { values = outcome.values; lines = lines ++ outcome.lines; ending = outcome.ending }

-- what follows by the ending of what was before: nothing follows an EXIT
abbrev pub after : Ending → Outcome → (Values → Outcome) → Outcome
after Falls outcome next = behind outcome.lines (next outcome.values)
after (Exit code) outcome next = outcome

-- one after the other
abbrev pub then_do : Outcome → (Values → Outcome) → Outcome
then_do outcome next = after outcome.ending outcome next

-- nothing is done
abbrev pub nothing : Action
nothing input values = falls values
