-- Code that is written from its end: a place is told by how many instructions stand from there to the end, which no
-- instruction written later in front changes.
use Rattle.std.specs.Prelude.{◌≡◌, ◌-◌, ◌≤◌, ℕ, List, [], ◌∷◌, length, nat_lt, if◌then◌else◌}
use Rattle.dsn_mask.specs.Filter.{FilterLists}
use Rattle.acs_tree.specs.declared.input.Input.{Input}
use Rattle.acs_tree.specs.declared.kind.Kind.{Kind}
use Rattle.acs_tree.specs.declared.values.Values.{Values}
use Rattle.acs_tree.specs.Conditions as conditions
use Rattle.acs_tree.specs.Outcome.{Action, Outcome, falls, then_do}
use Rattle.acs_code.specs.declared.instr.Instr.{Instr}
use Rattle.acs_code.specs.declared.instr.Instr.TheVariants.{Test, Jump, SetClass, SetGroups, Write, Exit}
use Rattle.acs_code.specs.Inner.Steps.{act}
use Rattle.acs_code.specs.Stands.{IsThere}

-- running where so many instructions are left
abbrev pub leap : Kind → List FilterLists → Input → ℕ → List Instr → Values → Outcome
leap kind filters input left [] values = falls values
leap kind filters input left (instr ∷ instrs) values =
    if nat_lt (length instrs) left
    then act kind filters input instr (λ to. leap kind filters input to instrs) (length instrs) values
    else leap kind filters input left instrs values

-- an instruction goes on where at most so many are left, and its filter list is there
abbrev pub Below : ℕ → ℕ → Instr → Type 0
Below filters left (Test probe yes' no') = (yes' ≤ left) × (no' ≤ left) × IsThere filters probe.right
Below filters left (Jump to) = to ≤ left
Below filters left _ = Unit {0}

-- each goes on behind itself
abbrev pub AreBelow : ℕ → List Instr → Type 0
AreBelow filters [] = Unit {0}
AreBelow filters (instr ∷ instrs) = Below filters (length instrs) instr × AreBelow filters instrs

-- instructions written in front of others: every place in those is as before, and these too go on at places that are
-- there
pub record Over (kind : Kind) (filters : List FilterLists) (rest code : List Instr) : Type 0 where
  pub longer : length rest ≤ length code
  pub below : AreBelow (length filters) rest → AreBelow (length filters) code
  pub keeps : (input : Input) (left : ℕ) (values : Values) → left ≤ length rest →
      leap kind filters input left code values ≡ leap kind filters input left rest values

-- the code of a condition: it goes on at the one place where the condition holds, and at the other otherwise
pub record Branches (kind : Kind) (filters : List FilterLists) (test : conditions.Test) (one other : ℕ)
    (rest code : List Instr) : Type 0 where
  pub over : Over kind filters rest code
  pub goes : (input : Input) (values : Values) →
      leap kind filters input (length code) code values ≡
      leap kind filters input (if test input values then one else other) rest values

-- the code of a statement: it does what the statement does, and then what was there
pub record Does (kind : Kind) (filters : List FilterLists) (action : Action) (rest code : List Instr) : Type 0 where
  pub over : Over kind filters rest code
  pub does : (input : Input) (values : Values) →
      leap kind filters input (length code) code values ≡
      then_do (action input values) (λ after. leap kind filters input (length rest) rest after)

-- the same instruction by places from the front, in a code of so many instructions
abbrev pub placed : ℕ → Instr → Instr
placed count (Test probe yes' no') = Test probe (count - yes') (count - no')
placed count (Jump to) = Jump (count - to)
placed count (SetClass part) = SetClass part
placed count (SetGroups groups) = SetGroups groups
placed count (Write parts) = Write parts
placed count (Exit code) = Exit code
