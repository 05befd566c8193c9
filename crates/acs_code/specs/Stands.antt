-- When a code stands for a routine.
use Rattle.std.specs.Prelude.{◌≡◌, ◌<◌, ◌≤◌, ℕ, Some, length}
use Rattle.std.specs.List.{slice_get}
use Rattle.acs_tree.specs.declared.input.Input.{Input}
use Rattle.acs_tree.specs.declared.values.Values.{Values}
use Rattle.acs_tree.specs.CheckedRoutine.{CheckedRoutine}
use Rattle.acs_tree.specs.Meaning.{meaning_of}
use Rattle.acs_tree.specs.Outcome.{Outcome}
use Rattle.acs_code.specs.declared.instr.Instr.{Instr}
use Rattle.acs_code.specs.declared.instr.Instr.TheVariants.{Test, Jump}
use Rattle.acs_code.specs.declared.right.Right.{Right}
use Rattle.acs_code.specs.declared.right.Right.TheVariants.{Filter}
use Rattle.acs_code.specs.Machine.{CodeParts, ComesTo}

-- for every input and start values, the code comes to what the routine means, and to nothing else
pub record StandsFor (code : CodeParts) (routine : CheckedRoutine) : Type 0 where
  pub kind : code.kind ≡ routine.kind
  pub means : (input : Input) (values : Values) →
      ComesTo code input values (meaning_of routine.tree routine.kind input values)
  pub only : (input : Input) (values : Values) (outcome : Outcome) → ComesTo code input values outcome →
      outcome ≡ meaning_of routine.tree routine.kind input values

-- a filter list is one of so many
abbrev pub IsThere : ℕ → Right → Type 0
IsThere filters (Filter place) = place < filters
IsThere filters _ = Unit {0}

-- an instruction at this place goes on at a later place, which is at most the end, and its filter list is there
abbrev pub Goes : ℕ → ℕ → ℕ → Instr → Type 0
Goes filters end place (Test probe yes' no') =
    (place < yes') × (yes' ≤ end) × (place < no') × (no' ≤ end) × IsThere filters probe.right
Goes filters end place (Jump to) = (place < to) × (to ≤ end)
Goes filters end place _ = Unit {0}

-- each instruction goes forward
abbrev pub GoesForward : CodeParts → Type 0
GoesForward code = (place : ℕ) (instr : Instr) → slice_get code.instrs place ≡ Some instr →
    Goes (length code.filters) (length code.instrs) place instr
