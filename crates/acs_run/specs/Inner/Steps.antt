-- One instruction after another.
use Rattle.std.specs.Prelude.{◌≡◌, ◌<◌, ◌≤◌, ℕ, List, [], ◌∷◌, length}
use Rattle.acs_tree.specs.declared.ending.Ending.TheVariants.{Exit}
use Rattle.acs_tree.specs.declared.input.Input.{Input}
use Rattle.acs_tree.specs.declared.kind.Kind.{Kind}
use Rattle.acs_tree.specs.declared.values.Values.{Values}
use Rattle.acs_tree.specs.Outcome.{Outcome}
use Rattle.acs_tree.specs.Slates.{SlateLines, with_line}
use Rattle.acs_code.specs.Machine.{CodeParts}
use Rattle.acs_code.specs.Inner.Steps.{rest_of}
use Rattle.acs_run.specs.declared.machine.Next.{Next}
use Rattle.acs_run.specs.declared.machine.Next.TheVariants.{On, Exited}

-- a slate with lines of that kind, one after another
abbrev pub with_lines : Kind → SlateLines → List (List ℕ) → SlateLines
with_lines kind slate [] = slate
with_lines kind slate (line ∷ lines) = with_lines kind (with_line kind line slate) lines

-- what is to come, with what is written, is what was to come, with what was written
pub record Same (kind : Kind) (one other : Outcome) (before now : SlateLines) : Type 0 where
  pub values : one.values ≡ other.values
  pub ending : one.ending ≡ other.ending
  pub written : with_lines kind before one.lines ≡ with_lines kind now other.lines

-- an instruction leads on to a later place and leaves the same to come, or to the ending
abbrev pub Leads : CodeParts → Input → ℕ → Values → SlateLines → Values → SlateLines → Next → Type 0
Leads code input place values slate values' slate' (On to) =
    (place < to) × (to ≤ length code.instrs) ×
    Same code.kind (rest_of code input place values) (rest_of code input to values') slate slate'
Leads code input place values slate values' slate' (Exited number) =
    (values' ≡ (rest_of code input place values).values) × (Exit number ≡ (rest_of code input place values).ending) ×
    (slate' ≡ with_lines code.kind slate (rest_of code input place values).lines)
