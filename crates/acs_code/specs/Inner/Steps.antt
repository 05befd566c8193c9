-- Running as a function, which stops behind so many steps.
use Rattle.std.specs.Prelude.{ℕ, zero, suc, List, [], ◌∷◌, Option, Some, None, length, slice_get, if◌then◌else◌}
use Rattle.dsn_mask.specs.Filter.{FilterLists}
use Rattle.acs_tree.specs.declared.input.Input.{Input}
use Rattle.acs_tree.specs.declared.kind.Kind.{Kind}
use Rattle.acs_tree.specs.declared.values.Values.{Values}
use Rattle.acs_tree.specs.Outcome.{Outcome, behind, exits, falls}
use Rattle.acs_tree.specs.Setting.{with_class}
use Rattle.acs_code.specs.declared.instr.Instr.{Instr}
use Rattle.acs_code.specs.declared.instr.Instr.TheVariants.{Test, Jump, SetClass, SetGroups, Write, Exit}
use Rattle.acs_code.specs.Machine.{CodeParts, part_class, parts_line, probe_holds}

-- one instruction: `next` goes on at a place, and `past` is the place behind the instruction
abbrev pub act : Kind → List FilterLists → Input → Instr → (ℕ → Values → Outcome) → ℕ → Values → Outcome
act kind filters input (Test probe yes' no') next past values =
    next (if probe_holds filters probe input values then yes' else no') values
act kind filters input (Jump to) next past values = next to values
act kind filters input (SetClass part) next past values =
    next past (with_class kind (part_class part input values) values)
act kind filters input (SetGroups groups) next past values = next past (record values { groups = groups })
act kind filters input (Write parts) next past values = behind (parts_line parts input values ∷ []) (next past values)
act kind filters input (Exit code) next past values = exits code values

-- the instruction that stands at a place, if there is one; past the end the run falls through
abbrev pub act_if_any : Kind → List FilterLists → Input → Option Instr → (ℕ → Values → Outcome) → ℕ → Values → Outcome
act_if_any kind filters input None next past values = falls values
act_if_any kind filters input (Some instr) next past values = act kind filters input instr next past values

-- running from a place for at most so many steps; behind those it falls through
abbrev pub run_for : CodeParts → Input → ℕ → ℕ → Values → Outcome
run_for code input zero place values = falls values
run_for code input (suc steps) place values =
    act_if_any code.kind code.filters input (slice_get code.instrs place) (run_for code input steps) (suc place) values

-- running from a place, with as many steps as there are instructions
abbrev pub rest_of : CodeParts → Input → ℕ → Values → Outcome
rest_of code input = run_for code input (length code.instrs)
