-- WHENs that are never taken (docs/manual/tool.md, "Linting a deck").
use Rattle.std.specs.Prelude.{◌+◌, ◌&&◌, ◌++◌, ℕ, Bool, false, List, [], ◌∷◌, Option, Some, None, nat_le, if◌then◌else◌}
use Rattle.std.specs.List.{list_all, list_any}
use Rattle.acs_tree.specs.declared.routine.Operand.{Operand}
use Rattle.acs_tree.specs.declared.routine.Ref.{Ref}
use Rattle.acs_tree.specs.declared.routine.When.{When, out-When}
use Rattle.acs_tree.specs.declared.routine.WhenTest.{WhenTest}
use Rattle.acs_tree.specs.declared.routine.WhenTest.TheVariants.{Any, Holds}
use Rattle.acs_lint.specs.Covering.{covers, implied_by}
use Rattle.acs_lint.specs.declared.finding.Finding.{Finding}
use Rattle.acs_lint.specs.declared.finding.Finding.TheVariants.{Covered}

-- so many tokens before a WHEN an earlier one is looked at
abbrev pub most_tokens_back : ℕ
most_tokens_back = 500

-- each item is covered by one of the others
abbrev pub any_covers : Ref → List Operand → Operand → Bool
any_covers subject others item = list_any (λ other. covers subject other.form item.form) others

-- items beside what a SELECT compares are met only where others are; beside nothing none is
abbrev pub items_implied : Option Ref → List Operand → List Operand → Bool
items_implied None others items = false
items_implied (Some subject) others items = list_all (any_covers subject others) items

-- what the one WHEN asks is implied by what the other asks
abbrev pub test_implied : Option Ref → WhenTest → WhenTest → Bool
test_implied subject (Holds earlier) (Holds later) = implied_by earlier later
test_implied subject (Holds earlier) (Any items) = false
test_implied subject (Any others) (Holds later) = false
test_implied subject (Any others) (Any items) = items_implied subject others items

-- an earlier WHEN that stands near enough holds wherever a later one does
abbrev pub covers_when : Option Ref → When → When → Bool
covers_when subject later earlier =
    nat_le (out-When later).at ((out-When earlier).at + most_tokens_back) &&
    test_implied subject (out-When earlier).test (out-When later).test

-- the first of the earlier WHENs that covers a later one
abbrev pub coverer : Option Ref → When → List When → Option ℕ
coverer subject later [] = None
coverer subject later (earlier ∷ others) =
    if covers_when subject later earlier then Some (out-When earlier).at else coverer subject later others

-- the finding on a WHEN, where an earlier one covers it
abbrev pub covered_if : ℕ → Option ℕ → List Finding
covered_if arm None = []
covered_if arm (Some since) = Covered arm since ∷ []

-- the findings on WHENs that stand behind others
abbrev pub covered_behind : Option Ref → List When → List When → List Finding
covered_behind subject before [] = []
covered_behind subject before (arm ∷ arms) =
    covered_if (out-When arm).at (coverer subject arm before) ++ covered_behind subject (before ++ arm ∷ []) arms

-- the findings on the WHENs of a SELECT
abbrev pub covered_in : Option Ref → List When → List Finding
covered_in subject whens = covered_behind subject [] whens
