-- Statements that are never begun (docs/manual/tool.md, "Linting a deck").
use Rattle.std.specs.Prelude.{◌&&◌, ℕ, List, [], ◌∷◌, Option, Some, None, if◌then◌else◌}
use Rattle.acs_trace.specs.Lint.{always_exits}
use Rattle.acs_tree.specs.declared.routine.Stmt.{Stmt}
use Rattle.acs_lint.specs.declared.finding.Finding.{Finding}
use Rattle.acs_lint.specs.declared.finding.Finding.TheVariants.{Behind}

-- the finding on the statement behind one that always exits, if one stands there
abbrev pub behind_exit : ℕ → List Stmt → List Finding
behind_exit since [] = []
behind_exit since (next ∷ others) = Behind next.at since ∷ []

-- the finding on the first statement of a block that stands behind one that always exits
abbrev pub behind_in : List Stmt → List Finding
behind_in [] = []
behind_in (statement ∷ others) =
    if always_exits statement then behind_exit statement.at others else behind_in others
