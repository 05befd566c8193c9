-- A routine leaves the classes of the other kinds.
use Rattle.std.proofs.Common.{◌≡◌, ℕ, true, false, List, refl, ◌∙◌}
use Rattle.acs_tree.specs.declared.input.Input.{Input}
use Rattle.acs_tree.specs.declared.kind.Kind.{Kind}
use Rattle.acs_tree.specs.declared.kind.Kind.TheVariants.{DataClas, StorClas, MgmtClas, StorGrp}
use Rattle.acs_tree.specs.declared.values.Values.{Values}
use Rattle.acs_tree.specs.Outcome.{Outcome}
use Rattle.acs_tree.specs.Setting.{with_class}
use Rattle.acs_tree.specs.Slates.{same_kind}
use Rattle.acs_code.specs.Machine.{CodeParts, RunsTo, exit, jump, past_end, set_class, set_groups, test, write}
use Rattle.desk_law.specs.Classification.{class_of}

no_way : true ≡ false → ⊥
no_way e = cc

class_kept : (kind other : Kind) (class : List ℕ) (values : Values) → same_kind kind other ≡ false → class_of other (with_class kind class values) ≡ class_of other values
class_kept StorGrp other class values e = refl
class_kept DataClas DataClas class values e = absurd (no_way e)
class_kept DataClas StorClas class values e = refl
class_kept DataClas MgmtClas class values e = refl
class_kept DataClas StorGrp class values e = refl
class_kept StorClas DataClas class values e = refl
class_kept StorClas StorClas class values e = absurd (no_way e)
class_kept StorClas MgmtClas class values e = refl
class_kept StorClas StorGrp class values e = refl
class_kept MgmtClas DataClas class values e = refl
class_kept MgmtClas StorClas class values e = refl
class_kept MgmtClas MgmtClas class values e = absurd (no_way e)
class_kept MgmtClas StorGrp class values e = refl

groups_apart : (other : Kind) (groups : List (List ℕ)) (values : Values) → class_of other (record values { groups = groups }) ≡ class_of other values
groups_apart DataClas groups values = refl
groups_apart StorClas groups values = refl
groups_apart MgmtClas groups values = refl
groups_apart StorGrp groups values = refl

-- a run keeps them from each of its instructions on
pub run_keeps : (code : CodeParts) (other : Kind) (input : Input) {place : ℕ} {values : Values} {came : Outcome} → RunsTo code input place values came → same_kind code.kind other ≡ false
    → class_of other came.values ≡ class_of other values
run_keeps code other input (test e runs) differ = run_keeps code other input runs differ
run_keeps code other input (jump e runs) differ = run_keeps code other input runs differ
run_keeps code other input (set_class {values} e runs) differ = run_keeps code other input runs differ ∙ class_kept code.kind other _ values differ
run_keeps code other input (set_groups {groups} {values} e runs) differ = run_keeps code other input runs differ ∙ groups_apart other groups values
run_keeps code other input (write e runs) differ = run_keeps code other input runs differ
run_keeps code other input (exit e) differ = refl
run_keeps code other input (past_end e) differ = refl
