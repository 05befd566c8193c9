-- Classes that a configuration has.
use Rattle.std.specs.Prelude.{◌≡◌, ◌≢◌, false, ℕ, List, [], Option, Some, None, if◌then◌else◌}
use Rattle.acs_tree.specs.Slates.{same_kind}
use Rattle.acs_tree.specs.declared.input.Input.{Input}
use Rattle.acs_tree.specs.declared.kind.Kind.{Kind}
use Rattle.acs_tree.specs.declared.kind.Kind.TheVariants.{DataClas, StorClas, MgmtClas}
use Rattle.acs_tree.specs.declared.values.Values.{Values}
use Rattle.sms_construct.specs.Configuration.{Configuration, has_construct}
use Rattle.desk_law.specs.Classification.{Meanings, Progress, class_of, class_stop, is_null, run}

-- a class that isn't null, where the configuration has it
abbrev pub known_class : Configuration → Kind → List ℕ → Option (List ℕ)
known_class config kind class =
    if is_null class then None else (if has_construct kind class config then Some class else None)

-- the data class and the management class are null or ones of the configuration, the storage class is one of it, and
-- there is a storage group
pub record AreKnown (config : Configuration) (values : Values) : Type 0 where
  pub dataclas : class_stop config DataClas values.dataclas ≡ None
  pub storclas : known_class config StorClas values.storclas ≡ Some values.storclas
  pub mgmtclas : class_stop config MgmtClas values.mgmtclas ≡ None
  pub groups : values.groups ≢ []

-- the routine of that kind, if there is one, leaves the classes of the other kinds
abbrev pub LeavesOthers : Meanings → Kind → Type 0
LeavesOthers meanings kind = (input : Input) (before : Progress) (other : Kind) → same_kind kind other ≡ false →
    class_of other (run meanings input kind before).values ≡ class_of other before.values
