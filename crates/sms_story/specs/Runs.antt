-- Which routines of a configuration run while a new data set is classified, and what happens in each
-- (docs/manual/tool.md, "Explaining a script"; docs/manual/rules.md, "Classification").
use Rattle.std.specs.Prelude.{◌≡◌, ◌++◌, Bool, true, false, ◌||◌, ℕ, List, [], ◌∷◌, Option, None, Some, is_some}
use Rattle.std.specs.Prelude.{if◌then◌else◌}
use Rattle.acs_trace.specs.Story.{Told, story_of}
use Rattle.acs_tree.specs.CheckedRoutine.{CheckedRoutine}
use Rattle.acs_tree.specs.Inputs.{input_under}
use Rattle.acs_tree.specs.Meaning.{meaning_of}
use Rattle.acs_tree.specs.Outcome.{Outcome, falls}
use Rattle.acs_tree.specs.declared.input.Input.{Input}
use Rattle.acs_tree.specs.declared.kind.Kind.{Kind}
use Rattle.acs_tree.specs.declared.kind.Kind.TheVariants.{DataClas, StorClas, MgmtClas, StorGrp}
use Rattle.acs_tree.specs.declared.values.Values.{Values}
use Rattle.sms_construct.specs.Configuration.{Configuration, routine_of}
use Rattle.sms_construct.specs.declared.alloc.Alloc.{Alloc}
use Rattle.desk_law.specs.Classification.{begin, class_of, class_stop, exit_stop, is_null}
use Rattle.sms_story.specs.declared.run.Run.{Run}

-- what a routine comes to on these values; a missing one leaves them
abbrev pub outcome_of : Option CheckedRoutine → Kind → Input → Values → Outcome
outcome_of None kind input values = falls values
outcome_of (Some routine) kind input values = meaning_of routine.tree kind input values

-- what the routine of a kind comes to on these values
abbrev pub comes_to : Configuration → Input → Kind → Values → Outcome
comes_to config input kind values = outcome_of (routine_of kind config.routines) kind input values

-- a run of a routine of a kind that began with these values and tells this
abbrev pub run_told : Kind → Values → Told → Run
run_told kind values told = record {
  kind = kind;
  begins = values;
  events = told.events;
  ends = told.outcome.values;
  ending = told.outcome.ending;
}

-- the run of a routine on these values tells its story; where there is none, nothing runs
abbrev pub runs_by : Option CheckedRoutine → Kind → Input → Values → List Run
runs_by None kind input values = []
runs_by (Some routine) kind input values = run_told kind values (story_of routine.tree kind input values) ∷ []

-- the run of the routine of a kind on these values
abbrev pub runs_of_kind : Configuration → Input → Kind → Values → List Run
runs_of_kind config input kind values = runs_by (routine_of kind config.routines) kind input values

-- the routine of a class that came to this stops the classification: its code isn't 0, or the class is neither null nor
-- one of the configuration
abbrev pub has_stop : Configuration → Kind → Outcome → Bool
has_stop config kind outcome =
    is_some (exit_stop kind outcome.ending) || is_some (class_stop config kind (class_of kind outcome.values))

-- nothing more runs where the classification is stopped
abbrev pub unless : Bool → List Run → List Run
unless stops runs = if stops then [] else runs

-- the runs from the management class routine on
abbrev pub from_management_class : Configuration → Input → Values → List Run
from_management_class config input values =
    let outcome = comes_to config input MgmtClas values in
    runs_of_kind config input MgmtClas values
    ++ unless (has_stop config MgmtClas outcome) (runs_of_kind config input StorGrp outcome.values)

-- the runs from the storage class routine on; no other follows where there is no storage class
abbrev pub from_storage_class : Configuration → Input → Values → List Run
from_storage_class config input values =
    let outcome = comes_to config input StorClas values in
    runs_of_kind config input StorClas values
    ++ unless (has_stop config StorClas outcome || is_null outcome.values.storclas)
    (from_management_class config input outcome.values)

-- the runs from the data class routine on
abbrev pub from_data_class : Configuration → Input → Values → List Run
from_data_class config input values =
    let outcome = comes_to config input DataClas values in
    runs_of_kind config input DataClas values
    ++ unless (has_stop config DataClas outcome) (from_storage_class config input outcome.values)

-- the runs of the classification of an ALLOC of a job
abbrev pub runs_of : Configuration → List ℕ → Alloc → List Run
runs_of config job alloc =
    from_data_class config (input_under alloc.input job config.system config.sysplex) (begin alloc).values

-- what the variables hold behind runs that began with these values
abbrev pub values_behind : Values → List Run → Values
values_behind values [] = values
values_behind values (run ∷ runs) = values_behind run.ends runs
