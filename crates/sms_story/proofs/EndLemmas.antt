-- What holds behind the runs is what the classification comes to.
use Rattle.std.proofs.Common.{◌≡◌, ◌++◌, ◌||◌, ℕ, Bool, true, false, List, [], ◌∷◌, Option, Some, None, is_some, refl, sym, ap, ◌∙◌}
use Rattle.std.specs.Prelude.{if◌then◌else◌}
use Rattle.std.specs.Option.{option_or, option_map}
use Rattle.acs_trace.specs.Story.{story_of}
use Rattle.acs_tree.specs.CheckedRoutine.{CheckedRoutine}
use Rattle.acs_tree.specs.Meaning.{meaning_of}
use Rattle.acs_tree.specs.Outcome.{Outcome}
use Rattle.acs_tree.specs.declared.ending.Ending.{Ending}
use Rattle.acs_tree.specs.declared.input.Input.{Input}
use Rattle.acs_tree.specs.declared.kind.Kind.{Kind}
use Rattle.acs_tree.specs.declared.kind.Kind.TheVariants.{DataClas, StorClas, MgmtClas, StorGrp}
use Rattle.acs_tree.specs.declared.routine.Routine.{Routine}
use Rattle.acs_tree.specs.declared.values.Values.{Values}
use Rattle.sms_construct.specs.Configuration.{Configuration, routine_of}
use Rattle.sms_construct.specs.declared.stop.Stop.{Stop}
use Rattle.desk_law.specs.Classification.{Classes, Progress, after_class, class_of, class_stop, classes_under, end_with_groups, exit_stop}
use Rattle.desk_law.specs.Classification.{if_managed, is_null, meanings_of, run, run_of, unless_stopped}
use Rattle.sms_story.specs.Runs.{comes_to, from_data_class, from_management_class, from_storage_class, has_stop, outcome_of}
use Rattle.sms_story.specs.Runs.{runs_by, runs_of_kind, unless, values_behind}
use Rattle.sms_story.specs.declared.run.Run.{Run}

-- each routine's story comes to what it means
abbrev pub TellsTruth : Type 0
TellsTruth = (routine : Routine) (kind : Kind) (input : Input) (values : Values) → (story_of routine kind input values).outcome ≡ meaning_of routine kind input values

behind_parts : (values : Values) (one two : List Run) → values_behind values (one ++ two) ≡ values_behind (values_behind values one) two
behind_parts values [] two = refl
behind_parts values (run ∷ one) two = behind_parts run.ends one two

behind_run : TellsTruth → (found : Option CheckedRoutine) (kind : Kind) (input : Input) (values : Values) → values_behind values (runs_by found kind input values) ≡ (outcome_of found kind input values).values
behind_run is None kind input values = refl
behind_run is (Some routine) kind input values = ap (λ (o : Outcome). o.values) (is routine.tree kind input values)

-- a run of the classification comes to the same as that of its routine
run_values : (found : Option CheckedRoutine) (kind : Kind) (input : Input) (before : Progress) → (run_of (option_map (λ routine. meaning_of routine.tree kind) found) input kind before).values ≡ (outcome_of found kind input before.values).values
run_values None kind input before = refl
run_values (Some routine) kind input before = refl

run_ends : (found : Option CheckedRoutine) (kind : Kind) (input : Input) (before : Progress) → (run_of (option_map (λ routine. meaning_of routine.tree kind) found) input kind before).ending ≡ (outcome_of found kind input before.values).ending
run_ends None kind input before = refl
run_ends (Some routine) kind input before = refl

some_or : {A : Type 0} (one two : Option A) → (is_some one || is_some two) ≡ is_some (option_or one two)
some_or None two = refl
some_or (Some x) two = refl

stopped : (stop : Option Stop) (stops : Bool) (progress : Progress) (next : Progress → Classes) (runs : List Run) → stops ≡ is_some stop → (next progress).values ≡ values_behind progress.values runs
    → (unless_stopped stop progress next).values ≡ values_behind progress.values (unless stops runs)
stopped None true progress next runs s e = absurd (cc s)
stopped None false progress next runs s e = e
stopped (Some stop) true progress next runs s e = refl
stopped (Some stop) false progress next runs s e = absurd (cc s)

managed : (null : Bool) (progress : Progress) (came other : Classes) (runs : List Run) → other.values ≡ progress.values → came.values ≡ values_behind progress.values runs
    → (if null then other else came).values ≡ values_behind progress.values (unless null runs)
managed true progress came other runs o e = o
managed false progress came other runs o e = e

unless_both : (one two : Bool) (runs : List Run) → unless one (unless two runs) ≡ unless (one || two) runs
unless_both true two runs = refl
unless_both false two runs = refl

groups_values : (groups : List (List ℕ)) (progress : Progress) → (end_with_groups groups progress).values ≡ progress.values
groups_values [] progress = refl
groups_values (group ∷ groups) progress = refl

last_values : (stop : Option Stop) (progress : Progress) → (unless_stopped stop progress (λ listed. end_with_groups listed.values.groups listed)).values ≡ progress.values
last_values None progress = groups_values progress.values.groups progress
last_values (Some stop) progress = refl

-- one routine, and what follows behind it
section_values : TellsTruth → (config : Configuration) (input : Input) (kind : Kind) (before : Progress) (rest : List Run)
    → values_behind before.values (runs_of_kind config input kind before.values ++ rest) ≡ values_behind (run (meanings_of config) input kind before).values rest
section_values is config input kind before rest =
    behind_parts before.values (runs_of_kind config input kind before.values) rest
    ∙ ap (λ (v : Values). values_behind v rest) (behind_run is (routine_of kind config.routines) kind input before.values ∙ sym (run_values (routine_of kind config.routines) kind input before))

same_stop : (config : Configuration) (input : Input) (kind : Kind) (before : Progress)
    → has_stop config kind (comes_to config input kind before.values) ≡ is_some (option_or (exit_stop kind (run (meanings_of config) input kind before).ending) (class_stop config kind (class_of kind (run (meanings_of config) input kind before).values)))
same_stop config input kind before =
    let found = routine_of kind config.routines in
    ap (λ (e : Ending). is_some (exit_stop kind e) || is_some (class_stop config kind (class_of kind (comes_to config input kind before.values).values))) (sym (run_ends found kind input before))
    ∙ ap (λ (v : Values). is_some (exit_stop kind (run (meanings_of config) input kind before).ending) || is_some (class_stop config kind (class_of kind v))) (sym (run_values found kind input before))
    ∙ some_or (exit_stop kind (run (meanings_of config) input kind before).ending) (class_stop config kind (class_of kind (run (meanings_of config) input kind before).values))

-- the parts of a classification
abbrev pub groups_part : Configuration → Input → Progress → Classes
groups_part config input third =
    unless_stopped (exit_stop StorGrp (run (meanings_of config) input StorGrp third).ending) (run (meanings_of config) input StorGrp third) (λ listed. end_with_groups listed.values.groups listed)

abbrev pub management_part : Configuration → Input → Progress → Classes
management_part config input second = after_class config MgmtClas (run (meanings_of config) input MgmtClas second) (groups_part config input)

abbrev pub storage_part : Configuration → Input → Progress → Classes
storage_part config input first =
    after_class config StorClas (run (meanings_of config) input StorClas first) (λ second. if_managed second (management_part config input))

group_values : TellsTruth → (config : Configuration) (input : Input) (before : Progress) → (groups_part config input before).values ≡ values_behind before.values (runs_of_kind config input StorGrp before.values)
group_values is config input before =
    last_values (exit_stop StorGrp (run (meanings_of config) input StorGrp before).ending) (run (meanings_of config) input StorGrp before)
    ∙ run_values (routine_of StorGrp config.routines) StorGrp input before
    ∙ sym (behind_run is (routine_of StorGrp config.routines) StorGrp input before.values)

management_values : TellsTruth → (config : Configuration) (input : Input) (before : Progress) → (management_part config input before).values ≡ values_behind before.values (from_management_class config input before.values)
management_values is config input before =
    let after : Progress = run (meanings_of config) input MgmtClas before in
    let outcome : Outcome = comes_to config input MgmtClas before.values in
    let stops : Bool = has_stop config MgmtClas outcome in
    stopped _ stops after (groups_part config input) (runs_of_kind config input StorGrp after.values) (same_stop config input MgmtClas before) (group_values is config input after)
    ∙ ap (λ (v : Values). values_behind after.values (unless stops (runs_of_kind config input StorGrp v))) (run_values (routine_of MgmtClas config.routines) MgmtClas input before)
    ∙ sym (section_values is config input MgmtClas before (unless stops (runs_of_kind config input StorGrp outcome.values)))

storage_values : TellsTruth → (config : Configuration) (input : Input) (before : Progress) → (storage_part config input before).values ≡ values_behind before.values (from_storage_class config input before.values)
storage_values is config input before =
    let after : Progress = run (meanings_of config) input StorClas before in
    let outcome : Outcome = comes_to config input StorClas before.values in
    let stops : Bool = has_stop config StorClas outcome in
    let null : Bool = is_null after.values.storclas in
    stopped _ stops after (λ second. if_managed second (management_part config input)) (unless null (from_management_class config input after.values)) (same_stop config input StorClas before)
    (managed null after (management_part config input after) _ (from_management_class config input after.values) refl (management_values is config input after))
    ∙ ap (λ (runs : List Run). values_behind after.values runs) (unless_both stops null (from_management_class config input after.values))
    ∙ ap (λ (v : Values). values_behind after.values (unless (stops || is_null v.storclas) (from_management_class config input v))) (run_values (routine_of StorClas config.routines) StorClas input before)
    ∙ sym (section_values is config input StorClas before (unless (stops || is_null outcome.values.storclas) (from_management_class config input outcome.values)))

-- the values behind the runs are those of the classification
pub classes_values : TellsTruth → (config : Configuration) (input : Input) (before : Progress) → (classes_under config (meanings_of config) input before).values ≡ values_behind before.values (from_data_class config input before.values)
classes_values is config input before =
    let after : Progress = run (meanings_of config) input DataClas before in
    let outcome : Outcome = comes_to config input DataClas before.values in
    let stops : Bool = has_stop config DataClas outcome in
    stopped _ stops after (storage_part config input) (from_storage_class config input after.values) (same_stop config input DataClas before) (storage_values is config input after)
    ∙ ap (λ (v : Values). values_behind after.values (unless stops (from_storage_class config input v))) (run_values (routine_of DataClas config.routines) DataClas input before)
    ∙ sym (section_values is config input DataClas before (unless stops (from_storage_class config input outcome.values)))
