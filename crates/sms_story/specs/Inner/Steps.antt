-- A routine that is run, and what is told of it.
use Rattle.std.specs.Prelude.{◌≡◌, ◌++◌, List, Option}
use Rattle.acs_tree.specs.CheckedRoutine.{CheckedRoutine}
use Rattle.acs_tree.specs.declared.ending.Ending.{Ending}
use Rattle.acs_tree.specs.declared.input.Input.{Input}
use Rattle.acs_tree.specs.declared.kind.Kind.{Kind}
use Rattle.acs_tree.specs.declared.values.Values.{Values}
use Rattle.sms_story.specs.Runs.{outcome_of, runs_by}
use Rattle.sms_story.specs.declared.run.Run.{Run}

-- a routine, if there is one, was run on these values, and its run was told
pub record RunsAs (found : Option CheckedRoutine) (kind : Kind) (input : Input) (before after : Values)
    (old new : List Run) (ending : Ending) : Type 0 where
  pub values : after ≡ (outcome_of found kind input before).values
  pub ends : ending ≡ (outcome_of found kind input before).ending
  pub runs : new ≡ old ++ runs_by found kind input before
