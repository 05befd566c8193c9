-- The run of a routine, from what `follow` says of it.
use Rattle.std.proofs.Common.{◌≡◌, ◌++◌, List, [], ◌∷◌, Option, Some, None, IfSome, sym, ap, subst, ◌∙◌}
use Rattle.std.proofs.lemmas.Option.{same_Some}
use Rattle.acs_trace.specs.Story.{Told, outcome_told, story_of}
use Rattle.acs_trace.specs.declared.event.Event.{Event}
use Rattle.acs_tree.specs.CheckedRoutine.{CheckedRoutine}
use Rattle.acs_tree.specs.Meaning.{meaning_of}
use Rattle.acs_tree.specs.Outcome.{Outcome}
use Rattle.acs_tree.specs.declared.ending.Ending.{Ending}
use Rattle.acs_tree.specs.declared.input.Input.{Input}
use Rattle.acs_tree.specs.declared.kind.Kind.{Kind}
use Rattle.acs_tree.specs.declared.values.Values.{Values}
use Rattle.sms_story.specs.Inner.Steps.{RunsAs}
use Rattle.sms_story.specs.declared.run.Run.{Run}

-- a run that began and ended so
abbrev pub run_of : Kind → Values → List Event → Values → Ending → Run
run_of kind begins events ends ending = record { kind = kind; begins = begins; events = events; ends = ends; ending = ending }

-- the run is told of a routine as of one that was found
pub ran : (routine : CheckedRoutine) (input : Input) (before after : Values) (old new : List Run) (events : List Event) (ending : Ending)
    → outcome_told after events ending ≡ meaning_of routine.tree routine.kind input before
    → events ≡ (story_of routine.tree routine.kind input before).events
    → (story_of routine.tree routine.kind input before).outcome ≡ meaning_of routine.tree routine.kind input before
    → new ≡ old ++ run_of routine.kind before events after ending ∷ []
    → RunsAs (Some routine) routine.kind input before after old new ending
ran routine input before after old new events ending means tells story pushed =
    let told : Told = story_of routine.tree routine.kind input before in
    let values : after ≡ (meaning_of routine.tree routine.kind input before).values = ap (λ (o : Outcome). o.values) means in
    let ends : ending ≡ (meaning_of routine.tree routine.kind input before).ending = ap (λ (o : Outcome). o.ending) means in
    record {
      values = values;
      ends = ends;
      runs = pushed
          ∙ ap (λ (e : List Event). old ++ run_of routine.kind before e after ending ∷ []) tells
          ∙ ap (λ (v : Values). old ++ run_of routine.kind before told.events v ending ∷ []) (values ∙ sym (ap (λ (o : Outcome). o.values) story))
          ∙ ap (λ (x : Ending). old ++ run_of routine.kind before told.events told.outcome.values x ∷ []) (ends ∙ sym (ap (λ (o : Outcome). o.ending) story));
    }

-- the routine that was found is the one of its kind
pub found_runs : (routine : CheckedRoutine) (found : Option CheckedRoutine) (kind : Kind) (input : Input) (before after : Values) (old new : List Run) (ending : Ending)
    → Some routine ≡ found → IfSome found (λ r. r.kind ≡ kind) → RunsAs (Some routine) routine.kind input before after old new ending
    → RunsAs found kind input before after old new ending
found_runs routine None kind input before after old new ending same of_kind runs = absurd (cc same)
found_runs routine (Some found) kind input before after old new ending same of_kind runs =
    let is : routine ≡ found = same_Some _ _ same in
    let kind_is : routine.kind ≡ kind = ap (λ (r : CheckedRoutine). r.kind) is ∙ of_kind in
    subst (λ (k : Kind). RunsAs (Some found) k input before after old new ending) kind_is
    (subst (λ (r : CheckedRoutine). RunsAs (Some r) routine.kind input before after old new ending) is runs)
