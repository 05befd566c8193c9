use Rattle.std.proofs.Common.{◌≡◌, ◌++◌, ℕ, List, ap, subst, ◌∙◌}
use Rattle.std.specs.Prelude.{OnOk, Option, Some}
use Rattle.acs_coverage.specs.Counts.{tally_at}
use Rattle.acs_coverage.specs.declared.tally.Tally.{Tally}
use Rattle.acs_telling.specs.declared.source.Source.{Source}
use Rattle.acs_tree.specs.CheckedRoutine.{CheckedRoutine}
use Rattle.sms_construct.specs.Configuration.{routine_of}
use Rattle.sms_explain.specs.DeckTexts.{source_in}
use Rattle.sms_coverage.specs.Events.{tallies_in}
use Rattle.routine_records.specs.CoveredRecords.{routine_records}
use Rattle.routine_records.proofs.coverage.push_kind.Goals as goal

pub returns-in-Some : goal.returns-in-Some
returns-in-Some c =
    let form = c.args.form in
    let kind = c.args.kind in
    let source : Source = source_in c.args.reached.now.sources.now kind in
    let tallies : List Tally = tallies_in c.args.reached.now.tallies.now kind in
    let checked : CheckedRoutine = c.in-Some.checked.now in
    let given : Source = c.of_kind-source.result.now in
    let counts : List Tally = c.of_kind-counts.result.now in
    let found : Some checked ≡ routine_of kind c.args.reached.now.config.now.routines = rw c.in-Some.is at c.source.ensures in
    let same : routine_records form kind given (tally_at counts) (Some checked) ≡ routine_records form kind source (tally_at tallies) (routine_of kind c.args.reached.now.config.now.routines) =
    ap (λ (s : Source). routine_records form kind s (tally_at counts) (Some checked)) c.of_kind-source.ensures
    ∙ ap (λ (t : List Tally). routine_records form kind source (tally_at t) (Some checked)) c.of_kind-counts.ensures
    ∙ ap (λ (r : Option CheckedRoutine). routine_records form kind source (tally_at tallies) r) found in
    subst (λ (text : List ℕ). OnOk c.push_routine.result (c.push_routine.new.text.items ≡ c.args.text.now.items ++ text)) same c.push_routine.ensures
