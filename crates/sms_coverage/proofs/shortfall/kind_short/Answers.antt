use Rattle.std.proofs.Common.{◌≡◌, List, ap, ◌∙◌}
use Rattle.std.specs.Prelude.{Option, Some}
use Rattle.std.proofs.lemmas.Result.{IfOk-weaker}
use Rattle.acs_coverage.specs.Counts.{tally_at}
use Rattle.acs_coverage.specs.declared.tally.Tally.{Tally}
use Rattle.acs_tree.specs.CheckedRoutine.{CheckedRoutine}
use Rattle.sms_construct.specs.Configuration.{routine_of}
use Rattle.sms_coverage.specs.Events.{tallies_in}
use Rattle.sms_coverage.specs.Shortfall.{routine_short}
use Rattle.sms_coverage.proofs.shortfall.kind_short.Goals as goal

pub returns-in-Some : goal.returns-in-Some
returns-in-Some c =
    let kind = c.args.kind in
    let tallies : List Tally = tallies_in c.args.tallies.now kind in
    let checked : CheckedRoutine = c.in-Some.checked.now in
    let found : Some checked ≡ routine_of kind c.args.config.now.routines = rw c.in-Some.is at c.source.ensures in
    IfOk-weaker c.routine_short.result _ _ (λ short is. is
    ∙ ap (λ (t : List Tally). routine_short c.args.least (tally_at t) (Some checked)) c.of_kind.ensures
    ∙ ap (λ (r : Option CheckedRoutine). routine_short c.args.least (tally_at tallies) r) found) c.routine_short.ensures
