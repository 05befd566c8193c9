use Rattle.std.proofs.Common.{◌≡◌, ◌++◌, List, ap, subst}
use Rattle.std.specs.Prelude.{OnOk, Option, Some}
use Rattle.acs_tree.specs.CheckedRoutine.{CheckedRoutine}
use Rattle.sms_construct.specs.Configuration.{routine_of}
use Rattle.sms_lint.specs.DeckFound.{found_in_routine}
use Rattle.sms_lint.specs.declared.deck_finding.DeckFinding.{DeckFinding}
use Rattle.sms_lint.proofs.routines.push_kind.Goals as goal

pub returns-in-Some : goal.returns-in-Some
returns-in-Some c =
    let kind = c.args.kind in
    let found : Some c.in-Some.checked.now ≡ routine_of kind c.args.config.now.routines = rw c.in-Some.is at c.source.ensures in
    subst (λ (findings : List DeckFinding). OnOk c.push_routine.result (c.push_routine.new.found.items ≡ c.args.found.now.items ++ findings)) (ap (λ (r : Option CheckedRoutine). found_in_routine kind r) found) c.push_routine.ensures
