-- A routine leaves the classes of the other kinds, as its code does.
use Rattle.std.proofs.Common.{◌≡◌, false, Option, Some, None, MatchOption, IfSome, option_map, refl, ap, ◌∙◌, subst}
use Rattle.std.proofs.Common.{Bor}
use Rattle.acs_code.specs.Machine.{CodeParts, ComesTo}
use Rattle.acs_code.specs.Stands.{StandsFor}
use Rattle.acs_tree.specs.CheckedRoutine.{CheckedRoutine}
use Rattle.acs_tree.specs.Meaning.{meaning_of}
use Rattle.acs_tree.specs.Outcome.{Outcome}
use Rattle.acs_tree.specs.Slates.{same_kind}
use Rattle.acs_tree.specs.declared.input.Input.{Input}
use Rattle.acs_tree.specs.declared.kind.Kind.{Kind}
use Rattle.desk_law.specs.Classification.{Progress, class_of, run_of}
use Rattle.sms_classes.proofs.KeepLemmas.{run_keeps}

pub leaves_is : (found : Option CheckedRoutine) (kind : Kind) (got : Option (Bor CodeParts))
    → MatchOption found (option_map (λ (c : Bor CodeParts). c.now) got ≡ None) (λ routine. MatchOption got ⊥ (λ code. StandsFor code.now routine))
    → IfSome found (λ routine. routine.kind ≡ kind)
    → (input : Input) (before : Progress) (other : Kind) → same_kind kind other ≡ false
    → class_of other (run_of (option_map (λ routine. meaning_of routine.tree kind) found) input kind before).values ≡ class_of other before.values
leaves_is None kind got stands of_kind input before other differ = refl
leaves_is (Some routine) kind None stands of_kind input before other differ = absurd stands
leaves_is (Some routine) kind (Some code) stands of_kind input before other differ =
    let came : Outcome = meaning_of routine.tree kind input before.values in
    let runs : ComesTo code.now input before.values came = subst (ComesTo code.now input before.values) (ap (λ k. meaning_of routine.tree k input before.values) of_kind) (stands.means input before.values) in
    let apart : same_kind code.now.kind other ≡ false = ap (λ k. same_kind k other) (stands.kind ∙ of_kind) ∙ differ in
    run_keeps code.now other input runs apart
