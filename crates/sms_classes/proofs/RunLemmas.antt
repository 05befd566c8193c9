-- The run of a code is the run of its routine.
use Rattle.std.proofs.Common.{◌≡◌, Option, Some, None, MatchOption, IfSome, option_map, ap, ◌∙◌, subst}
use Rattle.acs_code.specs.Machine.{CodeParts, ComesTo}
use Rattle.acs_code.specs.Stands.{StandsFor}
use Rattle.acs_tree.specs.CheckedRoutine.{CheckedRoutine}
use Rattle.acs_tree.specs.KeptLines.{kept_lines_of}
use Rattle.acs_tree.specs.Meaning.{meaning_of}
use Rattle.acs_tree.specs.Outcome.{Outcome}
use Rattle.acs_tree.specs.Slates.{SlateLines, with_kept_lines}
use Rattle.acs_tree.specs.declared.ending.Ending.{Ending}
use Rattle.acs_tree.specs.declared.ending.Ending.TheVariants as endings
use Rattle.acs_tree.specs.declared.input.Input.{Input}
use Rattle.acs_tree.specs.declared.kind.Kind.{Kind}
use Rattle.acs_tree.specs.declared.values.Values.{Values}
use Rattle.desk_law.specs.Classification.{run_of}
use Rattle.sms_classes.specs.Inner.Onward.{progress}

-- the code stands for the routine that was found
abbrev pub StandsIn : Option CheckedRoutine → CodeParts → Type 0
StandsIn found code = MatchOption found (Some code ≡ None) (λ routine. StandsFor code routine)

pub kind_is : (found : Option CheckedRoutine) (kind : Kind) (code : CodeParts) → StandsIn found code → IfSome found (λ routine. routine.kind ≡ kind) → code.kind ≡ kind
kind_is None kind code stands of_kind = absurd (let e : Some code ≡ None = stands in cc)
kind_is (Some routine) kind code stands of_kind = stands.kind ∙ of_kind

pub run_is : (found : Option CheckedRoutine) (kind : Kind) (code : CodeParts) (input : Input) (values : Values) (written : SlateLines) {values' : Values} {written' : SlateLines} {ending : Ending}
    → StandsIn found code → IfSome found (λ routine. routine.kind ≡ kind)
    → ((came : Outcome) → ComesTo code input values came → values' ≡ came.values) → ((came : Outcome) → ComesTo code input values came → ending ≡ came.ending)
    → ((came : Outcome) → ComesTo code input values came → written' ≡ with_kept_lines code.kind (kept_lines_of came.lines) written)
    → progress values' written' ending ≡ run_of (option_map (λ routine. meaning_of routine.tree kind) found) input kind (progress values written endings.Falls)
run_is None kind code input values written stands of_kind v e w = absurd (let e : Some code ≡ None = stands in cc)
run_is (Some routine) kind code input values written {values'} {written'} {ending} stands of_kind v e w =
    let came : Outcome = meaning_of routine.tree kind input values in
    let runs : ComesTo code input values came = subst (ComesTo code input values) (ap (λ k. meaning_of routine.tree k input values) of_kind) (stands.means input values) in
    let v' : values' ≡ came.values = v came runs in
    let e' : ending ≡ came.ending = e came runs in
    let w' : written' ≡ with_kept_lines kind (kept_lines_of came.lines) written =
    w came runs ∙ ap (λ (k : Kind). with_kept_lines k (kept_lines_of came.lines) written) (stands.kind ∙ of_kind) in
    cc
