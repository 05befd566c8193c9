-- The script is that of the cases under the deck.
use Rattle.std.proofs.Common.{◌≡◌, ◌∙◌, ℕ, List, ap, subst}
use Rattle.std.specs.Prelude.{Option}
use Rattle.case_scripts.specs.CaseScripts.{script_of_cases}
use Rattle.sms_script.specs.Script.{items_of}
use Rattle.sms_script.specs.declared.item.Item.{Item}
use Rattle.tool_calls.specs.CaseAnswers.{case_of}
use Rattle.tool_calls.specs.ScriptText.{IsScriptAnswer}
use Rattle.tool_calls.proofs.AnswerLemmas.{items_told}
use Rattle.tool_calls.proofs.cases.told_under.Goals as goal

pub returns-in-Ok : goal.returns-in-Ok
returns-in-Ok c =
    let task = c.args.task.now in
    let cases = c.args.cases.now in
    let deck = c.args.parts.deck.now in
    let script = c.in_ok-script.script in
    let found = c.in-Ok.found in
    let same : items_of script ≡ items_of (script_of_cases deck (case_of task) cases) =
    ap items_of
    (c.in_ok-script.ensures
    ∙ ap (λ (bytes : List ℕ). script_of_cases bytes c.case_of.result cases) (c.in_ok-deck.ensures ∙ c.in_ok-from_slice.ensures)
    ∙ ap (λ (name : Option (List ℕ)). script_of_cases deck name cases) c.case_of.ensures) in
    subst (λ (items : List Item). IsScriptAnswer task items found.0 found.1) same
    (items_told task (items_of script) c.in_ok-told.told c.in_ok-told.ensures c.in-Ok.ensures.answer)
