use Rattle.std.proofs.Common.{List, subst}
use Rattle.std.specs.Prelude.{IfOk}
use Rattle.acs_test.specs.declared.case.Case.{Case}
use Rattle.case_scripts.specs.CaseScripts.{script_of_cases}
use Rattle.sms_script.specs.Script.{items_of}
use Rattle.tool_calls.specs.CaseAnswers.{case_of}
use Rattle.tool_calls.specs.ScriptText.{IsScriptAnswer}
use Rattle.tool_calls.proofs.CaseLemmas.{cases_told, table_told}
use Rattle.tool_calls.proofs.cases.told_parts.Goals as goal

pub returns-in-Ok : goal.returns-in-Ok
returns-in-Ok c =
    let deck = c.args.parts.deck.now in
    let task = c.args.task.now in
    cases_told deck c.args.parts.table.now task c.in-Ok.cases c.told_under.result c.in-Ok.ensures.ok
    (subst (λ (cases : List Case). IfOk c.told_under.result (λ found. IsScriptAnswer task (items_of (script_of_cases deck (case_of task) cases)) found.0 found.1))
    c.as_slice.ensures c.told_under.ensures)

pub returns-in-Err : goal.returns-in-Err
returns-in-Err c = table_told c.args.parts.deck.now c.args.parts.table.now c.args.task.now c.in-Err.err c.told.result c.in-Err.ensures.err c.told.ensures
