-- What is told of the cases of a table.
use Rattle.std.proofs.Common.{◌≡◌, ℕ, List, Ok, Err, Some, sym, subst, inr, refl}
use Rattle.std.specs.Prelude.{IfOk, Result}
use Rattle.acs_test.specs.Records.{TableGives}
use Rattle.acs_test.specs.declared.case.Case.{Case}
use Rattle.acs_test.specs.declared.cases_err.CasesErr.{CasesErr}
use Rattle.acs_test.specs.declared.cases_err.CasesErr.TheVariants as cases_errs
use Rattle.case_scripts.specs.CaseScripts.{script_of_cases}
use Rattle.desk_common.specs.Exact.{MayRefuse}
use Rattle.sms_script.specs.Script.{items_of}
use Rattle.tool_calls.specs.CaseAnswers.{IsCasesAnswer, case_of, told, untold}
use Rattle.tool_calls.specs.CasesText.{TellsCases}
use Rattle.tool_calls.specs.ScriptText.{IsScriptAnswer}
use Rattle.tool_calls.specs.declared.status.ToolStatus.{ToolStatus}
use Rattle.tool_calls.specs.declared.status.ToolStatus.TheVariants.{FaultFound}
use Rattle.tool_words.specs.declared.script_task.ScriptTask.{ScriptTask}
use Rattle.tool_calls.proofs.AnswerLemmas.{told_as}
use Rattle.tool_calls.proofs.ScriptLemmas.{IsEnd, script_ends}

module _ (deck table : List ℕ) (task : ScriptTask) where
  pub cases_told : {E : Type 0} (cases : List Case) (made : Result (ToolStatus × List ℕ) E) → TableGives table (Ok cases) → IfOk made (λ found. IsScriptAnswer task (items_of (script_of_cases deck (case_of task) cases)) found.0 found.1)
      → IfOk made (λ found. IsCasesAnswer deck table task found.0 found.1)
  cases_told cases (Ok found) gives is = told cases found.0 found.1 gives is
  cases_told cases (Err err) gives is = tt

  pub table_told : {E : Type 0} (err : CasesErr) (made : Result (ToolStatus × List ℕ) E) → MayRefuse (λ err. TableGives table (Err err)) (Some cases_errs.NoMemory) err → IfOk made (λ found. (found.0 ≡ FaultFound) × TellsCases err found.1)
      → IfOk made (λ found. IsCasesAnswer deck table task found.0 found.1)
  table_told err (Ok found) is e =
      subst (λ x. IsCasesAnswer deck table task x found.1) (sym e.0)
      (told_as (λ (err : CasesErr). TableGives table (Err err)) (IsCasesAnswer deck table task FaultFound) untold found.1 err is e.1)
  table_told err (Err want) is e = tt

pub cases_end : {deck table text : List ℕ} {task : ScriptTask} {status : ToolStatus} → IsCasesAnswer deck table task status text → IsEnd status
cases_end {deck} {task = task} (told cases status text gives is) = script_ends task (items_of (script_of_cases deck (case_of task) cases)) is
cases_end (untold err gives) = inr refl
