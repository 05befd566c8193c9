use Rattle.std.proofs.lemmas.Result.{IfOk-weaker, IfErr-weaker}
use Rattle.tool_calls.proofs.AnswerLemmas.{script_told, script_hindered, unread_script}
use Rattle.tool_calls.proofs.answering.scripted.Goals as goal

pub returns-in-Err-clause-hindered : goal.returns-in-Err-clause-hindered
returns-in-Err-clause-hindered c = unread_script c.args.bytes.now c.args.task.now c.in-Err.why c.in-Err.ensures.hindered

pub returns-in-Ok-told_of-clause-answer : goal.returns-in-Ok-told_of-clause-answer
returns-in-Ok-told_of-clause-answer c =
    IfOk-weaker c.answer_told.result _ _ (λ found tells. script_told c.args.task.now c.in-Ok.script c.in-Ok-told_of.told c.in-Ok.ensures.script c.in-Ok-told_of.ensures tells) c.answer_told.ensures.answer

pub returns-in-Ok-told_of-clause-hindered : goal.returns-in-Ok-told_of-clause-hindered
returns-in-Ok-told_of-clause-hindered c =
    IfErr-weaker c.answer_told.result _ _ (λ why e. script_hindered c.args.bytes.now c.args.task.now c.in-Ok.script c.in-Ok-told_of.told why c.in-Ok.ensures.script c.in-Ok-told_of.ensures e) c.answer_told.ensures.hindered
