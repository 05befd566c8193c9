use Rattle.tool_calls.proofs.AnswerLemmas.{no_script}
use Rattle.tool_calls.proofs.answering.script_in.Goals as goal

pub returns-in-Err-clause-hindered : goal.returns-in-Err-clause-hindered
returns-in-Err-clause-hindered c = no_script c.args.bytes.now c.in-Err.fault c.hindrance.result c.in-Err.ensures.refused c.hindrance.ensures
