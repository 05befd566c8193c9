use Rattle.tool_calls.proofs.AnswerLemmas.{listed_told, unlisted_told}
use Rattle.tool_calls.proofs.comparing.compared_parts.Goals as goal

pub returns-in-Ok : goal.returns-in-Ok
returns-in-Ok c = listed_told _ _ c.args.comparison c.in-Ok.cases c.listed.result c.in-Ok.ensures.ok c.listed.ensures

pub returns-in-Err : goal.returns-in-Err
returns-in-Err c = unlisted_told _ _ c.args.comparison c.in-Err.err c.told.result c.in-Err.ensures.err c.told.ensures
