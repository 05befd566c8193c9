use Rattle.tool_calls.proofs.AnswerLemmas.{comparison_told, listed_told, unlisted_told}
use Rattle.tool_calls.proofs.comparing.compared.Goals as goal

-- the listing of what was read
pub returns-in-Ok : goal.returns-in-Ok
returns-in-Ok c = comparison_told c.args.bytes.now c.args.comparison c.listed.result (listed_told _ _ c.args.comparison c.in-Ok.cases c.listed.result c.in-Ok.ensures.ok c.listed.ensures)

pub returns-in-Err : goal.returns-in-Err
returns-in-Err c = comparison_told c.args.bytes.now c.args.comparison c.told.result (unlisted_told _ _ c.args.comparison c.in-Err.err c.told.result c.in-Err.ensures.err c.told.ensures)
