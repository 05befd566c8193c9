use Rattle.std.proofs.Common.{rules}
use Rattle.tool_calls.proofs.AnswerLemmas.{cut_off}
use Rattle.tool_calls.proofs.tool.answer_source.Goals as goal

pub returns-clause-ends : goal.returns-clause-ends
returns-clause-ends g c = search (rules, cut_off, c.answer.ensures, c.in-Ok-answer.ensures)
