use Rattle.std.proofs.Common.{rules, inl}
use Rattle.std.proofs.lemmas.Result.{IfErr-weaker}
use Rattle.tool_words.proofs.ToolLemmas.{err_case, found_case, free_case}
use Rattle.tool_words.proofs.reading.read_matches.Goals as goal

pub returns-in_err-tool-clause-err : goal.returns-in_err-tool-clause-err
returns-in_err-tool-clause-err c = IfErr-weaker c.from_residual.result _ _ (λ e h. inl h) (search rules)

pub returns-clause-free : goal.returns-clause-free
returns-clause-free c = free_case c.try_get_matches_from.result _ _ c.in_ok-tool.ensures c.try_get_matches_from.ensures.kinds

pub returns-clause-found : goal.returns-clause-found
returns-clause-found c = found_case c.try_get_matches_from.result _ _ c.in_ok-tool.ensures c.try_get_matches_from.ensures.matches

pub returns-clause-err : goal.returns-clause-err
returns-clause-err c = err_case c.try_get_matches_from.result _ _ c.in_ok-tool.ensures c.try_get_matches_from.ensures.kinds
