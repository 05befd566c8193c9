use Rattle.std.proofs.Common.{is_lt, rules}
use Rattle.std.proofs.lemmas.Fn.{always_returns_same}
use Rattle.std.proofs.lemmas.List.Sorted.{ranks_by}
use Rattle.sms_keeper.specs.Loading.{by_request}
use Rattle.sms_keeper.specs.Tables.{is_reply_of}
use Rattle.sms_keeper.proofs.SortLemmas.{on_ok, same_found, request_known, request_total}
use Rattle.sms_keeper.proofs.sorting.sort_replies.Goals as goal

pub returns-clause-same : goal.returns-clause-same
returns-clause-same c = λ job number.
    same_found by_request request_total (is_reply_of job number) (request_known job number) _ _
    (c.sort_by.ensures.stable (λ one other. is_lt (by_request one other)) (ranks_by request_total (λ row. row)) (always_returns_same _ _ _ (λ a r f k. search rules)))

pub returns-clause-ordered : goal.returns-clause-ordered
returns-clause-ordered c =
    on_ok c.sort_by.result _ _
    (λ sorts. sorts (λ one other. is_lt (by_request one other)) (ranks_by request_total (λ row. row)) (always_returns_same _ _ _ (λ a r f k. search rules))) c.sort_by.ensures.sorted
