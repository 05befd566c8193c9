use Rattle.std.proofs.Common.{is_lt, rules}
use Rattle.std.proofs.lemmas.Fn.{always_returns_same}
use Rattle.std.proofs.lemmas.List.Sorted.{ranks_by}
use Rattle.sms_keeper.specs.Loading.{by_job}
use Rattle.sms_keeper.specs.Tables.{is_floor_of}
use Rattle.sms_keeper.proofs.SortLemmas.{on_ok, same_found, job_known, job_total}
use Rattle.sms_keeper.proofs.sorting.sort_floors.Goals as goal

pub returns-clause-same : goal.returns-clause-same
returns-clause-same c = λ job.
    same_found by_job job_total (is_floor_of job) (job_known job) _ _
    (c.sort_by.ensures.stable (λ one other. is_lt (by_job one other)) (ranks_by job_total (λ row. row)) (always_returns_same _ _ _ (λ a r f k. search rules)))

pub returns-clause-ordered : goal.returns-clause-ordered
returns-clause-ordered c =
    on_ok c.sort_by.result _ _
    (λ sorts. sorts (λ one other. is_lt (by_job one other)) (ranks_by job_total (λ row. row)) (always_returns_same _ _ _ (λ a r f k. search rules))) c.sort_by.ensures.sorted
