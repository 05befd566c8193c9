use Rattle.std.proofs.Common.{is_lt, rules}
use Rattle.std.proofs.lemmas.Fn.{always_returns_same}
use Rattle.std.proofs.lemmas.List.Sorted.{ranks_by}
use Rattle.sms_keeper.specs.Loading.{by_count}
use Rattle.sms_keeper.specs.Tables.{is_deck}
use Rattle.sms_keeper.proofs.SortLemmas.{on_ok, same_found, count_known, count_total}
use Rattle.sms_keeper.proofs.sorting.sort_decks.Goals as goal

pub returns-clause-same : goal.returns-clause-same
returns-clause-same c = λ count.
    same_found by_count count_total (is_deck count) (count_known count) _ _
    (c.sort_by.ensures.stable (λ one other. is_lt (by_count one other)) (ranks_by count_total (λ row. row)) (always_returns_same _ _ _ (λ a r f k. search rules)))

pub returns-clause-ordered : goal.returns-clause-ordered
returns-clause-ordered c =
    on_ok c.sort_by.result _ _
    (λ sorts. sorts (λ one other. is_lt (by_count one other)) (ranks_by count_total (λ row. row)) (always_returns_same _ _ _ (λ a r f k. search rules))) c.sort_by.ensures.sorted
