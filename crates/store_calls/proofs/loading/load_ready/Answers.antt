use Rattle.store_calls.proofs.ListedLemmas.{found_case, unfound_case}
use Rattle.store_calls.proofs.loading.load_ready.Goals as goal

pub returns-in-Ok-clause-opened : goal.returns-in-Ok-clause-opened
returns-in-Ok-clause-opened g c = found_case g.P.Keeper g.P.Stored.damage c.load_store.result _ _ c.in-Ok.ensures.kept (c.in-Ok.ensures.stands (λ h. cc)) c.load_store.ensures.opened

pub returns-in-Ok-clause-refused : goal.returns-in-Ok-clause-refused
returns-in-Ok-clause-refused g c =
    unfound_case g.P.Keeper g.P.Stored.damage c.load_store.result _ _ c.in-Ok.ensures.kept c.in-Ok.ensures.damage_kept (c.in-Ok.ensures.stands (λ h. cc)) c.load_store.ensures.refused
    c.load_store.ensures.damage_left
