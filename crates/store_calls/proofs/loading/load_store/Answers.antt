use Rattle.store_calls.proofs.ListedLemmas.{left_case, loaded_case, refused_load, tested_case}
use Rattle.store_calls.proofs.loading.load_store.Goals as goal

pub returns-in-Ok-clause-opened : goal.returns-in-Ok-clause-opened
returns-in-Ok-clause-opened g c =
    loaded_case g.P.Keeper g.P.Stored.damage c.tested.result _ _ c.in-Ok.ensures.sound c.in-Ok.ensures.kept (c.in-Ok.ensures.stands (λ h. cc)) c.tested.ensures.keeper c.tested.ensures.opened

pub returns-in-Ok-clause-refused : goal.returns-in-Ok-clause-refused
returns-in-Ok-clause-refused g c =
    tested_case g.P.Keeper g.P.Stored.damage c.tested.result _ _ c.in-Ok.ensures.kept c.in-Ok.ensures.damage_kept (c.in-Ok.ensures.stands (λ h. cc)) c.tested.ensures.left
    c.tested.ensures.refused c.tested.ensures.unfailed

pub returns-in-Err-clause-refused : goal.returns-in-Err-clause-refused
returns-in-Err-clause-refused g c =
    rw c.refusal_of_load.ensures (refused_load g.P.Keeper g.P.Stored.damage _ _ c.in-Err.err c.in-Err.ensures.damaged c.in-Err.ensures.kept c.in-Err.ensures.damage_kept
    c.in-Err.ensures.cause c.in-Err.ensures.stands)

pub returns-in-Ok-clause-damage_left : goal.returns-in-Ok-clause-damage_left
returns-in-Ok-clause-damage_left g c = left_case g.P.Keeper g.P.Stored.damage c.tested.result _ _ c.in-Ok.ensures.damage_kept c.tested.ensures.left
