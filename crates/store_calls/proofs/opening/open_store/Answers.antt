use Rattle.store_calls.proofs.OpenedLemmas.{mark_case, opened_case, refused_case}
use Rattle.store_calls.proofs.opening.open_store.Goals as goal

pub returns-in-Ok-clause-opened : goal.returns-in-Ok-clause-opened
returns-in-Ok-clause-opened g c =
    opened_case g.P.Keeper g.P.Stored.damage c.reopen.result _ _ c.in-Ok.ensures.kept (c.in-Ok.ensures.stands (λ h. cc)) c.reopen.ensures.opened c.reopen.ensures.undamaged
    c.reopen.ensures.kept c.reopen.ensures.stands

pub returns-in-Ok-clause-mark : goal.returns-in-Ok-clause-mark
returns-in-Ok-clause-mark g c = mark_case g.P.Keeper g.P.Stored.damage c.reopen.result _ c.reopen.ensures.mark c.reopen.ensures.stands

pub returns-in-Ok-clause-refused : goal.returns-in-Ok-clause-refused
returns-in-Ok-clause-refused g c =
    refused_case g.P.Keeper g.P.Stored.damage c.reopen.result _ _ c.in-Ok.ensures.kept c.in-Ok.ensures.damage_kept (c.in-Ok.ensures.stands (λ h. cc)) c.reopen.ensures.refused
    c.reopen.ensures.left c.reopen.ensures.damage_left c.reopen.ensures.cause c.reopen.ensures.unfailed
