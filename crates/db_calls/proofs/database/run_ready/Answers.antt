use Rattle.db_calls.proofs.ReadiedLemmas.{begun_of, run_ends}
use Rattle.db_calls.proofs.database.run_ready.Goals as goal

pub returns-in-Ok-clause-ends : goal.returns-in-Ok-clause-ends
returns-in-Ok-clause-ends g c =
    let ran = c.run_source-status.ensures in
    run_ends g.P.Keeper g.P.Stored.damage _ _ _ _ _ _ c.run_source-status.result.0 c.in-Ok.ensures.opened c.in-Ok.ensures.undamaged c.in-Ok.ensures.kept c.in-Ok.ensures.stands ran.ends
    (λ left. ran.unrun left) (begun_of _ _ _ _ c.in-Ok.ensures.kept ran.told c.in-Ok.ensures.opened.tables)
