use Rattle.db_calls.proofs.ReadiedLemmas.{behind_ready, same_damage_on}
use Rattle.db_calls.proofs.database.run_stored.Goals as goal

pub returns-in-Ok-clause-ends : goal.returns-in-Ok-clause-ends
returns-in-Ok-clause-ends g c = behind_ready g.P.Keeper g.P.Stored.damage _ _ _ _ _ c.run_ready.result.0 c.in-Ok.ensures.kept (c.in-Ok.ensures.stands (λ h. cc)) c.run_ready.ensures.ends

pub returns-in-Ok-clause-damage : goal.returns-in-Ok-clause-damage
returns-in-Ok-clause-damage g c err store = same_damage_on _ _ _ c.in-Ok.ensures.damage_kept (c.run_ready.ensures.damage err store)
