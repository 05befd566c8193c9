use Rattle.sms_core.proofs.CoreLemmas.{tables-reached}
use Rattle.sms_core.proofs.core_state.Core.into_parts.Goals as goal

pub returns-clause-tables : goal.returns-clause-tables
returns-clause-tables g c =
    let held = c.self.invariant.held in
    rw (← c.self.view_is) (tables-reached _ _ held.state _ held.tied.reaches held.tied.tables)
