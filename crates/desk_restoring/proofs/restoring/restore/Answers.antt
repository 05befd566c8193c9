use Rattle.std.proofs.Common.{subst, sym}
use Rattle.std.specs.Prelude.{IfOk}
use Rattle.desk_law.specs.State.{Opening, start_of}
use Rattle.desk_law.specs.Lawful.{IsLawfulOpening}
use Rattle.desk_records.specs.Tied.{IsLogOf}
use Rattle.desk_state.specs.Standing.{IsRunning}
use Rattle.desk_restoring.proofs.restoring.restore.Goals as goal

pub restored-requires : goal.restored-requires
restored-requires c = subst IsLawfulOpening (sym c.opening.view_is) c.requires

pub returns-clause-running : goal.returns-clause-running
returns-clause-running c = subst (λ (o : Opening). IfOk c.restored.result (λ made. IsRunning (start_of o) made.running)) c.opening.view_is c.restored.ensures.running

pub returns-clause-log : goal.returns-clause-log
returns-clause-log c = subst (λ (o : Opening). IfOk c.restored.result (λ made. IsLogOf o.rows.floors o.rows.replies made.log)) c.opening.view_is c.restored.ensures.log
