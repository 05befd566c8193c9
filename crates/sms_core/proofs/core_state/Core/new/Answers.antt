use Rattle.std.proofs.Common.{List, subst, sym}
use Rattle.std.specs.Prelude.{IfSome}
use Rattle.sms_keeper.specs.Tables.{AreSame}
use Rattle.desk_law.specs.State.{Opening, start_of}
use Rattle.desk_records.specs.Tied.{IsLogOf, IsSoundOpening}
use Rattle.desk_records.proofs.OpeningLemmas.{empty-sound}
use Rattle.desk_state.specs.Standing.{IsRunning}
use Rattle.sms_core.proofs.CoreLemmas.{log-empty}
use Rattle.sms_core.proofs.core_state.Core.new.Goals as goal

pub over-requires-clause-sound : goal.over-requires-clause-sound
over-requires-clause-sound g c = subst IsSoundOpening (sym c.empty_snapshot.ensures) empty-sound

pub over-requires-clause-tables : goal.over-requires-clause-tables
over-requires-clause-tables g c = subst (λ (o : Opening). IfSome (g.P.Keeper.told c.args.keeper) (λ rows. AreSame rows o.rows)) (sym c.empty_snapshot.ensures) c.requires

pub over-requires-clause-running : goal.over-requires-clause-running
over-requires-clause-running g c = subst (λ (o : Opening). IsRunning (start_of o) c.new.result) (sym c.empty_snapshot.ensures) c.new.ensures

pub over-requires-clause-log : goal.over-requires-clause-log
over-requires-clause-log g c = subst (λ (o : Opening). IsLogOf o.rows.floors o.rows.replies c.new-2.result) (sym c.empty_snapshot.ensures) (log-empty c.new-2.result c.new-2.ensures.kept c.new-2.ensures.floors)
