-- What the core leaves.
use Rattle.smsd_serving.specs.Epochs.{IsLeft}
use Rattle.smsd_serving.proofs.keeping.take_keeper.Goals as goal

pub returns-clause-left : goal.returns-clause-left
returns-clause-left g c =
    let parts = c.into_parts-core.ensures in
    let ends = c.into_parts-keeper.ensures in
    let own : IsLeft g.P.Keeper.told g.P.Keeper.count c.args.clerk.start c.into_parts-core.result.0 c.into_parts-core.result.2 = record { entered = parts.entered; unfilled = rw parts.talks parts.unfilled; legal = ends.legal; tables = ends.tables; counted = ends.counted } in
    rw (parts.core, parts.talks) at own
