use Rattle.std.proofs.Common.{◌≡◌, rules}
use Rattle.row_store.proofs.EngineLemmas.{late_happens}
use Rattle.row_store.proofs.engine.Engine.make_late.Goals as goal

pub returns : goal.returns
returns c =
    let old = c.args.self.now in
    let same : old.held.guard ≡ old.seen.guard = search rules in
    rw c.new.ensures (late_happens old c.args.place c.remove.result c.requires same c.remove.ensures.item)
