use Rattle.std.proofs.Common.{◌∙◌, ap}
use Rattle.std.proofs.Common.{drop, ◌+◌}
use Rattle.acs_tree.specs.Nodes.{entries_behind}
use Rattle.acs_check.specs.Inner.Walk.{walked}
use Rattle.acs_check.proofs.NodeLemmas.{entries_turn}
use Rattle.acs_check.proofs.statements.entries.Goals as goal

pub loop-count-preserved : goal.loop-count-preserved
loop-count-preserved c =
    ap (λ z. walked c.args.kind c.args.before.now z (entries_behind (c.loop-count.count + 1) (drop (c.loop-count.count + 1) c.args.entries.now))) c.entry-best.ensures
    ∙ entries_turn c.args.kind c.args.before.now c.loop-count.best c.args.entries.now c.loop-count.count c.index-entries-count.result c.loop-count-test.true c.index-entries-count.is
    ∙ c.loop-count.invariant
