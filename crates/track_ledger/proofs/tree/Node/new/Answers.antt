use Rattle.std.proofs.Common.{arith}
use Rattle.track_ledger.specs.Inner.Trees.{items_of}
use Rattle.track_ledger.proofs.MeasureLemmas.{node-longest}
use Rattle.track_ledger.proofs.TreeLemmas.{length-node}
use Rattle.track_ledger.proofs.tree.Node.new.Goals as goal

pub invariant_of-result : goal.invariant_of-result
invariant_of-result c =
    let left = items_of c.args.left in
    let right = items_of c.args.right in
    record {
      counted = omega (arith, length-node left c.args.gap right, c.len.ensures.value, c.len-2.ensures.value);
      measured = node-longest left c.args.gap right c.longest.result c.longest-2.result c.lengths_of.result c.longer.result c.longer-longest.result
          c.longest.ensures c.longest-2.ensures c.lengths_of.ensures c.longer.ensures c.longer-longest.ensures;
    }
