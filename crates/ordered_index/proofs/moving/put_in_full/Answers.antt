use Rattle.std.proofs.Common.{sym, subst, arith}
use Rattle.ordered_index.specs.Rows.{AreRows}
use Rattle.ordered_index.proofs.moving.put_in_full.Goals as goal

pub returns-clause-index : goal.returns-clause-index
returns-clause-index g c =
    let was = c.put_parted-old.ensures.index in
    record {
      sorted = subst (AreRows g.K.Ord.cmp) (sym c.join_halves.ensures.rows) was.sorted;
      filled = c.join_halves.ensures.filled;
      roomy = c.join_halves.ensures.roomy;
      spare = was.spare;
      places = omega (arith, was.places, c.join_halves.ensures.fewer, c.join_halves.ensures.capacity);
    }
