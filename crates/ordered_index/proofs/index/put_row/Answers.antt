use Rattle.std.proofs.Common.{sym, subst, arith}
use Rattle.ordered_index.specs.Chunks.{rows_of}
use Rattle.ordered_index.specs.Rows.{AreRows}
use Rattle.ordered_index.proofs.SortedLemmas.{sorted-put}
use Rattle.ordered_index.proofs.index.put_row.Goals as goal

pub returns-then-len-lt-ROOM-clause-index : goal.returns-then-len-lt-ROOM-clause-index
returns-then-len-lt-ROOM-clause-index g c = record {
  sorted = subst (AreRows g.K.Ord.cmp) (sym c.put_among.ensures.rows) (sorted-put g.met.K.Ord.total c.args.key c.args.value (rows_of c.args.chunks.now.items) c.requires.index.sorted);
  filled = c.put_among.ensures.filled;
  roomy = c.put_among.ensures.roomy;
  spare = c.requires.index.spare;
  places = omega (arith, c.requires.index.places, c.put_among.ensures.same.0, c.put_among.ensures.same.1);
}
