use Rattle.std.proofs.Common.{◌∙◌, sym, subst, arith}
use Rattle.std.specs.BTreeMap.{is_at}
use Rattle.ordered_index.specs.Chunks.{rows_of}
use Rattle.ordered_index.specs.Rows.{AreRows}
use Rattle.ordered_index.proofs.SortedLemmas.{sorted-take}
use Rattle.ordered_index.proofs.index.take_row.Goals as goal

pub returns-then-len-lt2-clause-index : goal.returns-then-len-lt2-clause-index
returns-then-len-lt2-clause-index g c = record {
  sorted = subst (AreRows g.K.Ord.cmp) (sym (c.join_around.ensures.rows ∙ c.take_only-value.ensures.rows)) (sorted-take g.K.Ord.cmp (is_at (g.K.Ord.cmp c.args.key.now)) (rows_of c.args.chunks.now.items) c.requires.index.sorted);
  filled = c.join_around.ensures.filled;
  roomy = c.join_around.ensures.roomy;
  spare = c.requires.index.spare;
  places = omega (arith, c.requires.index.places, c.take_only-value.ensures.fewer, c.take_only-value.ensures.capacity, c.join_around.ensures.fewer, c.join_around.ensures.capacity);
}

pub returns-clause-index : goal.returns-clause-index
returns-clause-index g c = record {
  sorted = subst (AreRows g.K.Ord.cmp) (sym (c.join_around-2.ensures.rows ∙ c.take_among-value.ensures.rows)) (sorted-take g.K.Ord.cmp (is_at (g.K.Ord.cmp c.args.key.now)) (rows_of c.args.chunks.now.items) c.requires.index.sorted);
  filled = c.join_around-2.ensures.filled;
  roomy = c.join_around-2.ensures.roomy;
  spare = c.requires.index.spare;
  places = omega (arith, c.requires.index.places, c.take_among-value.ensures.same.0, c.take_among-value.ensures.same.1, c.join_around-2.ensures.fewer, c.join_around-2.ensures.capacity);
}
