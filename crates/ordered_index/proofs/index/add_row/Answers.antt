use Rattle.std.proofs.Common.{◌≡◌, ◌∙◌, length, sym, ap, subst, rules, arith}
use Rattle.ordered_index.specs.Chunks.{rows_of}
use Rattle.ordered_index.specs.Rows.{AreRows, add_entry, is_free}
use Rattle.ordered_index.proofs.AddLemmas.{sorted-add}
use Rattle.ordered_index.proofs.PartLemmas.{none-of}
use Rattle.ordered_index.proofs.index.add_row.Goals as goal

pub returns-then-is_empty-clause-rows : goal.returns-then-is_empty-clause-rows
returns-then-is_empty-clause-rows g c =
    let zero : length c.args.chunks.now.items ≡ 0 = search rules in
    c.put_first.ensures.rows ∙ ap (λ l. add_entry g.K.Ord.cmp (rows_of l) c.args.key c.args.value) (sym (none-of c.args.chunks.now.items zero))

pub returns-then-is_empty-clause-added : goal.returns-then-is_empty-clause-added
returns-then-is_empty-clause-added g c =
    let zero : length c.args.chunks.now.items ≡ 0 = search rules in
    sym (ap (λ l. is_free g.K.Ord.cmp c.args.key (rows_of l)) (none-of c.args.chunks.now.items zero))

pub returns-then-len-lt-ROOM-clause-index : goal.returns-then-len-lt-ROOM-clause-index
returns-then-len-lt-ROOM-clause-index g c = record {
  sorted = subst (AreRows g.K.Ord.cmp) (sym c.add_among.ensures.rows) (sorted-add g.met.K.Ord.total c.args.key c.args.value (rows_of c.args.chunks.now.items) c.requires.index.sorted);
  filled = c.add_among.ensures.filled;
  roomy = c.add_among.ensures.roomy;
  spare = c.requires.index.spare;
  places = omega (arith, c.requires.index.places, c.add_among.ensures.same.0, c.add_among.ensures.same.1);
}
