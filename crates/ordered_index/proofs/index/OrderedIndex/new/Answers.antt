use Rattle.std.proofs.Common.{◌<◌, length, sym, ap, subst, arith}
use Rattle.std.proofs.lemmas.List.Elements.{All-nil}
use Rattle.std.specs.List.{All}
use Rattle.ordered_index.specs.Chunks.{AreFilled, rows_of}
use Rattle.ordered_index.specs.Room.{AreRoomy, AreSpare, IsRoomy, IsSpare}
use Rattle.ordered_index.specs.Rows.{AreRows}
use Rattle.ordered_index.proofs.SortedLemmas.{sorted-nil}
use Rattle.ordered_index.proofs.index.OrderedIndex.new.Goals as goal

-- without rows there is nothing to hold
pub invariant_of-result : goal.invariant_of-result
invariant_of-result g c =
    let none = sym c.new.ensures.items in
    record {
      sorted = subst (λ cs. AreRows g.K.Ord.cmp (rows_of cs)) none (sorted-nil g.row.V.Denot g.K.Ord.cmp);
      filled = subst AreFilled none (All-nil (λ v. 0 < length v.items));
      roomy = subst AreRoomy none (All-nil IsRoomy);
      spare = subst AreSpare (sym c.new-2.ensures.items) (All-nil IsSpare);
      places = omega (arith, ap length c.new.ensures.items, ap length c.new-2.ensures.items);
    }
