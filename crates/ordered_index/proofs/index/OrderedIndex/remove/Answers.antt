use Rattle.std.proofs.Common.{◌∙◌, None, ap, cond}
use Rattle.std.specs.BTreeMap.{is_at}
use Rattle.std.specs.Map.{lookup}
use Rattle.std.specs.Ordering.{is_eq}
use Rattle.ordered_index.specs.Chunks.{rows_of}
use Rattle.ordered_index.specs.Index.{IndexView}
use Rattle.ordered_index.proofs.LookupLemmas.{lookup-take}
use Rattle.ordered_index.proofs.index.OrderedIndex.remove.Goals as goal

-- the row that was taken is found no more
pub returns-clause-found : goal.returns-clause-found
returns-clause-found g c = λ other.
    ap (lookup (is_at (g.K.Ord.cmp other))) c.take_row.ensures.rows
    ∙ lookup-take g.met.K.Ord.total c.args.key.now other (rows_of c.self.inside.chunks.items) c.self.invariant.sorted
    ∙ ap (λ (v : IndexView _ _). cond (is_eq (g.K.Ord.cmp c.args.key.now other)) None (lookup (is_at (g.K.Ord.cmp other)) v.rows)) c.self.view_is
