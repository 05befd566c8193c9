use Rattle.std.proofs.Common.{◌∙◌, Some, ap, cond}
use Rattle.std.specs.BTreeMap.{is_at}
use Rattle.std.specs.Map.{lookup}
use Rattle.std.specs.Ordering.{is_eq}
use Rattle.ordered_index.specs.Chunks.{rows_of}
use Rattle.ordered_index.specs.Index.{IndexView}
use Rattle.ordered_index.proofs.LookupLemmas.{lookup-put}
use Rattle.ordered_index.proofs.index.OrderedIndex.put.Goals as goal

-- the row that was put is found
pub returns-clause-found : goal.returns-clause-found
returns-clause-found g c = λ other.
    ap (lookup (is_at (g.K.Ord.cmp other))) c.put_row.ensures.rows
    ∙ lookup-put g.met.K.Ord.total c.args.key other c.args.value (rows_of c.self.inside.chunks.items)
    ∙ ap (λ (v : IndexView _ _). cond (is_eq (g.K.Ord.cmp c.args.key other)) (Some c.args.value) (lookup (is_at (g.K.Ord.cmp other)) v.rows)) c.self.view_is
