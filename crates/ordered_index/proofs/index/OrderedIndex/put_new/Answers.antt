use Rattle.std.proofs.Common.{◌∙◌, ◌&&◌, Some, ap, cond}
use Rattle.std.specs.BTreeMap.{is_at}
use Rattle.std.specs.Map.{lookup}
use Rattle.std.specs.Ordering.{is_eq}
use Rattle.ordered_index.specs.Chunks.{rows_of}
use Rattle.ordered_index.specs.Index.{IndexView}
use Rattle.ordered_index.specs.Rows.{is_free}
use Rattle.ordered_index.proofs.AddLemmas.{lookup-add}
use Rattle.ordered_index.proofs.index.OrderedIndex.put_new.Goals as goal

-- the row that was added is found
pub returns-clause-found : goal.returns-clause-found
returns-clause-found g c = λ other.
    let R = g.K.Ord.cmp in
    ap (lookup (is_at (R other))) c.add_row.ensures.rows
    ∙ lookup-add g.met.K.Ord.total c.args.key other c.args.value (rows_of c.self.inside.chunks.items)
    ∙ ap (λ (v : IndexView _ _). cond (is_free R c.args.key v.rows && is_eq (R c.args.key other)) (Some c.args.value) (lookup (is_at (R other)) v.rows)) c.self.view_is
