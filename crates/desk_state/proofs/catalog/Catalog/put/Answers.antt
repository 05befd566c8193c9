use Rattle.std.proofs.Common.{◌∙◌, Some, ap, cond, bytes_eq}
use Rattle.std.specs.Cmp.Lexicographic.{nat_list_cmp_total}
use Rattle.ordered_index.proofs.LookupLemmas.{found-text}
use Rattle.desk_state.proofs.SortedLemmas.{sorted-put}
use Rattle.desk_state.specs.Catalog.{CatalogView, set_in}
use Rattle.desk_state.proofs.catalog.Catalog.put.Goals as goal

pub returns : goal.returns
returns c = λ dsn.
    found-text c.args.set.dsn dsn (Some c.args.set) c.self.inside.sets.rows c.put.new.self.rows (rw c.get.ensures at (c.put.ensures.found dsn))
    ∙ ap (λ (v : CatalogView). cond (bytes_eq c.args.set.dsn dsn) (Some c.args.set) (set_in dsn v.sets)) c.self.view_is

-- the names stay in order
pub invariant_of-self : goal.invariant_of-self
invariant_of-self c = rw c.put.ensures.rows (sorted-put nat_list_cmp_total _ _ c.self.inside.sets.rows c.self.invariant)
