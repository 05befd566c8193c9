use Rattle.std.proofs.Common.{◌∙◌, None, ap, cond, bytes_eq}
use Rattle.std.specs.Cmp.Lexicographic.{slice_cmp}
use Rattle.std.specs.Ordering.{nat_cmp}
use Rattle.ordered_index.proofs.LookupLemmas.{found-text}
use Rattle.desk_state.proofs.SortedLemmas.{sorted-take}
use Rattle.desk_state.specs.Catalog.{CatalogView, set_in}
use Rattle.desk_state.proofs.catalog.Catalog.remove.Goals as goal

pub returns : goal.returns
returns c = λ other.
    found-text c.args.dsn.now other None c.self.inside.sets.rows c.remove.new.self.rows (c.remove.ensures.found other)
    ∙ ap (λ (v : CatalogView). cond (bytes_eq c.args.dsn.now other) None (set_in other v.sets)) c.self.view_is

-- the names stay in order
pub invariant_of-self : goal.invariant_of-self
invariant_of-self c = rw c.remove.ensures.rows (sorted-take (slice_cmp nat_cmp) _ c.self.inside.sets.rows c.self.invariant)
