use Rattle.std.proofs.Common.{◌∙◌, ap}
use Rattle.ordered_index.proofs.LookupLemmas.{lookup-text}
use Rattle.desk_state.specs.Catalog.{CatalogView, set_in}
use Rattle.desk_state.proofs.catalog.Catalog.get.Goals as goal

pub returns : goal.returns
returns c = c.get.ensures ∙ lookup-text c.args.dsn.now c.self.inside.sets.rows ∙ ap (λ (v : CatalogView). set_in c.args.dsn.now v.sets) c.self.view_is
