use Rattle.std.proofs.Common.{◌∙◌, ap}
use Rattle.desk_state.specs.Catalog.{CatalogView, set_in}
use Rattle.desk_state.proofs.catalog.Catalog.reserve.Goals as goal

pub returns-clause-same : goal.returns-clause-same
returns-clause-same c = λ dsn. ap (set_in dsn) c.reserve.ensures.rows ∙ ap (λ (v : CatalogView). set_in dsn v.sets) c.self.view_is
