use Rattle.std.proofs.Common.{◌≡◌, rules}
use Rattle.dsn_mask.specs.Filter.{passes_filter}
use Rattle.dsn_mask.proofs.Filtering.{filter_law}
use Rattle.dsn_mask.proofs.filter_index.FilterIndex.has.Goals as goal

pub returns-clause-exact : goal.returns-clause-exact
returns-clause-exact g c =
    let same : c.passes.result ≡ passes_filter c.args.value.now c.args.self.now.include c.args.self.now.exclude = search rules in
    filter_law c.args.value.now c.args.self.now.include c.args.self.now.exclude c.passes.result same
