use Rattle.std.proofs.Common.{◌≡◌, rules}
use Rattle.dsn_mask.specs.MaskTest.{mask_fits}
use Rattle.dsn_mask.proofs.Fitting.{mask_law}
use Rattle.dsn_mask.proofs.mask.Mask.matches.Goals as goal

pub returns-clause-exact : goal.returns-clause-exact
returns-clause-exact c =
    let same : c.mask_fits.result ≡ mask_fits c.args.self.now c.args.value.now = search rules in
    mask_law c.args.self.now c.args.value.now c.mask_fits.result same
