use Rattle.std.proofs.Common.{◌≡◌, rules}
use Rattle.dsn_mask.specs.MaskTest.{piece_fits}
use Rattle.dsn_mask.proofs.Fitting.{piece_law}
use Rattle.dsn_mask.proofs.simple.Simple.matches.Goals as goal

pub returns-clause-exact : goal.returns-clause-exact
returns-clause-exact c =
    let same : c.piece_fits.result ≡ piece_fits c.args.self.now c.args.value.now = search rules in
    piece_law c.args.self.now c.args.value.now c.piece_fits.result same
