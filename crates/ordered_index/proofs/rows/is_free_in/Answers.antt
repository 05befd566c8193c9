use Rattle.std.proofs.Common.{◌≡◌, ◌∙◌, not, rules}
use Rattle.ordered_index.specs.Rows.{is_key_at, rank}
use Rattle.ordered_index.proofs.AddLemmas.{free-not}
use Rattle.ordered_index.proofs.rows.is_free_in.Goals as goal

pub returns : goal.returns
returns g c =
    let R = g.K.Ord.cmp in
    let rest = free-not g.met.K.Ord.total c.args.key.now c.args.rows.now c.requires.sorted in
    let is : not c.has_key.result ≡ not (is_key_at R c.args.key.now c.args.rows.now (rank R c.args.key.now c.args.rows.now)) = search rules in
    is ∙ rest
