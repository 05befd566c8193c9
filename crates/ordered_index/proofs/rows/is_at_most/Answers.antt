use Rattle.std.proofs.Common.{◌≡◌, ◌∙◌, get_or, is_gt, sym, rules}
use Rattle.ordered_index.proofs.SpotLemmas.{not-true, rank-below}
use Rattle.ordered_index.proofs.rows.is_at_most.Goals as goal

pub returns : goal.returns
returns g c = λ is.
    let d = c.index-rows-index.result in
    let gt : c.is_gt.result ≡ is_gt (g.K.Ord.cmp c.args.key.now (get_or c.args.rows.now c.args.index d).0) = search rules in
    rank-below g.met.K.Ord.total c.args.key.now c.args.rows.now c.args.index d c.requires (sym gt ∙ not-true c.is_gt.result is)
