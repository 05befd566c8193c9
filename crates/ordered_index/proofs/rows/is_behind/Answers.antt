use Rattle.std.proofs.Common.{◌≡◌, ◌≤◌, ◌<◌, ◌-◌, ◌∙◌, get_or, length, is_gt, sym, rules, arith}
use Rattle.std.proofs.lemmas.Bool.Decides.{nat_tests}
use Rattle.ordered_index.proofs.SpotLemmas.{rank-above}
use Rattle.ordered_index.proofs.rows.is_behind.Goals as goal

pub returns-clause-most : goal.returns-clause-most
returns-clause-most g c = λ is.
    let d = c.index-rows-index.result in
    let some : 0 < c.args.index = grind (arith, nat_tests, rules) in
    let most : c.args.index ≤ length c.args.rows.now = grind (arith, nat_tests, rules) in
    let less : c.args.index - 1 < length c.args.rows.now = omega (arith, some, most) in
    let gt : c.is_gt.result ≡ is_gt (g.K.Ord.cmp c.args.key.now (get_or c.args.rows.now (c.args.index - 1) d).0) = search rules in
    let above = rank-above g.met.K.Ord.total c.args.key.now c.args.rows.now (c.args.index - 1) d less c.requires (sym gt ∙ is) in
    omega (arith, above, some)
