use Rattle.std.proofs.Common.{◌≡◌, ◌≤◌, ◌<◌, get_or, length, refl, sym, subst, rules, arith}
use Rattle.std.proofs.lemmas.Bool.Decides.{nat_tests}
use Rattle.ordered_index.specs.Rows.{AreRows, rank}
use Rattle.ordered_index.proofs.ChunkLemmas.{chunk-sorted}
use Rattle.ordered_index.proofs.SpotLemmas.{spot-is}
use Rattle.ordered_index.proofs.spot.is_spot.Goals as goal

pub is_behind-requires : goal.is_behind-requires
is_behind-requires g c =
    let d = c.index-chunks-spot.result in
    let less : c.args.spot.chunk < length c.args.chunks.now = grind (arith, nat_tests, rules) in
    let items : (get_or c.args.chunks.now c.args.spot.chunk d).items ≡ c.deref.result.now = search rules in
    subst (λ l. AreRows g.K.Ord.cmp l) items (chunk-sorted g.K.Ord.cmp c.args.chunks.now c.args.spot.chunk d less c.requires.sorted)

pub returns : goal.returns
returns g c = λ is.
    let d = c.index-chunks-spot.result in
    let less : c.args.spot.chunk < length c.args.chunks.now = grind (arith, nat_tests, rules) in
    let items : (get_or c.args.chunks.now c.args.spot.chunk d).items ≡ c.deref.result.now = search rules in
    let least = subst (λ l. c.args.spot.row ≤ rank g.K.Ord.cmp c.args.key.now l) (sym items) (c.if-not-is_behind.ensures.most refl) in
    spot-is g.met.K.Ord.total c.args.key.now c.args.chunks.now c.args.spot d less c.requires.sorted (c.if-not-is_behind.ensures.some refl) least (c.is_before_rest.ensures.rows is) (c.is_before_rest.ensures.chunks is)
