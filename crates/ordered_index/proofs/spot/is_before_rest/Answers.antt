use Rattle.std.proofs.Common.{◌≡◌, ◌≤◌, ◌<◌, ◌+◌, ◌∙◌, suc, get_or, length, drop, sym, subst, rules, arith}
use Rattle.std.proofs.lemmas.Bool.Decides.{nat_tests}
use Rattle.ordered_index.specs.Chunks.{AreBehind, rows_of}
use Rattle.ordered_index.specs.Rows.{rank}
use Rattle.ordered_index.proofs.ChunkLemmas.{behind-from}
use Rattle.ordered_index.proofs.RowLemmas.{rank-most}
use Rattle.ordered_index.proofs.SpotLemmas.{behind-chunk, get-same}
use Rattle.ordered_index.proofs.spot.is_before_rest.Goals as goal

pub returns-then-spot-len-clause-chunks : goal.returns-then-spot-len-clause-chunks
returns-then-spot-len-clause-chunks g c = λ is.
    let R = g.K.Ord.cmp in
    let cs = c.args.chunks.now in
    let i = c.args.spot.chunk in
    let d = c.index-chunks-spot.result in
    let e = c.index-chunks-spot-then-spot-len.result in
    let here : get_or cs i d ≡ d = search rules in
    let items : (get_or cs i e).items ≡ c.deref.result.now = search rules in
    let least : rank R c.args.key.now (get_or cs i e).items ≤ c.args.spot.row = subst (λ l. rank R c.args.key.now l ≤ c.args.spot.row) (sym items) (c.is_at_most.ensures is) in
    let short : c.args.spot.row < length d.items = grind (arith, nat_tests, rules) in
    let few : c.args.spot.row < length (get_or cs i e).items = subst (λ v. c.args.spot.row < length v.items) (sym here ∙ get-same cs i d e c.requires.inside) short in
    behind-chunk g.met.K.Ord.total c.args.key.now cs i e c.requires.inside c.requires.sorted (omega (arith, least, few))

pub returns-else-spot-len-clause-rows : goal.returns-else-spot-len-clause-rows
returns-else-spot-len-clause-rows g c = λ is. λ d.
    let cs = c.args.chunks.now in
    let i = c.args.spot.chunk in
    let e = c.index-chunks-spot.result in
    let here : get_or cs i e ≡ e = search rules in
    let short : length e.items ≤ c.args.spot.row = grind (arith, nat_tests, rules) in
    let past : length (get_or cs i d).items ≤ c.args.spot.row = subst (λ v. length v.items ≤ c.args.spot.row) (sym here ∙ get-same cs i e d c.requires.inside) short in
    let most = rank-most g.K.Ord.cmp c.args.key.now (get_or cs i d).items in
    omega (arith, most, past)

pub returns-else-spot-len-clause-chunks : goal.returns-else-spot-len-clause-chunks
returns-else-spot-len-clause-chunks g c = λ is.
    let cs = c.args.chunks.now in
    let next : c.args.spot.chunk + 1 ≡ suc c.args.spot.chunk = omega arith in
    subst (λ n. AreBehind g.K.Ord.cmp c.args.key.now (rows_of (drop n cs))) next
    (behind-from g.met.K.Ord.total c.args.key.now cs (c.args.spot.chunk + 1) c.requires.filled c.requires.sorted (λ d less. c.is_before_chunk.ensures is d less))
