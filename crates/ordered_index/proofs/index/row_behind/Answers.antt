use Rattle.std.proofs.Common.{◌≡◌, ◌∙◌, ◌+◌, suc, None, Some, get_or, drop, slice_get, sym, ap, subst, rules, arith}
use Rattle.ordered_index.specs.Chunks.{or_next, rows_of}
use Rattle.ordered_index.specs.Rows.{AreRows, row_after}
use Rattle.ordered_index.proofs.ChunkLemmas.{after-chunk, chunk-sorted}
use Rattle.ordered_index.proofs.index.row_behind.Goals as goal

pub first_after-requires : goal.first_after-requires
first_after-requires g c =
    let d = c.index-chunks-place.result in
    let items : (get_or c.args.chunks.now c.chunk_of-place.result d).items ≡ c.deref.result.now = search rules in
    subst (λ l. AreRows g.K.Ord.cmp l) items (chunk-sorted g.K.Ord.cmp c.args.chunks.now c.chunk_of-place.result d c.chunk_of-place.ensures.at c.requires.sorted)

pub returns-in-Some : goal.returns-in-Some
returns-in-Some g c =
    let R = g.K.Ord.cmp in
    let cs = c.args.chunks.now in
    let d = c.index-chunks-place.result in
    let items : (get_or cs c.chunk_of-place.result d).items ≡ c.deref.result.now = search rules in
    let found : row_after R c.args.key.now c.deref.result.now ≡ Some c.in-Some.row.now = search rules in
    sym (after-chunk R c.args.key.now cs c.chunk_of-place.result d c.chunk_of-place.ensures
    ∙ ap (λ o. or_next o (slice_get (rows_of (drop (suc c.chunk_of-place.result) cs)) 0)) (ap (λ l. row_after R c.args.key.now l) items ∙ found))

pub returns-in-None : goal.returns-in-None
returns-in-None g c =
    let R = g.K.Ord.cmp in
    let cs = c.args.chunks.now in
    let d = c.index-chunks-place.result in
    let items : (get_or cs c.chunk_of-place.result d).items ≡ c.deref.result.now = search rules in
    let none : row_after R c.args.key.now c.deref.result.now ≡ None = search rules in
    let next : c.chunk_of-place.result + 1 ≡ suc c.chunk_of-place.result = omega arith in
    c.first_from.ensures ∙ ap (λ n. slice_get (rows_of (drop n cs)) 0) next
    ∙ sym (after-chunk R c.args.key.now cs c.chunk_of-place.result d c.chunk_of-place.ensures
    ∙ ap (λ o. or_next o (slice_get (rows_of (drop (suc c.chunk_of-place.result) cs)) 0)) (ap (λ l. row_after R c.args.key.now l) items ∙ none))
