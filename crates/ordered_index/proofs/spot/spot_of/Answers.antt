use Rattle.std.proofs.Common.{◌≡◌, ◌∙◌, get_or, ap, subst, sym, rules}
use Rattle.ordered_index.specs.Rows.{AreRows, rank}
use Rattle.ordered_index.proofs.ChunkLemmas.{chunk-sorted}
use Rattle.ordered_index.proofs.SpotLemmas.{get-same}
use Rattle.ordered_index.proofs.spot.spot_of.Goals as goal

pub place_of-requires : goal.place_of-requires
place_of-requires g c =
    let d = c.index-chunks-chunk.result in
    let items : (get_or c.args.chunks.now c.chunk_of-chunk.result d).items ≡ c.deref.result.now = search rules in
    subst (λ l. AreRows g.K.Ord.cmp l) items (chunk-sorted g.K.Ord.cmp c.args.chunks.now c.chunk_of-chunk.result d c.chunk_of-chunk.ensures.at c.requires.sorted)

pub returns : goal.returns
returns g c =
    let cs = c.args.chunks.now in
    let i = c.chunk_of-chunk.result in
    let e = c.index-chunks-chunk.result in
    let items : (get_or cs i e).items ≡ c.deref.result.now = search rules in
    record {
      is = c.chunk_of-chunk.ensures;
      place = λ d. c.place_of.ensures.place ∙ ap (λ l. rank g.K.Ord.cmp c.args.key.now l) (sym items) ∙ ap (λ v. rank g.K.Ord.cmp c.args.key.now v.items) (get-same cs i e d c.chunk_of-chunk.ensures.at);
    }
