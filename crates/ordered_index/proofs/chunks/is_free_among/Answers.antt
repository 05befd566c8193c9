use Rattle.std.proofs.Common.{◌≡◌, ◌∙◌, get_or, sym, ap, subst, rules}
use Rattle.ordered_index.specs.Rows.{AreRows, is_free, rank}
use Rattle.ordered_index.proofs.AddLemmas.{free-chunk}
use Rattle.ordered_index.proofs.ChunkLemmas.{chunk-sorted}
use Rattle.ordered_index.proofs.chunks.is_free_among.Goals as goal

pub is_free_in-requires-clause-sorted : goal.is_free_in-requires-clause-sorted
is_free_in-requires-clause-sorted g c =
    let d = c.index-chunks-spot.result in
    let items : (get_or c.args.chunks.now c.args.spot.chunk d).items ≡ c.deref.result.now = search rules in
    subst (λ l. AreRows g.K.Ord.cmp l) items (chunk-sorted g.K.Ord.cmp c.args.chunks.now c.args.spot.chunk d c.requires.is.is.at c.requires.sorted)

pub is_free_in-requires-clause-place : goal.is_free_in-requires-clause-place
is_free_in-requires-clause-place g c =
    let d = c.index-chunks-spot.result in
    let items : (get_or c.args.chunks.now c.args.spot.chunk d).items ≡ c.deref.result.now = search rules in
    c.requires.is.place d ∙ ap (λ l. rank g.K.Ord.cmp c.args.key.now l) items

pub returns : goal.returns
returns g c =
    let d = c.index-chunks-spot.result in
    let items : (get_or c.args.chunks.now c.args.spot.chunk d).items ≡ c.deref.result.now = search rules in
    c.is_free_in.ensures ∙ ap (λ l. is_free g.K.Ord.cmp c.args.key.now l) (sym items) ∙ sym (free-chunk g.K.Ord.cmp c.args.key.now c.args.chunks.now c.args.spot.chunk d c.requires.is.is)
