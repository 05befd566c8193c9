use Rattle.std.proofs.Common.{◌≡◌, ◌≤◌, ◌<◌, ◌∙◌, length, get_or, vec_capacity, sym, ap, subst, rules, arith}
use Rattle.std.proofs.lemmas.List.Elements.{All-set}
use Rattle.ordered_index.specs.Room.{IsRoomy, chunk_room}
use Rattle.ordered_index.specs.Rows.{AreRows, add_entry, is_free, rank}
use Rattle.ordered_index.proofs.AddLemmas.{add-chunk, add-one-more, add-some, free-chunk}
use Rattle.ordered_index.proofs.ChunkLemmas.{chunk-sorted}
use Rattle.ordered_index.proofs.chunks.add_among.Goals as goal

pub add_in-requires-clause-sorted : goal.add_in-requires-clause-sorted
add_in-requires-clause-sorted g c =
    let d = c.index_mut.result.now in
    let is : get_or c.args.chunks.now.items c.args.spot.chunk d ≡ d = search rules in
    subst (λ x. AreRows g.K.Ord.cmp x.items) is (chunk-sorted g.K.Ord.cmp c.args.chunks.now.items c.args.spot.chunk d c.requires.is.is.at c.requires.sorted)

pub add_in-requires-clause-place : goal.add_in-requires-clause-place
add_in-requires-clause-place g c =
    let d = c.index_mut.result.now in
    let is : get_or c.args.chunks.now.items c.args.spot.chunk d ≡ d = search rules in
    c.requires.is.place d ∙ ap (λ x. rank g.K.Ord.cmp c.args.key x.items) is

pub returns-clause-rows : goal.returns-clause-rows
returns-clause-rows g c =
    let d = c.index_mut.result.now in
    let is : get_or c.args.chunks.now.items c.args.spot.chunk d ≡ d = search rules in
    add-chunk g.K.Ord.cmp c.args.key c.args.chunks.now.items c.args.spot.chunk d c.requires.is.is c.args.value c.add_in.new.rows (c.add_in.ensures.items ∙ ap (λ x. add_entry g.K.Ord.cmp x.items c.args.key c.args.value) (sym is))

pub returns-clause-added : goal.returns-clause-added
returns-clause-added g c =
    let d = c.index_mut.result.now in
    let is : get_or c.args.chunks.now.items c.args.spot.chunk d ≡ d = search rules in
    c.add_in.ensures.added ∙ ap (λ x. is_free g.K.Ord.cmp c.args.key x.items) (sym is) ∙ sym (free-chunk g.K.Ord.cmp c.args.key c.args.chunks.now.items c.args.spot.chunk d c.requires.is.is)

pub returns-clause-filled : goal.returns-clause-filled
returns-clause-filled g c =
    let d = c.index_mut.result.now in
    let is : get_or c.args.chunks.now.items c.args.spot.chunk d ≡ d = search rules in
    let was : 0 < length d.items = subst (λ v. 0 < length v.items) is (c.requires.filled c.args.spot.chunk d c.requires.is.is.at) in
    let some = add-some g.K.Ord.cmp c.args.key c.args.value d.items was in
    let one : 0 < length c.add_in.new.rows.items = subst (λ l. 0 < length l) (sym c.add_in.ensures.items) some in
    All-set (λ v. 0 < length v.items) c.args.chunks.now.items c.args.spot.chunk c.add_in.new.rows one c.requires.filled

pub returns-clause-roomy : goal.returns-clause-roomy
returns-clause-roomy g c =
    let d = c.index_mut.result.now in
    let is : get_or c.args.chunks.now.items c.args.spot.chunk d ≡ d = search rules in
    let was = subst (λ v. chunk_room ≤ vec_capacity v) is (c.requires.roomy c.args.spot.chunk d c.requires.is.is.at).0 in
    let few = subst (λ v. length v.items < chunk_room) is (c.requires.room d) in
    let more = add-one-more g.K.Ord.cmp c.args.key c.args.value d.items in
    let items = ap length c.add_in.ensures.items in
    let most : length c.add_in.new.rows.items ≤ chunk_room = omega (arith, few, more, items) in
    let room : chunk_room ≤ vec_capacity c.add_in.new.rows = omega (arith, was, c.add_in.ensures.room) in
    All-set IsRoomy c.args.chunks.now.items c.args.spot.chunk c.add_in.new.rows (room, most) c.requires.roomy
