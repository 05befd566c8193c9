use Rattle.std.proofs.Common.{◌≡◌, ◌≤◌, ◌<◌, ◌∙◌, length, get_or, vec_capacity, sym, ap, subst, rules, arith}
use Rattle.std.specs.BTreeMap.{insert_entry, is_at}
use Rattle.std.specs.Map.{lookup}
use Rattle.std.proofs.lemmas.List.Elements.{All-set}
use Rattle.ordered_index.specs.Room.{IsRoomy, chunk_room}
use Rattle.ordered_index.specs.Rows.{AreRows, rank}
use Rattle.ordered_index.proofs.ChunkLemmas.{chunk-sorted, put-chunk, value-chunk}
use Rattle.ordered_index.proofs.SortedLemmas.{put-one-more, put-some}
use Rattle.ordered_index.proofs.chunks.put_among.Goals as goal

pub put_in-requires-clause-sorted : goal.put_in-requires-clause-sorted
put_in-requires-clause-sorted g c =
    let d = c.index_mut.result.now in
    let is : get_or c.args.chunks.now.items c.args.spot.chunk d ≡ d = search rules in
    subst (λ x. AreRows g.K.Ord.cmp x.items) is (chunk-sorted g.K.Ord.cmp c.args.chunks.now.items c.args.spot.chunk d c.requires.is.is.at c.requires.sorted)

pub put_in-requires-clause-place : goal.put_in-requires-clause-place
put_in-requires-clause-place g c =
    let d = c.index_mut.result.now in
    let is : get_or c.args.chunks.now.items c.args.spot.chunk d ≡ d = search rules in
    c.requires.is.place d ∙ ap (λ x. rank g.K.Ord.cmp c.args.key x.items) is

pub returns-clause-rows : goal.returns-clause-rows
returns-clause-rows g c =
    let d = c.index_mut.result.now in
    let is : get_or c.args.chunks.now.items c.args.spot.chunk d ≡ d = search rules in
    put-chunk g.K.Ord.cmp c.args.key c.args.chunks.now.items c.args.spot.chunk d c.requires.is.is c.args.value c.put_in.new.rows (c.put_in.ensures.items ∙ ap (λ x. insert_entry g.K.Ord.cmp x.items c.args.key c.args.value) (sym is))

pub returns-clause-value : goal.returns-clause-value
returns-clause-value g c =
    let d = c.index_mut.result.now in
    let is : get_or c.args.chunks.now.items c.args.spot.chunk d ≡ d = search rules in
    c.put_in.ensures.value ∙ ap (λ x. lookup (is_at (g.K.Ord.cmp c.args.key)) x.items) (sym is) ∙ sym (value-chunk g.K.Ord.cmp c.args.key c.args.chunks.now.items c.args.spot.chunk d c.requires.is.is)

pub returns-clause-filled : goal.returns-clause-filled
returns-clause-filled g c =
    let some = put-some g.K.Ord.cmp c.args.key c.args.value c.index_mut.result.now.items in
    let one : 0 < length c.put_in.new.rows.items = subst (λ l. 0 < length l) (sym c.put_in.ensures.items) some in
    All-set (λ v. 0 < length v.items) c.args.chunks.now.items c.args.spot.chunk c.put_in.new.rows one c.requires.filled

pub returns-clause-roomy : goal.returns-clause-roomy
returns-clause-roomy g c =
    let d = c.index_mut.result.now in
    let is : get_or c.args.chunks.now.items c.args.spot.chunk d ≡ d = search rules in
    let was = subst (λ v. chunk_room ≤ vec_capacity v) is (c.requires.roomy c.args.spot.chunk d c.requires.is.is.at).0 in
    let few = subst (λ v. length v.items < chunk_room) is (c.requires.room d) in
    let more = put-one-more g.K.Ord.cmp c.args.key c.args.value d.items in
    let items = ap length c.put_in.ensures.items in
    let most : length c.put_in.new.rows.items ≤ chunk_room = omega (arith, few, more, items) in
    let room : chunk_room ≤ vec_capacity c.put_in.new.rows = omega (arith, was, c.put_in.ensures.room) in
    All-set IsRoomy c.args.chunks.now.items c.args.spot.chunk c.put_in.new.rows (room, most) c.requires.roomy
