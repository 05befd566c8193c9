use Rattle.std.proofs.Common.{◌≡◌, ◌≤◌, ◌<◌, ◌∙◌, length, get_or, vec_capacity, sym, ap, subst, rules, arith}
use Rattle.std.specs.BTreeMap.{is_at}
use Rattle.std.specs.Map.{lookup, remove_entry}
use Rattle.std.proofs.lemmas.List.Elements.{All-set}
use Rattle.ordered_index.specs.Room.{IsRoomy, chunk_room}
use Rattle.ordered_index.specs.Rows.{AreRows, rank}
use Rattle.ordered_index.proofs.ChunkLemmas.{chunk-sorted, take-chunk, value-chunk}
use Rattle.ordered_index.proofs.SortedLemmas.{take-fewer, take-one-less}
use Rattle.ordered_index.proofs.chunks.take_among.Goals as goal

pub take_from-requires-clause-sorted : goal.take_from-requires-clause-sorted
take_from-requires-clause-sorted g c =
    let d = c.index_mut.result.now in
    let is : get_or c.args.chunks.now.items c.args.spot.chunk d ≡ d = search rules in
    subst (λ x. AreRows g.K.Ord.cmp x.items) is (chunk-sorted g.K.Ord.cmp c.args.chunks.now.items c.args.spot.chunk d c.requires.is.is.at c.requires.sorted)

pub take_from-requires-clause-place : goal.take_from-requires-clause-place
take_from-requires-clause-place g c =
    let d = c.index_mut.result.now in
    let is : get_or c.args.chunks.now.items c.args.spot.chunk d ≡ d = search rules in
    c.requires.is.place d ∙ ap (λ x. rank g.K.Ord.cmp c.args.key.now x.items) is

pub returns-clause-rows : goal.returns-clause-rows
returns-clause-rows g c =
    let d = c.index_mut.result.now in
    let is : get_or c.args.chunks.now.items c.args.spot.chunk d ≡ d = search rules in
    take-chunk g.K.Ord.cmp c.args.key.now c.args.chunks.now.items c.args.spot.chunk d c.requires.is.is c.take_from.new.rows (c.take_from.ensures.items ∙ ap (λ x. remove_entry (is_at (g.K.Ord.cmp c.args.key.now)) x.items) (sym is))

pub returns-clause-value : goal.returns-clause-value
returns-clause-value g c =
    let d = c.index_mut.result.now in
    let is : get_or c.args.chunks.now.items c.args.spot.chunk d ≡ d = search rules in
    c.take_from.ensures.value ∙ ap (λ x. lookup (is_at (g.K.Ord.cmp c.args.key.now)) x.items) (sym is) ∙ sym (value-chunk g.K.Ord.cmp c.args.key.now c.args.chunks.now.items c.args.spot.chunk d c.requires.is.is)

pub returns-clause-filled : goal.returns-clause-filled
returns-clause-filled g c =
    let d = c.index_mut.result.now in
    let is : get_or c.args.chunks.now.items c.args.spot.chunk d ≡ d = search rules in
    let more = subst (λ v. 1 < length v.items) is (c.requires.more d) in
    let less = take-one-less (is_at (g.K.Ord.cmp c.args.key.now)) d.items in
    let items = ap length c.take_from.ensures.items in
    let one : 0 < length c.take_from.new.rows.items = omega (arith, more, less, items) in
    All-set (λ v. 0 < length v.items) c.args.chunks.now.items c.args.spot.chunk c.take_from.new.rows one c.requires.filled

pub returns-clause-roomy : goal.returns-clause-roomy
returns-clause-roomy g c =
    let d = c.index_mut.result.now in
    let is : get_or c.args.chunks.now.items c.args.spot.chunk d ≡ d = search rules in
    let was = subst IsRoomy is (c.requires.roomy c.args.spot.chunk d c.requires.is.is.at) in
    let fewer = take-fewer (is_at (g.K.Ord.cmp c.args.key.now)) d.items in
    let items = ap length c.take_from.ensures.items in
    let most : length c.take_from.new.rows.items ≤ chunk_room = omega (arith, was.1, fewer, items) in
    let room : chunk_room ≤ vec_capacity c.take_from.new.rows = omega (arith, was.0, c.take_from.ensures.room) in
    All-set IsRoomy c.args.chunks.now.items c.args.spot.chunk c.take_from.new.rows (room, most) c.requires.roomy
