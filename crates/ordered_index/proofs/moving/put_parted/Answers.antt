use Rattle.std.proofs.Common.{◌≡◌, ◌≤◌, ◌<◌, ◌+◌, ◌++◌, ◌∷◌, ◌∙◌, suc, length, take, drop, vec_capacity, sym}
use Rattle.std.proofs.Common.{ap, subst, arith}
use Rattle.std.proofs.lemmas.List.Elements.{All-same}
use Rattle.std.specs.BTreeMap.{insert_entry, is_at}
use Rattle.std.specs.List.{All}
use Rattle.std.specs.Map.{lookup}
use Rattle.ordered_index.specs.Chunks.{rows_of}
use Rattle.ordered_index.specs.Room.{IsRoomy, IsSpare, chunk_room}
use Rattle.ordered_index.specs.Rows.{AreRows}
use Rattle.ordered_index.proofs.ChunkLemmas.{chunk-sorted, value-chunk}
use Rattle.ordered_index.proofs.PartLemmas.{All-two, front-all, last-is, parted-chunks-are, put-parts, rows-two}
use Rattle.ordered_index.proofs.SortedLemmas.{sorted-put}
use Rattle.ordered_index.proofs.moving.put_parted.Goals as goal

pub put_in_either-old-requires-clause-sorted : goal.put_in_either-old-requires-clause-sorted
put_in_either-old-requires-clause-sorted g c =
    let cs = c.args.chunks.now.items in
    let one = chunk-sorted g.K.Ord.cmp cs c.args.place c.remove-front.result c.requires.is.at c.requires.index.sorted in
    subst (AreRows g.K.Ord.cmp) (ap (λ v. v.items) (sym c.remove-front.ensures.value) ∙ sym c.move_half.ensures.rows) one

pub put_in_either-old-requires-clause-behind : goal.put_in_either-old-requires-clause-behind
put_in_either-old-requires-clause-behind g c =
    let spare = last-is IsSpare c.take_last-behind.new.self.items c.take_last-behind.result (subst (All IsSpare) c.take_last-behind.ensures.items c.requires.index.spare) in
    omega (arith, spare.0, c.move_half.ensures.room, c.move_half.ensures.back)

pub returns-clause-value : goal.returns-clause-value
returns-clause-value g c =
    let cs = c.args.chunks.now.items in
    c.put_in_either-old.ensures.value ∙ ap (lookup (is_at (g.K.Ord.cmp c.args.key))) (c.move_half.ensures.rows ∙ ap (λ v. v.items) c.remove-front.ensures.value)
    ∙ sym (value-chunk g.K.Ord.cmp c.args.key cs c.args.place c.remove-front.result c.requires.is)

pub returns-clause-rows : goal.returns-clause-rows
returns-clause-rows g c =
    let R = g.K.Ord.cmp in
    let cs = c.args.chunks.now.items in
    let front = c.put_in_either-old.new.front in
    let behind = c.put_in_either-old.new.behind in
    let chunks = parted-chunks-are cs c.remove-front.new.self.items c.insert_chunk.new.chunks.items c.insert_chunk-2.new.chunks.items c.args.place behind front c.requires.is.at c.remove-front.ensures.items c.insert_chunk.ensures.chunks c.insert_chunk-2.ensures.chunks in
    let rows = c.put_in_either-old.ensures.rows ∙ ap (λ l. insert_entry R l c.args.key c.args.value) (c.move_half.ensures.rows ∙ ap (λ v. v.items) c.remove-front.ensures.value) in
    ap rows_of chunks ∙ rows-two (take c.args.place cs) (drop (suc c.args.place) cs) front behind ∙ put-parts R c.args.key cs c.args.place c.remove-front.result c.requires.is c.args.value (front.items ++ behind.items) rows

pub returns-clause-index : goal.returns-clause-index
returns-clause-index g c =
    let R = g.K.Ord.cmp in
    let cs = c.args.chunks.now.items in
    let front = c.put_in_either-old.new.front in
    let behind = c.put_in_either-old.new.behind in
    let spare = last-is IsSpare c.take_last-behind.new.self.items c.take_last-behind.result (subst (All IsSpare) c.take_last-behind.ensures.items c.requires.index.spare) in
    let list = take c.args.place cs ++ (front ∷ (behind ∷ drop (suc c.args.place) cs)) in
    let chunks : c.insert_chunk-2.new.chunks.items ≡ list = parted-chunks-are cs c.remove-front.new.self.items c.insert_chunk.new.chunks.items c.insert_chunk-2.new.chunks.items c.args.place behind front c.requires.is.at c.remove-front.ensures.items c.insert_chunk.ensures.chunks c.insert_chunk-2.ensures.chunks in
    let was = subst (λ v. chunk_room ≤ vec_capacity v) (sym c.remove-front.ensures.value) (c.requires.index.roomy c.args.place c.remove-front.result c.requires.is.at).0 in
    let front-some : 0 < length front.items = omega (arith, c.put_in_either-old.ensures.front.0, c.move_half.ensures.front) in
    let behind-some : 0 < length behind.items = omega (arith, c.put_in_either-old.ensures.behind.0, c.move_half.ensures.back) in
    let front-room : chunk_room ≤ vec_capacity front = omega (arith, was, c.put_in_either-old.ensures.front.2, c.move_half.ensures.capacity) in
    let behind-room : chunk_room ≤ vec_capacity behind = omega (arith, spare.0, c.put_in_either-old.ensures.behind.2, c.move_half.ensures.room) in
    let front-few : length front.items ≤ chunk_room = omega (arith, c.put_in_either-old.ensures.front.1, c.move_half.ensures.front) in
    let behind-few : length behind.items ≤ chunk_room = omega (arith, c.put_in_either-old.ensures.behind.1, c.move_half.ensures.back) in
    let spares = ap length c.take_last-behind.ensures.items in
    record {
      sorted = subst (AreRows R) (sym (returns-clause-rows g c)) (sorted-put g.met.K.Ord.total c.args.key c.args.value (rows_of cs) c.requires.index.sorted);
      filled = All-same (λ v. 0 < length v.items) c.insert_chunk-2.new.chunks.items list chunks (All-two (λ v. 0 < length v.items) cs c.args.place c.requires.index.filled behind front behind-some front-some);
      roomy = All-same IsRoomy c.insert_chunk-2.new.chunks.items list chunks (All-two IsRoomy cs c.args.place c.requires.index.roomy behind front (behind-room, behind-few) (front-room, front-few));
      spare = front-all IsSpare c.take_last-behind.new.self.items c.take_last-behind.result (subst (All IsSpare) c.take_last-behind.ensures.items c.requires.index.spare);
      places = omega (arith, c.requires.index.places, c.requires.is.at, spares, c.remove-front.ensures.len, c.remove-front.ensures.capacity, c.insert_chunk.ensures.more, c.insert_chunk.ensures.capacity, c.insert_chunk-2.ensures.more, c.insert_chunk-2.ensures.capacity);
    }
