use Rattle.std.proofs.Common.{◌≡◌, ◌≤◌, ◌<◌, ◌+◌, ◌++◌, ◌∷◌, suc, length, get_or, take, drop, vec_capacity, sym}
use Rattle.std.proofs.Common.{subst, rules, arith}
use Rattle.std.proofs.lemmas.List.Elements.{All-same}
use Rattle.std.specs.List.{remove}
use Rattle.ordered_index.specs.Room.{IsRoomy, chunk_room}
use Rattle.ordered_index.proofs.PartLemmas.{All-one, first-is, join-chunks, join-length, join-rows}
use Rattle.ordered_index.proofs.moving.join_next.Goals as goal

pub returns-clause-rows : goal.returns-clause-rows
returns-clause-rows g c =
    let cs = c.args.chunks.now.items in
    let next : c.args.place + 1 ≡ suc c.args.place = omega arith in
    let less : suc c.args.place < length cs = omega (arith, c.requires.inside) in
    let chunks = join-chunks cs c.remove-next.new.self.items c.remove-chunk.new.self.items c.insert_chunk.new.chunks.items c.args.place (c.args.place + 1) c.append_rows.new.chunk next less c.remove-next.ensures.items c.remove-chunk.ensures.items c.insert_chunk.ensures.chunks in
    let first : c.remove-chunk.result ≡ get_or (remove cs (suc c.args.place)) c.args.place c.remove-chunk.result = search rules in
    join-rows cs c.args.place (c.args.place + 1) c.remove-chunk.result c.remove-next.result next less first c.remove-next.ensures.value c.append_rows.new.chunk c.insert_chunk.new.chunks.items c.append_rows.ensures.rows chunks

pub returns-clause-filled : goal.returns-clause-filled
returns-clause-filled g c =
    let cs = c.args.chunks.now.items in
    let next : c.args.place + 1 ≡ suc c.args.place = omega arith in
    let less : suc c.args.place < length cs = omega (arith, c.requires.inside) in
    let chunks = join-chunks cs c.remove-next.new.self.items c.remove-chunk.new.self.items c.insert_chunk.new.chunks.items c.args.place (c.args.place + 1) c.append_rows.new.chunk next less c.remove-next.ensures.items c.remove-chunk.ensures.items c.insert_chunk.ensures.chunks in
    let first : c.remove-chunk.result ≡ get_or (remove cs (suc c.args.place)) c.args.place c.remove-chunk.result = search rules in
    let sum = join-length cs c.args.place (c.args.place + 1) c.remove-chunk.result c.remove-next.result next less first c.remove-next.ensures.value c.append_rows.new.chunk c.append_rows.ensures.rows in
    let some = c.requires.filled c.args.place c.remove-chunk.result (omega (arith, less)) in
    let one : 0 < length c.append_rows.new.chunk.items = omega (arith, sum, some) in
    All-same (λ v. 0 < length v.items) c.insert_chunk.new.chunks.items (take c.args.place cs ++ (c.append_rows.new.chunk ∷ drop (suc (suc c.args.place)) cs)) chunks (All-one (λ v. 0 < length v.items) cs c.args.place c.requires.filled (suc (suc c.args.place)) c.append_rows.new.chunk one)

pub returns-clause-roomy : goal.returns-clause-roomy
returns-clause-roomy g c =
    let cs = c.args.chunks.now.items in
    let next : c.args.place + 1 ≡ suc c.args.place = omega arith in
    let less : suc c.args.place < length cs = omega (arith, c.requires.inside) in
    let chunks = join-chunks cs c.remove-next.new.self.items c.remove-chunk.new.self.items c.insert_chunk.new.chunks.items c.args.place (c.args.place + 1) c.append_rows.new.chunk next less c.remove-next.ensures.items c.remove-chunk.ensures.items c.insert_chunk.ensures.chunks in
    let first : c.remove-chunk.result ≡ get_or (remove cs (suc c.args.place)) c.args.place c.remove-chunk.result = search rules in
    let sum = join-length cs c.args.place (c.args.place + 1) c.remove-chunk.result c.remove-next.result next less first c.remove-next.ensures.value c.append_rows.new.chunk c.append_rows.ensures.rows in
    let few = subst (λ m. length (get_or cs c.args.place c.remove-chunk.result).items + length (get_or cs m c.remove-next.result).items ≤ chunk_room) next (c.requires.few c.remove-chunk.result c.remove-next.result) in
    let most : length c.append_rows.new.chunk.items ≤ chunk_room = omega (arith, sum, few) in
    let was = subst (λ v. chunk_room ≤ vec_capacity v) (sym (first-is cs c.args.place (c.args.place + 1) c.remove-chunk.result c.remove-next.result next less first c.remove-next.ensures.value)) (c.requires.roomy c.args.place c.remove-chunk.result (omega (arith, less))).0 in
    let room : chunk_room ≤ vec_capacity c.append_rows.new.chunk = omega (arith, was, c.append_rows.ensures.capacity) in
    All-same IsRoomy c.insert_chunk.new.chunks.items (take c.args.place cs ++ (c.append_rows.new.chunk ∷ drop (suc (suc c.args.place)) cs)) chunks (All-one IsRoomy cs c.args.place c.requires.roomy (suc (suc c.args.place)) c.append_rows.new.chunk (room, most))
