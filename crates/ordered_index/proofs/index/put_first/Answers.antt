use Rattle.std.proofs.Common.{◌≡◌, ◌≤◌, ◌<◌, ◌+◌, ◌++◌, ◌∷◌, ◌∙◌, [], length, vec_capacity, sym, ap, subst, arith}
use Rattle.std.proofs.lemmas.List.Elements.{All-cons, All-nil}
use Rattle.std.specs.List.{All}
use Rattle.ordered_index.specs.Chunks.{rows_of}
use Rattle.ordered_index.specs.Room.{IsRoomy, IsSpare, chunk_room}
use Rattle.ordered_index.specs.Rows.{AreRows}
use Rattle.ordered_index.proofs.PartLemmas.{front-all, last-is, none-of}
use Rattle.ordered_index.proofs.SortedLemmas.{sorted-nil, sorted-put}
use Rattle.ordered_index.proofs.index.put_first.Goals as goal

pub returns-clause-rows : goal.returns-clause-rows
returns-clause-rows g c =
    let chunk = c.push_reserved.new.self in
    let spare = last-is IsSpare c.take_last-chunk.new.self.items c.take_last-chunk.result (subst (All IsSpare) c.take_last-chunk.ensures.items c.requires.index.spare) in
    let row = c.push_reserved.ensures.items ∙ ap (λ l. l ++ ((c.args.key, c.args.value) ∷ [])) spare.1 in
    ap rows_of (c.push_reserved-2.ensures.items ∙ ap (λ l. l ++ (chunk ∷ [])) (none-of c.args.chunks.now.items c.requires.none)) ∙ ap (λ l. l ++ []) row

pub returns-clause-index : goal.returns-clause-index
returns-clause-index g c =
    let R = g.K.Ord.cmp in
    let chunk = c.push_reserved.new.self in
    let spare = last-is IsSpare c.take_last-chunk.new.self.items c.take_last-chunk.result (subst (All IsSpare) c.take_last-chunk.ensures.items c.requires.index.spare) in
    let items = ap length (c.push_reserved.ensures.items ∙ ap (λ l. l ++ ((c.args.key, c.args.value) ∷ [])) spare.1) in
    let list : c.push_reserved-2.new.self.items ≡ chunk ∷ [] = c.push_reserved-2.ensures.items ∙ ap (λ l. l ++ (chunk ∷ [])) (none-of c.args.chunks.now.items c.requires.none) in
    let some : 0 < length chunk.items = omega (arith, items) in
    let few : length chunk.items ≤ chunk_room = omega (arith, items) in
    let room : chunk_room ≤ vec_capacity chunk = omega (arith, spare.0, c.push_reserved.ensures.capacity) in
    let spares = ap length c.take_last-chunk.ensures.items in
    let chunks = ap length list in
    record {
      sorted = subst (AreRows R) (sym (returns-clause-rows g c)) (sorted-put g.met.K.Ord.total c.args.key c.args.value [] (sorted-nil g.row.V.Denot R));
      filled = subst (All (λ v. 0 < length v.items)) (sym list) (All-cons (λ v. 0 < length v.items) chunk [] some (All-nil (λ v. 0 < length v.items)));
      roomy = subst (All IsRoomy) (sym list) (All-cons IsRoomy chunk [] (room, few) (All-nil IsRoomy));
      spare = front-all IsSpare c.take_last-chunk.new.self.items c.take_last-chunk.result (subst (All IsSpare) c.take_last-chunk.ensures.items c.requires.index.spare);
      places = omega (arith, c.requires.index.places, c.requires.none, spares, chunks, c.push_reserved-2.ensures.capacity);
    }
