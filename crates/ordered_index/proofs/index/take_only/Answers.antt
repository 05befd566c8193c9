use Rattle.std.proofs.Common.{◌≡◌, ◌≤◌, ◌<◌, ◌++◌, ◌∷◌, ◌∙◌, [], suc, length, take, drop, vec_capacity, sym, ap}
use Rattle.std.proofs.Common.{subst, rules, arith}
use Rattle.std.proofs.lemmas.List.Elements.{All-same}
use Rattle.std.proofs.lemmas.Bool.Decides.{nat_tests}
use Rattle.std.specs.BTreeMap.{is_at}
use Rattle.std.specs.List.{All}
use Rattle.std.specs.Map.{lookup, remove_entry}
use Rattle.ordered_index.specs.Chunks.{rows_of}
use Rattle.ordered_index.specs.Room.{IsRoomy, chunk_room}
use Rattle.ordered_index.specs.Rows.{AreRows}
use Rattle.ordered_index.proofs.ChunkLemmas.{chunk-sorted, value-chunk}
use Rattle.ordered_index.proofs.PartLemmas.{All-one, All-removed, none-of, one-chunk-is, rows-append, rows-without}
use Rattle.ordered_index.proofs.PartLemmas.{take-parts}
use Rattle.ordered_index.proofs.SortedLemmas.{take-fewer}
use Rattle.ordered_index.proofs.index.take_only.Goals as goal

pub place_of-row-requires : goal.place_of-row-requires
place_of-row-requires g c =
    let sorted = subst (λ v. AreRows g.K.Ord.cmp v.items) (sym c.remove-chunk.ensures.value) (chunk-sorted g.K.Ord.cmp c.args.chunks.now.items c.args.place c.remove-chunk.result c.requires.is.at c.requires.sorted) in
    let items : c.remove-chunk.result.items ≡ c.deref.result.now = search rules in
    subst (λ l. AreRows g.K.Ord.cmp l) items sorted

pub take_from-value-requires-clause-sorted : goal.take_from-value-requires-clause-sorted
take_from-value-requires-clause-sorted g c =
    subst (λ v. AreRows g.K.Ord.cmp v.items) (sym c.remove-chunk.ensures.value) (chunk-sorted g.K.Ord.cmp c.args.chunks.now.items c.args.place c.remove-chunk.result c.requires.is.at c.requires.sorted)

pub returns-then-not-is_empty-clause-value : goal.returns-then-not-is_empty-clause-value
returns-then-not-is_empty-clause-value g c =
    c.take_from-value.ensures.value ∙ ap (λ v. lookup (is_at (g.K.Ord.cmp c.args.key.now)) v.items) c.remove-chunk.ensures.value
    ∙ sym (value-chunk g.K.Ord.cmp c.args.key.now c.args.chunks.now.items c.args.place c.remove-chunk.result c.requires.is)

pub returns-else-not-is_empty-clause-value : goal.returns-else-not-is_empty-clause-value
returns-else-not-is_empty-clause-value g c =
    c.take_from-value.ensures.value ∙ ap (λ v. lookup (is_at (g.K.Ord.cmp c.args.key.now)) v.items) c.remove-chunk.ensures.value
    ∙ sym (value-chunk g.K.Ord.cmp c.args.key.now c.args.chunks.now.items c.args.place c.remove-chunk.result c.requires.is)

pub returns-then-not-is_empty-clause-rows : goal.returns-then-not-is_empty-clause-rows
returns-then-not-is_empty-clause-rows g c =
    let R = g.K.Ord.cmp in
    let cs = c.args.chunks.now.items in
    let chunk = c.take_from-value.new.rows in
    let chunks = one-chunk-is cs c.remove-chunk.new.self.items c.insert_chunk.new.chunks.items c.args.place chunk c.requires.is.at c.remove-chunk.ensures.items c.insert_chunk.ensures.chunks in
    let rows = c.take_from-value.ensures.items ∙ ap (λ v. remove_entry (is_at (R c.args.key.now)) v.items) c.remove-chunk.ensures.value in
    ap rows_of chunks ∙ rows-append (take c.args.place cs) (chunk ∷ drop (suc c.args.place) cs) ∙ take-parts R c.args.key.now cs c.args.place c.remove-chunk.result c.requires.is chunk.items rows

pub returns-else-not-is_empty-clause-rows : goal.returns-else-not-is_empty-clause-rows
returns-else-not-is_empty-clause-rows g c =
    let R = g.K.Ord.cmp in
    let cs = c.args.chunks.now.items in
    let chunk = c.take_from-value.new.rows in
    let none = none-of chunk.items (grind (arith, nat_tests, rules)) in
    let rows = sym none ∙ c.take_from-value.ensures.items ∙ ap (λ v. remove_entry (is_at (R c.args.key.now)) v.items) c.remove-chunk.ensures.value in
    ap rows_of c.remove-chunk.ensures.items ∙ rows-without cs c.args.place ∙ take-parts R c.args.key.now cs c.args.place c.remove-chunk.result c.requires.is [] rows

pub returns-then-not-is_empty-clause-filled : goal.returns-then-not-is_empty-clause-filled
returns-then-not-is_empty-clause-filled g c =
    let cs = c.args.chunks.now.items in
    let chunk = c.take_from-value.new.rows in
    let one : 0 < length chunk.items = search (nat_tests, arith, rules) in
    let chunks = one-chunk-is cs c.remove-chunk.new.self.items c.insert_chunk.new.chunks.items c.args.place chunk c.requires.is.at c.remove-chunk.ensures.items c.insert_chunk.ensures.chunks in
    All-same (λ v. 0 < length v.items) c.insert_chunk.new.chunks.items (take c.args.place cs ++ (chunk ∷ drop (suc c.args.place) cs)) chunks (All-one (λ v. 0 < length v.items) cs c.args.place c.requires.filled (suc c.args.place) chunk one)

pub returns-then-not-is_empty-clause-roomy : goal.returns-then-not-is_empty-clause-roomy
returns-then-not-is_empty-clause-roomy g c =
    let cs = c.args.chunks.now.items in
    let chunk = c.take_from-value.new.rows in
    let was = subst IsRoomy (sym c.remove-chunk.ensures.value) (c.requires.roomy c.args.place c.remove-chunk.result c.requires.is.at) in
    let fewer = take-fewer (is_at (g.K.Ord.cmp c.args.key.now)) c.remove-chunk.result.items in
    let items = ap length c.take_from-value.ensures.items in
    let most : length chunk.items ≤ chunk_room = omega (arith, was.1, fewer, items) in
    let room : chunk_room ≤ vec_capacity chunk = omega (arith, was.0, c.take_from-value.ensures.room) in
    let chunks = one-chunk-is cs c.remove-chunk.new.self.items c.insert_chunk.new.chunks.items c.args.place chunk c.requires.is.at c.remove-chunk.ensures.items c.insert_chunk.ensures.chunks in
    All-same IsRoomy c.insert_chunk.new.chunks.items (take c.args.place cs ++ (chunk ∷ drop (suc c.args.place) cs)) chunks (All-one IsRoomy cs c.args.place c.requires.roomy (suc c.args.place) chunk (room, most))

pub returns-else-not-is_empty-clause-filled : goal.returns-else-not-is_empty-clause-filled
returns-else-not-is_empty-clause-filled g c =
    let cs = c.args.chunks.now.items in
    subst (All (λ v. 0 < length v.items)) (sym c.remove-chunk.ensures.items) (All-removed (λ v. 0 < length v.items) cs c.args.place c.requires.filled)

pub returns-else-not-is_empty-clause-roomy : goal.returns-else-not-is_empty-clause-roomy
returns-else-not-is_empty-clause-roomy g c =
    let cs = c.args.chunks.now.items in
    subst (All IsRoomy) (sym c.remove-chunk.ensures.items) (All-removed IsRoomy cs c.args.place c.requires.roomy)
