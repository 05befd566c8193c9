use Rattle.std.proofs.Common.{◌≡◌, ◌∙◌, true, false, sym, rules}
use Rattle.ordered_index.specs.Chunks.{rows_of}
use Rattle.ordered_index.specs.Rows.{is_free}
use Rattle.ordered_index.proofs.AddLemmas.{add-free, add-taken}
use Rattle.ordered_index.proofs.moving.add_in_full.Goals as goal

pub returns-then-is_free_among-clause-rows : goal.returns-then-is_free_among-clause-rows
returns-then-is_free_among-clause-rows g c =
    let cs = c.args.chunks.now.items in
    let free : is_free g.K.Ord.cmp c.args.key (rows_of cs) ≡ true = search rules in
    c.put_in_full.ensures.rows ∙ sym (add-free g.K.Ord.cmp c.args.key c.args.value (rows_of cs) free)

pub returns-else-is_free_among-clause-rows : goal.returns-else-is_free_among-clause-rows
returns-else-is_free_among-clause-rows g c =
    let cs = c.args.chunks.now.items in
    let taken : is_free g.K.Ord.cmp c.args.key (rows_of cs) ≡ false = search rules in
    sym (add-taken g.K.Ord.cmp c.args.key c.args.value (rows_of cs) taken)
