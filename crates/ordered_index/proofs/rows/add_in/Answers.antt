use Rattle.std.proofs.Common.{◌≡◌, ◌∙◌, ◌++◌, ◌∷◌, take, drop, true, false, sym, ap, rules, arith}
use Rattle.std.proofs.lemmas.Grind.{common_steps}
use Rattle.std.specs.List.{insert}
use Rattle.std.specs.Prelude.{is_none}
use Rattle.ordered_index.specs.Rows.{is_key_at, rank}
use Rattle.ordered_index.proofs.AddLemmas.{add-free, add-taken}
use Rattle.ordered_index.proofs.RowLemmas.{found-value, missing-put, missing-value, rank-most}
use Rattle.ordered_index.proofs.rows.add_in.Goals as goal

pub insert-requires : goal.insert-requires
insert-requires g c =
    let most = rank-most g.K.Ord.cmp c.args.key c.args.rows.now.items in
    let place = c.requires.place in
    let counted = c.args.rows.now.ok.0 in
    omega (arith, most, place, counted)

pub returns-then-has_key-clause-added : goal.returns-then-has_key-clause-added
returns-then-has_key-clause-added g c =
    let R = g.K.Ord.cmp in
    let hit : is_key_at R c.args.key c.args.rows.now.items (rank R c.args.key c.args.rows.now.items) ≡ true = search rules in
    sym (ap is_none (found-value R c.args.key c.args.rows.now.items (c.args.key, c.args.value) hit))

pub returns-then-has_key-clause-items : goal.returns-then-has_key-clause-items
returns-then-has_key-clause-items g c =
    sym (add-taken g.K.Ord.cmp c.args.key c.args.value c.args.rows.now.items (sym (returns-then-has_key-clause-added g c)))

pub returns-clause-added : goal.returns-clause-added
returns-clause-added g c =
    let R = g.K.Ord.cmp in
    let miss : is_key_at R c.args.key c.args.rows.now.items (rank R c.args.key c.args.rows.now.items) ≡ false = search rules in
    sym (ap is_none (missing-value g.met.K.Ord.total c.args.key c.args.rows.now.items c.requires.sorted miss))

pub returns-clause-items : goal.returns-clause-items
returns-clause-items g c =
    let R = g.K.Ord.cmp in
    let miss : is_key_at R c.args.key c.args.rows.now.items (rank R c.args.key c.args.rows.now.items) ≡ false = search rules in
    let missing = missing-put R c.args.key c.args.value c.args.rows.now.items miss in
    let items : c.insert.new.self.items ≡ take c.args.index c.args.rows.now.items ++ ((c.args.key, c.args.value) ∷ drop c.args.index c.args.rows.now.items) = grind (arith, common_steps) in
    items ∙ ap (λ n. insert c.args.rows.now.items n (c.args.key, c.args.value)) c.requires.place ∙ sym missing
    ∙ sym (add-free R c.args.key c.args.value c.args.rows.now.items (sym (returns-clause-added g c)))
