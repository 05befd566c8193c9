use Rattle.std.proofs.Common.{◌≡◌, ◌∙◌, List, [], ap, codes, map, sym}
use Rattle.sqlite.specs.Held.{state}
use Rattle.sqlite.specs.Order.{Row}
use Rattle.keeper_statements.specs.Order.{in_order, by_first, two_columns}
use Rattle.keeper_statements.specs.Schema.{sets_table}
use Rattle.keeper_statements.specs.Tables.{bodies}
use Rattle.keeper_statements.proofs.GrowLemmas.{form_there, rows_missing}
use Rattle.keeper_statements.proofs.PlaceLemmas.{placed_of}
use Rattle.keeper_statements.proofs.QueryLemmas.{shown_same}
use Rattle.keeper_statements.proofs.ReadLemmas.{sets_shown}
use Rattle.keeper_statements.proofs.ReadTextLemmas as texts
use Rattle.keeper_statements.proofs.StatementLemmas.{ok_either}
use Rattle.keeper_statements.proofs.reading.all_sets.Goals as goal

pub returns-clause-answer : goal.returns-clause-answer
returns-clause-answer g c clean serves named =
    let old = state g.S.Store c.args.tx.now.conn.now in
    let new = state g.S.Store c.all_rows.new.tx.conn.now in
    ok_either c.args.is_there c.all_rows.result _ _ _ (c.all_rows.ensures.shown clean) c.all_rows.ensures.none
    (λ is rows h. let it = form_there sets_table old.now serves.schema.tables.0 serves.keyed.0 (named ∙ is) in sets_shown old new rows.items serves.schema it.0 it.1 h)
    (λ is rows none. none ∙ ap (λ (l : List Row). map two_columns (in_order by_first (bodies l))) (sym (rows_missing old.now (codes "sets") (named ∙ is))))

pub returns-clause-same : goal.returns-clause-same
returns-clause-same g c clean serves named =
    let old = state g.S.Store c.args.tx.now.conn.now in
    let new = state g.S.Store c.all_rows.new.tx.conn.now in
    ok_either c.args.is_there c.all_rows.result _ _ (λ rows. new.now ≡ old.now) (c.all_rows.ensures.shown clean) c.all_rows.ensures.same
    (λ is rows h.
    let it = form_there sets_table old.now serves.schema.tables.0 serves.keyed.0 (named ∙ is) in
    shown_same texts.sets_text [] old new rows.items (texts.sets_means old.now.schema _ (placed_of sets_table old.now.schema serves.schema.apart it.0)).plain h)
    (λ is rows same. same)
