use Rattle.std.proofs.Common.{◌≡◌, ◌∙◌, arith, codes, subst, sym, ap, map}
use Rattle.sqlite.specs.Effect.{Database}
use Rattle.sqlite.specs.Held.{state}
use Rattle.sqlite.specs.State.{HasCleanDisk}
use Rattle.keeper_statements.specs.Order.{by_first, by_two, deck_columns, five_columns, in_order, three_columns}
use Rattle.keeper_statements.specs.Order.{two_columns}
use Rattle.keeper_statements.specs.Presence.{has_table}
use Rattle.keeper_statements.specs.Tables.{IsLegible, tables_in}
use Rattle.keeper_statements.specs.declared.present.Present.{Present}
use Rattle.sms_sqlite.proofs.loading.find_rows.Goals as goal

pub returns-clause-found : goal.returns-clause-found
returns-clause-found g c clean inside serves there =
    let s0 = state g.S.Store c.args.tx.now.conn.now in
    let s1 = state g.S.Store c.all_sets.new.tx.conn.now in
    let s2 = state g.S.Store c.all_replies.new.tx.conn.now in
    let s3 = state g.S.Store c.all_decks.new.tx.conn.now in
    let s4 = state g.S.Store c.all_statuses.new.tx.conn.now in
    let s5 = state g.S.Store c.all_floors.new.tx.conn.now in
    let clean4 : HasCleanDisk s4 = omega (arith, clean, c.all_floors.ensures.survives.clean) in
    let clean3 : HasCleanDisk s3 = omega (arith, clean4, c.all_statuses.ensures.survives.clean) in
    let clean2 : HasCleanDisk s2 = omega (arith, clean3, c.all_decks.ensures.survives.clean) in
    let clean1 : HasCleanDisk s1 = omega (arith, clean2, c.all_replies.ensures.survives.clean) in
    let there0 = ap (λ (p : Present). p.sets) there in
    let same1 : s1.now ≡ s0.now = c.in_ok-sets.ensures.same clean1 serves there0 in
    let serves1 : IsLegible s1.now = subst IsLegible (sym same1) serves in
    let there1 = ap (λ (db : Database). has_table db.schema.tables (codes "replies")) same1 ∙ ap (λ (p : Present). p.replies) there in
    let same2 : s2.now ≡ s0.now = c.in_ok-replies.ensures.same clean2 serves1 there1 ∙ same1 in
    let serves2 : IsLegible s2.now = subst IsLegible (sym same2) serves in
    let there2 = ap (λ (db : Database). has_table db.schema.tables (codes "decks")) same2 ∙ ap (λ (p : Present). p.decks) there in
    let same3 : s3.now ≡ s0.now = c.in_ok-decks.ensures.same clean3 serves2 there2 ∙ same2 in
    let serves3 : IsLegible s3.now = subst IsLegible (sym same3) serves in
    let there3 = ap (λ (db : Database). has_table db.schema.tables (codes "statuses")) same3 ∙ ap (λ (p : Present). p.statuses) there in
    let same4 : s4.now ≡ s0.now = c.in_ok-statuses.ensures.same clean4 serves3 there3 ∙ same3 in
    let serves4 : IsLegible s4.now = subst IsLegible (sym same4) serves in
    let there4 = ap (λ (db : Database). has_table db.schema.tables (codes "floors")) same4 ∙ ap (λ (p : Present). p.floors) there in
    let sets = c.in_ok-sets.ensures.answer clean1 serves there0 in
    let replies = c.in_ok-replies.ensures.answer clean2 serves1 there1 ∙ ap (λ (db : Database). map five_columns (in_order by_two (tables_in db).replies)) same1 in
    let decks = c.in_ok-decks.ensures.answer clean3 serves2 there2 ∙ ap (λ (db : Database). map deck_columns (in_order by_first (tables_in db).decks)) same2 in
    let statuses = c.in_ok-statuses.ensures.answer clean4 serves3 there3 ∙ ap (λ (db : Database). map three_columns (in_order by_two (tables_in db).statuses)) same3 in
    let floors = c.in_ok-floors.ensures.answer clean serves4 there4 ∙ ap (λ (db : Database). map two_columns (in_order by_first (tables_in db).floors)) same4 in
    record { sets = sets; replies = replies; decks = decks; statuses = statuses; floors = floors }
