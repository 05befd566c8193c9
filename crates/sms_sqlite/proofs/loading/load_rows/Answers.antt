use Rattle.std.proofs.Common.{◌≡◌, ap, sym, ◌∙◌}
use Rattle.sqlite.specs.Held.{state}
use Rattle.sqlite.specs.Schema.{Schema}
use Rattle.keeper_statements.specs.Presence.{none_there, present_in}
use Rattle.sms_sqlite.proofs.LoadLemmas.{none_reads}
use Rattle.sms_sqlite.proofs.loading.load_rows.Goals as goal

pub returns-then-has_none-clause-reads : goal.returns-then-has_none-clause-reads
returns-then-has_none-clause-reads g c clean serves =
    let old = (state g.S.Store c.args.connection.now).now in
    let found : c.present_among-there.result ≡ present_in old.schema.tables = c.present_among-there.ensures ∙ ap present_in (c.as_slice.ensures ∙ ap (λ (s : Schema). s.tables) c.schema-2.ensures.value) in
    let none : present_in old.schema.tables ≡ none_there = sym found ∙ c.has_none.ensures.0 c.if-has_none.true in
    none_reads old c.empty_rows.result none c.empty_rows.ensures

pub returns-clause-reads : goal.returns-clause-reads
returns-clause-reads g c clean serves =
    let old = (state g.S.Store c.args.connection.now).now in
    let found : c.present_among-there.result ≡ present_in old.schema.tables = c.present_among-there.ensures ∙ ap present_in (c.as_slice.ensures ∙ ap (λ (s : Schema). s.tables) c.schema-2.ensures.value) in
    c.read_found.ensures _ (c.in_ok-found.ensures.found clean serves (sym found))
