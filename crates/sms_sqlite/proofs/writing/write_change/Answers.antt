use Rattle.std.proofs.Common.{◌≡◌, ap, sym, ◌∙◌}
use Rattle.sqlite.specs.Held.{state}
use Rattle.sqlite.specs.Schema.{Schema}
use Rattle.keeper_statements.specs.Presence.{all_there, present_in}
use Rattle.sms_sqlite.proofs.CommitLemmas.{survives_weaker}
use Rattle.sms_sqlite.proofs.ToldLemmas.{holds_of}
use Rattle.sms_sqlite.proofs.writing.write_change.Goals as goal

pub returns-clause-made : goal.returns-clause-made
returns-clause-made g c clean rows told =
    let old = (state g.S.Store c.args.connection.now).now in
    let found : c.present_among-there.result ≡ present_in old.schema.tables = c.present_among-there.ensures ∙ ap present_in (c.as_slice.ensures ∙ ap (λ (s : Schema). s.tables) c.schema.ensures.value) in
    let all : present_in old.schema.tables ≡ all_there = sym found ∙ c.has_all.ensures.0 c.if-not-has_all.false in
    c.write_inside.ensures.made clean rows (holds_of old rows all told)

pub returns-clause-crash : goal.returns-clause-crash
returns-clause-crash g c =
    let old = (state g.S.Store c.args.connection.now).now in
    let found : c.present_among-there.result ≡ present_in old.schema.tables = c.present_among-there.ensures ∙ ap present_in (c.as_slice.ensures ∙ ap (λ (s : Schema). s.tables) c.schema.ensures.value) in
    let all : present_in old.schema.tables ≡ all_there = sym found ∙ c.has_all.ensures.0 c.if-not-has_all.false in
    survives_weaker _ _ _ _ (λ db has rows told. has rows (holds_of old rows all told)) c.write_inside.ensures.crash
