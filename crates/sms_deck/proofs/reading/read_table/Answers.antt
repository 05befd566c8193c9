use Rattle.std.proofs.Common.{sym}
use Rattle.toml.specs.View.{table_view}
use Rattle.deck_meaning.proofs.ConfigurationLemmas.{lawful}
use Rattle.deck_meaning.proofs.ReadingLemmas.{tells_form, is_read}
use Rattle.sms_deck.proofs.reading.read_table.Goals as goal

pub returns-in-Err-clause-err : goal.returns-in-Err-clause-err
returns-in-Err-clause-err c = tells_form (table_view c.args.top.now) c.in-Err.err c.in-Err.ensures.err

pub returns-in-Ok-build-clause-ok : goal.returns-in-Ok-build-clause-ok
returns-in-Ok-build-clause-ok c =
    is_read c.args.deck.now (table_view c.args.top.now) c.in-Ok-build.config c.in-Ok-read_sources.sources c.in-Ok.ensures.ok c.in-Ok-read_sources.ensures.ok (sym c.in_default.ensures) c.in-Ok-build.ensures

pub build-requires-clause-form : goal.build-requires-clause-form
build-requires-clause-form c = lawful c.in-Ok-read_sources.sources c.requires c.in-Ok-read_sources.ensures.ok c.in-Ok.ensures.ok
