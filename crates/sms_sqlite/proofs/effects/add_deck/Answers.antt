use Rattle.sms_sqlite.proofs.NumberLemmas.{column_is}
use Rattle.sms_sqlite.proofs.TablesLemmas.{makes_like}
use Rattle.sms_sqlite.proofs.WriteLemmas.{adds_deck}
use Rattle.sms_sqlite.proofs.effects.add_deck.Goals as goal

pub returns-clause-leads : goal.returns-clause-leads
returns-clause-leads g c clean inside rows holds =
    makes_like _ _ _ rows _ (c.in_ok-add_deck.ensures.made clean inside holds.ready) holds
    (adds_deck c.args.count _ c.args.deck.now (column_is c.in-Some.count _ c.in-Some.ensures.0 c.in-Some.ensures.1) _ rows (c.in_ok-add_deck.ensures.free clean inside holds.ready))
