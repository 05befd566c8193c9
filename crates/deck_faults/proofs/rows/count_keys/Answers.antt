use Rattle.std.proofs.Common.{◌∙◌}
use Rattle.sms_deck.proofs.TableLemmas.{key_count-view}
use Rattle.deck_faults.proofs.rows.count_keys.Goals as goal

pub returns : goal.returns
returns c = c.len.ensures.len ∙ key_count-view c.args.keys.now.entries
