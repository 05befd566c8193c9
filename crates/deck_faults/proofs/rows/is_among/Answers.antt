use Rattle.std.proofs.Common.{◌∙◌, sym}
use Rattle.sms_deck.proofs.WordLemmas.{any_behind}
use Rattle.deck_faults.proofs.rows.is_among.Goals as goal

pub returns : goal.returns
returns c = c.is_any.ensures ∙ sym (any_behind c.args.text.now c.args.words.now)
