use Rattle.std.proofs.Common.{◌∙◌, sym}
use Rattle.deck_meaning.proofs.LookupLemmas.{any_named}
use Rattle.deck_meaning.proofs.lookups.has_data_class.Goals as goal

pub returns : goal.returns
returns c = c.any_data_class.ensures ∙ sym (any_named (λ item. item.name) c.args.name.now c.args.classes.now)
