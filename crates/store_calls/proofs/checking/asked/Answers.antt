use Rattle.std.proofs.Common.{◌∙◌, ℕ, List, ap, subst}
use Rattle.deck_changes.specs.DeckChanges.{IsDifference}
use Rattle.sms_construct.specs.declared.request.Op.TheVariants.{Activate}
use Rattle.store_calls.proofs.NumberLemmas.{is_activation}
use Rattle.store_calls.proofs.checking.asked.Goals as goal

pub returns-clause-request : goal.returns-clause-request
returns-clause-request c =
    let asked = c.in_ok-activation.ensures in
    is_activation c.in_ok-activation.field-0 c.args.bytes.items asked.job (asked.op ∙ ap Activate (c.in_ok-deck.ensures ∙ c.from_vec.ensures))

pub returns-clause-changes : goal.returns-clause-changes
returns-clause-changes c =
    subst (λ (deck : List ℕ). IsDifference c.args.config.now deck c.in_ok-changes.changes.items) (c.in_ok-deck.ensures ∙ c.from_vec.ensures) c.in_ok-changes.ensures
