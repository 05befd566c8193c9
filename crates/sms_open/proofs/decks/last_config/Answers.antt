use Rattle.std.proofs.Common.{◌≡◌, ◌-◌, refl, length, Some, slice_get, rules}
use Rattle.deck_meaning.specs.Reading.{HasFirstFault}
use Rattle.sms_open.proofs.DeckLemmas.{last-active, last-fault}
use Rattle.sms_open.proofs.decks.last_config.Goals as goal

pub returns-in-Ok-clause-ok : goal.returns-in-Ok-clause-ok
returns-in-Ok-clause-ok c =
    let last : Some c.in-Some.deck.now ≡ slice_get c.args.decks.now (length c.args.decks.now - 1) = search rules in
    last-active c.args.decks.now c.in-Some.deck.now c.in-Ok.config last (search rules)

pub returns-in-Err-Fault-clause-err : goal.returns-in-Err-Fault-clause-err
returns-in-Err-Fault-clause-err c =
    let last : Some c.in-Some.deck.now ≡ slice_get c.args.decks.now (length c.args.decks.now - 1) = search rules in
    let has : HasFirstFault c.in-Some.deck.now.bytes c.in-Err-Fault.field-0-0 = search rules in
    (refl, last-fault c.args.decks.now c.in-Some.deck.now c.in-Err-Fault.field-0-0 last has)
