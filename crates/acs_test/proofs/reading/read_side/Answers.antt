use Rattle.std.proofs.Common.{List, ℕ, Ok, Err, subst}
use Rattle.deck_meaning.specs.declared.deck_err.DeckErr.{DeckErr}
use Rattle.deck_meaning.specs.declared.deck_err.DeckErr.TheVariants as decks
use Rattle.acs_test.proofs.ReadingLemmas.{IsDeckRead, side_configures, side_faulty}
use Rattle.acs_test.proofs.reading.read_side.Goals as goal

pub returns-in-Ok-read_deck-clause-exactly : goal.returns-in-Ok-read_deck-clause-exactly
returns-in-Ok-read_deck-clause-exactly c =
    let config = c.in-Ok-read_deck.config in
    side_configures c.args.side c.args.bytes.now config (subst (λ (deck : List ℕ). IsDeckRead deck (Ok config)) c.in-Ok.ensures c.in-Ok-read_deck.ensures.exactly)

pub returns-in-Err-Fault-clause-exactly : goal.returns-in-Err-Fault-clause-exactly
returns-in-Err-Fault-clause-exactly c =
    let fault = c.in-Err-Fault.fault in
    let read = subst (λ (e : DeckErr). IsDeckRead c.in-Ok.deck (Err e)) c.in-Err-Fault.field-0-is c.in-Err-Fault.ensures.exactly in
    side_faulty c.args.side c.args.bytes.now fault (subst (λ (deck : List ℕ). IsDeckRead deck (Err (decks.Fault fault))) c.in-Ok.ensures read)
