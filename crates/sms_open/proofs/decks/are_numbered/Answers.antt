use Rattle.std.proofs.Common.{◌≡◌, ◌+◌, ℕ, suc, take, subst, arith}
use Rattle.desk_law.specs.Decked.{AreNumbered}
use Rattle.sms_open.proofs.DeckLemmas.{numbered-at, numbered-more}
use Rattle.sms_open.proofs.decks.are_numbered.Goals.{then-deck-eq0-via-then-deck-eq0}
use Rattle.sms_open.proofs.decks.are_numbered.Goals.{then-deck-eq0-via-else-deck-eq0+then-deck-before}
use Rattle.sms_open.proofs.decks.are_numbered.Goals as goal

pub returns-then-deck-eq0 : goal.returns-then-deck-eq0
returns-then-deck-eq0 c = λ all.
    let here = numbered-at 0 c.args.decks.now c.loop-deck.deck-index c.deck-item.result c.loop-deck-test.true c.deck-item.is all in
    elim c.then-deck-eq0.branch [
      | then-deck-eq0-via-then-deck-eq0 w ↦ omega (arith, here, w.if-deck-eq0.true)
      | then-deck-eq0-via-else-deck-eq0+then-deck-before w ↦ omega (arith, here, w.if-deck-before.true, c.loop-deck.invariant.1)
    ]

pub loop-deck-preserved : goal.loop-deck-preserved
loop-deck-preserved c =
    let i = c.loop-deck.deck-index in
    let count : c.deck-item.result.count ≡ 0 + i + 1 = omega (arith, c.if-deck-eq0.false, c.if-deck-before.false, c.loop-deck.invariant.1) in
    let next : suc i ≡ i + 1 = omega arith in
    (subst (λ (n : ℕ). AreNumbered 0 (take n c.args.decks.now)) next (numbered-more 0 c.args.decks.now i c.deck-item.result c.loop-deck-test.true c.deck-item.is c.loop-deck.invariant.0 count), omega (arith, count))
