use Rattle.std.proofs.Common.{◌≡◌, take}
use Rattle.desk_law.specs.Decked.{AreNumbered}
use Rattle.sms_open.proofs.decks.are_numbered.Given as goal

-- the decks that were gone over are counted in order
abbrev pub invariant-loop-deck : goal.invariant-loop-deck
invariant-loop-deck l = AreNumbered 0 (take l.deck-index l.decks) × (l.before ≡ l.deck-index)
