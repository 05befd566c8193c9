-- What the code holds of the parts of an input.
use Rattle.sms_script.specs.Lines.{lines_of}
use Rattle.acs_test.specs.Layout.{Block, Numbered}
use Rattle.acs_test.specs.declared.layout.DeckPart.{DeckPart}
use Rattle.acs_test.specs.declared.layout.Left.{Left}

-- the lines of a text that is left
abbrev pub numbered_in : Left → Numbered
numbered_in left = record { line = left.line; lines = lines_of left.text.now }

-- a deck, and the lines behind it
abbrev pub block_seen : DeckPart → Block
block_seen part = record { deck = part.deck.now; behind = numbered_in part.behind }
