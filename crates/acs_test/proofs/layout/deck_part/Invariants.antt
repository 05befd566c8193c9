use Rattle.std.proofs.Common.{◌≡◌, ◌≤◌, ◌+◌, ◌-◌, ◌++◌, length, take}
use Rattle.sms_script.specs.Lines.{lines_of}
use Rattle.acs_test.specs.Layout.{block_of}
use Rattle.acs_test.proofs.LayoutLemmas.{onto_deck}
use Rattle.acs_test.proofs.layout.deck_part.Given as goal

-- the deck so far, and what the rest gives
abbrev pub invariant-loop-rest : goal.invariant-loop-rest
invariant-loop-rest l = record {
  parts : l.left.text.now ≡ take (length l.left.text.now - length l.rest) l.left.text.now ++ l.rest;
  block : block_of l.left.line (lines_of l.left.text.now) ≡ onto_deck (take (length l.left.text.now - length l.rest) l.left.text.now) (block_of l.line (lines_of l.rest));
  few : l.line + length l.rest ≤ l.left.line + length l.left.text.now;
  within : length l.rest ≤ length l.left.text.now;
}

abbrev pub decreases-loop-rest : goal.decreases-loop-rest
decreases-loop-rest l = length l.rest
