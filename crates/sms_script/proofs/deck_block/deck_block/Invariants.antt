use Rattle.std.proofs.Common.{◌≡◌, ◌≤◌, ◌+◌, ◌-◌, ◌++◌, ℕ, true, length, take}
use Rattle.std.specs.Option.{option_map}
use Rattle.sms_script.specs.Lines.{lines_of}
use Rattle.sms_script.specs.Script.{deck_of, script_from}
use Rattle.sms_script.proofs.deck_block.deck_block.Given as goal

-- the deck so far, and what the rest gives
abbrev pub invariant-loop-rest : goal.invariant-loop-rest
invariant-loop-rest l = record {
  within : length l.rest ≤ length l.text;
  parts : l.text ≡ take (length l.text - length l.rest) l.text ++ l.rest;
  deck : deck_of (lines_of l.text) ≡ option_map (λ deck. take (length l.text - length l.rest) l.text ++ deck) (deck_of (lines_of l.rest));
  script : (count line : ℕ) → script_from true count line (lines_of l.text) ≡ script_from true count (line + l.lines) (lines_of l.rest);
  few : l.lines + length l.rest ≤ length l.text;
}

abbrev pub decreases-loop-rest : goal.decreases-loop-rest
decreases-loop-rest l = length l.rest
