use Rattle.std.proofs.Common.{◌≡◌, ◌++◌, take}
use Rattle.std.specs.Prelude.{flat_map}
use Rattle.deck_changes.specs.Differences.{missing_line}
use Rattle.deck_changes.proofs.missing.push_missing.Given as goal

-- what of the lines that were gone over the others haven't
abbrev pub invariant-loop-line : goal.invariant-loop-line
invariant-loop-line l = l.text.items ≡ l.initial.text.items ++ flat_map (missing_line l.sign l.others) (take l.line-index l.lines)
