use Rattle.std.proofs.Common.{◌≡◌, map, take}
use Rattle.deck_changes.proofs.missing.lines_of.Given as goal

-- the lines so far
abbrev pub invariant-loop-construct : goal.invariant-loop-construct
invariant-loop-construct g l = l.lines.items ≡ map g.T.Construct.line (take l.construct-index l.constructs)
