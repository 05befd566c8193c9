use Rattle.std.proofs.Common.{◌≡◌, ◌++◌, take}
use Rattle.std.specs.Prelude.{flat_map}
use Rattle.volume_reasons.specs.Inner.Turns.{turn_text}
use Rattle.volume_reasons.proofs.pushing.push_volumes.Given as goal

-- the lines of the volumes so far
abbrev pub invariant-loop-view : goal.invariant-loop-view
invariant-loop-view l = l.text.items ≡ l.initial.text.items ++ flat_map (turn_text l.first l.want) (take l.view-index l.views)
