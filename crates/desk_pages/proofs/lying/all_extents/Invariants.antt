-- What was found so far.
use Rattle.std.proofs.Common.{◌-◌, ◌^◌}
use Rattle.desk_law.specs.State.{DeskState}
use Rattle.desk_pages.proofs.LyingLaws.{AreFoundTo}
use Rattle.desk_pages.proofs.lying.all_extents.Given as goal

abbrev pub invariant-loop-looked : goal.invariant-loop-looked
invariant-loop-looked g l = (s : DeskState) → g.D.ShownDesk.stands l.desk s → AreFoundTo s.sets l.fn.volser l.fn.from l.at l.extents.items

abbrev pub decreases-loop-looked : goal.decreases-loop-looked
decreases-loop-looked g l = 2 ^ 64 - l.looked
