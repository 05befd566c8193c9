use Rattle.std.proofs.Common.{◌≡◌, ℕ, List, take}
use Rattle.std.specs.List.{AllByRecursion}
use Rattle.sms_keeper.specs.declared.floor.Floor.{Floor}
use Rattle.sms_keeper.specs.Log.{floor_in}
use Rattle.desk_law.specs.Kept.{greatest_floor}
use Rattle.sms_open.specs.Tests.{IsSoundReply}
use Rattle.sms_open.proofs.replies.each_is_sound.Given as goal

-- it holds of the replies that were gone over
abbrev pub invariant-loop-row : goal.invariant-loop-row
invariant-loop-row l = (floors : List Floor) → ((job : List ℕ) → floor_in job l.log.floors ≡ greatest_floor job floors) → AllByRecursion (IsSoundReply floors) (take l.row-index l.replies)
