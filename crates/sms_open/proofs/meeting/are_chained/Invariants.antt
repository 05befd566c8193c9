use Rattle.std.proofs.Common.{take}
use Rattle.sms_open.specs.Inner.Meeting.{AreChained}
use Rattle.sms_open.proofs.meeting.are_chained.Given as goal

-- the extents before the place follow one another
abbrev pub invariant-loop-place : goal.invariant-loop-place
invariant-loop-place l = AreChained (take l.place l.extents)
