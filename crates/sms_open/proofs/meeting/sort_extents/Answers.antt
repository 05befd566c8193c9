use Rattle.std.proofs.Common.{is_lt, rules}
use Rattle.std.proofs.lemmas.Fn.{always_returns_same}
use Rattle.sms_construct.specs.declared.extent.Extent.{Extent}
use Rattle.sms_open.specs.Inner.Meeting.{place_cmp}
use Rattle.sms_open.proofs.MeetingLemmas.{order_weak}
use Rattle.sms_open.proofs.meeting.sort_extents.Goals as goal

pub returns-clause-sorted : goal.returns-clause-sorted
returns-clause-sorted c = c.sort_unstable_by.ensures.sorted (λ (one : Extent) (other : Extent). is_lt (place_cmp one other)) order_weak (always_returns_same _ _ _ (λ a r q k. search rules))
