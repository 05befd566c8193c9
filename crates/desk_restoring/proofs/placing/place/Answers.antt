use Rattle.std.proofs.Common.{◌≤◌, ◌+◌, List, drop, length, subst, sym, take}
use Rattle.sms_construct.specs.declared.extent.Extent.{Extent}
use Rattle.desk_law.specs.State.{DeskState}
use Rattle.sms_volumes.specs.Holding.{AreVolumesOf}
use Rattle.desk_restoring.specs.Inner.Placing.{sets_placed}
use Rattle.desk_restoring.specs.Inner.Replaying.{with_sets}
use Rattle.desk_restoring.proofs.ListLemmas.{parts-in, take-in}
use Rattle.desk_restoring.proofs.PlacingLemmas.{can-hold, place-next, placed-whole}
use Rattle.desk_restoring.proofs.placing.place.Goals as goal

pub hold-requires : goal.hold-requires
hold-requires c =
    let set = c.args.set.now in
    let i = c.loop-extent.extent-index in
    let e = c.extent-item.result in
    let can = c.requires in
    can-hold can.state can.front set c.loop-extent.volumes (take i set.extents) (drop (i + 1) set.extents) e can.lawful can.sets_are
    (parts-in c.as_slice-extents.result.now set.extents i e c.as_slice-extents.ensures c.loop-extent-test.true c.extent-item.is)
    (c.loop-extent.invariant can.state can.front can.lawful can.sets_are can.stand)

pub loop-extent-preserved : goal.loop-extent-preserved
loop-extent-preserved c = λ s front lawful is are.
    let set = c.args.set.now in
    let i = c.loop-extent.extent-index in
    let e = c.extent-item.result in
    let extents = c.as_slice-extents.result.now in
    subst (λ (l : List Extent). AreVolumesOf (with_sets s (sets_placed front set l)) c.hold.new.volumes)
    (sym (take-in extents set.extents i e c.as_slice-extents.ensures c.loop-extent-test.true c.extent-item.is))
    (place-next s front set c.loop-extent.volumes c.hold.new.volumes (take i set.extents) (drop (i + 1) set.extents) e lawful is
    (parts-in extents set.extents i e c.as_slice-extents.ensures c.loop-extent-test.true c.extent-item.is)
    (c.loop-extent.invariant s front lawful is are) c.in_ok-hold.ensures)

pub returns : goal.returns
returns c = λ s front lawful is are.
    let all : length c.args.set.now.extents ≤ c.loop-extent.extent-index = subst (λ (l : List Extent). length l ≤ c.loop-extent.extent-index) c.as_slice-extents.ensures c.loop-extent-test.false in
    subst (λ (t : DeskState). AreVolumesOf t c.loop-extent.volumes) (placed-whole s front c.args.set.now c.loop-extent.extent-index lawful is all) (c.loop-extent.invariant s front lawful is are)
