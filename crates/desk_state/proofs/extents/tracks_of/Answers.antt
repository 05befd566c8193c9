use Rattle.std.proofs.Common.{arith}
use Rattle.desk_state.proofs.ExtentLemmas.{tracks-more}
use Rattle.desk_state.proofs.extents.tracks_of.Goals as goal

pub loop-extent-preserved : goal.loop-extent-preserved
loop-extent-preserved c =
    let more = tracks-more c.args.extents.now c.loop-extent.extent-index c.extent-item.result c.loop-extent-test.true c.extent-item.is in
    (omega (arith, more, c.length_of-tracks.ensures.value, c.loop-extent.invariant.0), omega (arith, c.length_of-tracks.ensures.small, c.loop-extent.invariant.1))
