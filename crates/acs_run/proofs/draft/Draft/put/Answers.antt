use Rattle.acs_run.proofs.CutLemmas.{put_end}
use Rattle.acs_run.proofs.draft.Draft.put.Goals as goal

pub returns : goal.returns
returns c = put_end c.loop-byte.self c.args.self.now c.args.bytes.now c.room.result _ c.loop-byte.byte-index c.loop-byte.invariant c.loop-byte-test.false c.min.ensures c.room.ensures
