use Rattle.std.proofs.Common.{}
use Rattle.sms_volumes.proofs.RunningLemmas.{all-kept, some-apart, some-hold}
use Rattle.sms_volumes.proofs.active_volumes.ActiveVolumes.trim.Goals as goal

pub keep_each-requires-clause-apart : goal.keep_each-requires-clause-apart
keep_each-requires-clause-apart c = some-apart c.args.self.now c.args.extents.now c.requires.lies

pub keep_each-requires-clause-held : goal.keep_each-requires-clause-held
keep_each-requires-clause-held c = some-hold c.args.self.now c.args.extents.now c.requires.lies

pub returns : goal.returns
returns c = λ s set lawful are at is. all-kept s set c.args.extents.now c.args.kept.now c.args.self.now c.keep_each.new.self lawful are at is c.keep_each.ensures.groups c.keep_each.ensures.volumes
