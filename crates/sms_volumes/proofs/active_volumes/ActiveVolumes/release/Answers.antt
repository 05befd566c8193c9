use Rattle.std.proofs.Common.{}
use Rattle.sms_volumes.proofs.RunningLemmas.{all-released, some-apart, some-hold}
use Rattle.sms_volumes.proofs.active_volumes.ActiveVolumes.release.Goals as goal

pub keep_each-requires-clause-apart : goal.keep_each-requires-clause-apart
keep_each-requires-clause-apart c = some-apart c.args.self.now c.args.extents.now c.requires

pub keep_each-requires-clause-held : goal.keep_each-requires-clause-held
keep_each-requires-clause-held c = some-hold c.args.self.now c.args.extents.now c.requires

pub returns : goal.returns
returns c = λ s dsn lawful are at. all-released s dsn c.args.extents.now c.args.self.now c.keep_each.new.self lawful are at c.keep_each.ensures.groups c.keep_each.ensures.volumes
