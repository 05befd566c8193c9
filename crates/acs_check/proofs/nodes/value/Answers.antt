use Rattle.acs_check.proofs.NodeLemmas.{met_value}
use Rattle.acs_check.proofs.nodes.value.Goals as goal

pub returns : goal.returns
returns c = cc (met_value c.args.kind c.args.lists.now c.args.best c.args.target.now c.args.before.now c.args.value.now c.args.behind.now)
