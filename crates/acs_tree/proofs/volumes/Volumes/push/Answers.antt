use Rattle.acs_tree.specs.Inner.Lists.{no_volume}
use Rattle.acs_tree.proofs.PushLemmas.{pushed}
use Rattle.acs_tree.proofs.volumes.Volumes.push.Goals as goal

pub invariant_of-self : goal.invariant_of-self
invariant_of-self c =
    let is = c.self.invariant in
    let room = rw (← c.self.view_is) at c.requires in
    pushed 59 no_volume c.self.inside.items c.self.inside.count c.args.item is.0 is.1 room
