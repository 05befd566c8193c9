use Rattle.std.proofs.Common.{arith}
use Rattle.dsn_mask.proofs.Pushed.{pushed}
use Rattle.dsn_mask.proofs.names.Names.push.Goals as goal

pub invariant_of-self : goal.invariant_of-self
invariant_of-self c =
    let is = c.self.invariant in
    let room = rw (← c.self.view_is) at c.requires.room in
    let unknown = rw (← c.self.view_is) at c.requires.unknown in
    pushed c.self.inside.items c.self.inside.count c.args.name is.0 is.1 is.2 (omega arith) unknown
