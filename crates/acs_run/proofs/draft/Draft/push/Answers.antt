use Rattle.std.proofs.Common.{◌≤◌, ◌+◌, ap, arith, length}
use Rattle.std.proofs.lemmas.List.{length-take}
use Rattle.dsn_mask.specs.Name.{is_literal_byte}
use Rattle.acs_run.proofs.CutLemmas.{byte_pushed}
use Rattle.acs_run.proofs.draft.Draft.push.Goals as goal

pub invariant_of-self : goal.invariant_of-self
invariant_of-self c =
    let less : c.self.inside.count + 1 ≤ 110 = omega (arith, c.requires.room, ap length c.self.view_is, length-take c.self.inside.count c.self.inside.buffer, c.self.told) in
    (less, byte_pushed is_literal_byte c.self.inside.buffer c.self.inside.count c.args.byte (omega (arith, less, c.self.told)) c.self.invariant.1 c.requires.form)
