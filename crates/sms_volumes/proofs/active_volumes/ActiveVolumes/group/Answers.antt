use Rattle.std.proofs.Common.{◌∙◌, Some, ap, sym}
use Rattle.std.specs.Prelude.{None}
use Rattle.std.specs.Option.{option_copied}
use Rattle.sms_volumes.proofs.ShowLemmas.{group-shown}
use Rattle.sms_volumes.proofs.active_volumes.ActiveVolumes.group.Goals as goal

pub returns-in-Some : goal.returns-in-Some
returns-in-Some c = λ s are.
    ap Some c.view_of.ensures ∙ group-shown s c.args.self.now c.args.name.now (Some c.in-Some.group.now) are (sym (ap option_copied c.in-Some.is) ∙ c.group_in.ensures)

pub returns-in-None : goal.returns-in-None
returns-in-None c = λ s are. group-shown s c.args.self.now c.args.name.now None are (sym (ap option_copied c.in-None.is) ∙ c.group_in.ensures)
