use Rattle.std.proofs.Common.{◌∙◌, ap, sym}
use Rattle.std.specs.Option.{option_copied}
use Rattle.sms_volumes.proofs.RunningLemmas.{there-is}
use Rattle.desk_state.proofs.ExtensionLemmas.{first-at, first-nowhere}
use Rattle.desk_state.proofs.running.Running.first_group.Goals as goal

pub returns-in-Some : goal.returns-in-Some
returns-in-Some c = λ s is.
    first-at s c.args.self.now.volumes c.args.extents.now c.in_ok-first.first.now c.in-Some.place c.index.result.now is.volumes (sym c.first.ensures.value ∙ ap option_copied c.in_ok-first.was) c.in-Some.ensures.found
    (there-is c.args.self.now.volumes.volumes.items c.in-Some.place c.index.result.now c.in-Some.ensures.within c.index.ensures)

pub returns-in-None : goal.returns-in-None
returns-in-None c = λ s is.
    let found = c.in-None.ensures in
    first-nowhere s c.args.self.now.volumes c.args.extents.now c.in_ok-first.first.now is.volumes (sym c.first.ensures.value ∙ ap option_copied c.in_ok-first.was) found.found
