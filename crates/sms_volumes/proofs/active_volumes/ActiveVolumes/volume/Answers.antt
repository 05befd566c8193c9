use Rattle.std.proofs.Common.{◌∙◌, Some, ap}
use Rattle.sms_volumes.proofs.RunningLemmas.{there-is}
use Rattle.sms_volumes.proofs.ShowLemmas.{none-shown, one-shown}
use Rattle.sms_volumes.proofs.active_volumes.ActiveVolumes.volume.Goals as goal

pub returns-in-Some : goal.returns-in-Some
returns-in-Some c = λ s are.
    ap Some c.row.ensures ∙ one-shown s c.args.self.now c.args.volser.now c.in-Some.place c.index.result.now are c.in-Some.ensures.found
    (there-is c.args.self.now.volumes.items c.in-Some.place c.index.result.now c.in-Some.ensures.within c.index.ensures)

pub returns-in-None : goal.returns-in-None
returns-in-None c = λ s are.
    let found = c.in-None.ensures in
    none-shown s c.args.self.now c.args.volser.now are found.found
