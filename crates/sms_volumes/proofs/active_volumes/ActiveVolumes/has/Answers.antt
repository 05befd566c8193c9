use Rattle.std.proofs.Common.{◌∙◌, ap, sym}
use Rattle.std.specs.Prelude.{◌==◌, is_some, not}
use Rattle.sms_construct.specs.declared.target.Target.{Target}
use Rattle.desk_law.specs.Volumes.{times_target}
use Rattle.sms_volumes.proofs.ShowLemmas.{copied-some, group-had, place-some, volume-had}
use Rattle.sms_volumes.proofs.active_volumes.ActiveVolumes.has.Goals as goal

pub returns-in-Group : goal.returns-in-Group
returns-in-Group c = λ s are.
    ap (λ (t : Target). times_target s.active t == 0) c.in-Group.is ∙ (group-had s c.args.self.now c.in-Group.name are ∙ ap not (ap is_some (sym c.group_in.ensures) ∙ (copied-some c.group_in.result ∙ sym c.is_some.ensures)))

pub returns-in-Volume : goal.returns-in-Volume
returns-in-Volume c = λ s are.
    ap (λ (t : Target). times_target s.active t == 0) c.in-Volume.is ∙ (volume-had s c.args.self.now c.in-Volume.volser are ∙ ap not (place-some c.in-Volume.volser c.args.self.now.volumes.items c.place_of.result c.place_of.ensures.found c.place_of.ensures.within ∙ sym c.is_some-in-Volume.ensures))
