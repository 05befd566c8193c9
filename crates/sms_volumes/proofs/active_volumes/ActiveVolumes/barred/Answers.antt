use Rattle.std.proofs.Common.{◌∙◌, List, Some, ap, sym}
use Rattle.std.specs.Prelude.{None}
use Rattle.std.specs.Option.{option_copied}
use Rattle.sms_construct.specs.declared.volume.VolumeDef.{VolumeDef}
use Rattle.sms_volumes.specs.Inner.Barring.{running_barred}
use Rattle.sms_volumes.proofs.BarLemmas.{barred-shown}
use Rattle.sms_volumes.proofs.active_volumes.ActiveVolumes.barred.Goals as goal

pub returns-in-Some : goal.returns-in-Some
returns-in-Some c = λ s are. barred-shown s c.args.self.now c.args.config.now (Some c.in-Some.volume.now) are (sym (ap option_copied c.in-Some.is) ∙ (c.first_barred.ensures ∙ (ap (λ (l : List VolumeDef). running_barred l c.deref.result.now) c.volumes.ensures ∙ ap (running_barred c.args.config.now.volumes) c.deref.ensures.value)))

pub returns-in-None : goal.returns-in-None
returns-in-None c = λ s are. barred-shown s c.args.self.now c.args.config.now None are (sym (ap option_copied c.in-None.is) ∙ (c.first_barred.ensures ∙ (ap (λ (l : List VolumeDef). running_barred l c.deref.result.now) c.volumes.ensures ∙ ap (running_barred c.args.config.now.volumes) c.deref.ensures.value)))
