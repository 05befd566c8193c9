use Rattle.std.proofs.Common.{◌≡◌, None, ◌∙◌, subst, sym}
use Rattle.std.specs.Prelude.{option_map}
use Rattle.sms_construct.specs.Configuration.{Configuration}
use Rattle.sms_construct.specs.declared.volume.VolumeDef.{VolumeDef}
use Rattle.desk_law.specs.Activation.{first_barred}
use Rattle.desk_state.proofs.OkLemmas.{none-mapped, on-ok}
use Rattle.desk_state.proofs.running.Running.decide_configuration.Goals as goal

pub returns-in-None-clause-answers : goal.returns-in-None-clause-answers
returns-in-None-clause-answers c = on-ok _ _ c.activation.result
    (λ made answers s lawful is. answers s lawful is
    (none-mapped (λ (volume : VolumeDef). volume.volser) (first_barred s c.args.config)
    (subst (λ (config : Configuration). None ≡ option_map (λ (volume : VolumeDef). volume.volser) (first_barred s config)) c.get-2.ensures (sym c.in-None.is ∙ c.barred.ensures s is.volumes))))
    c.activation.ensures.answers
