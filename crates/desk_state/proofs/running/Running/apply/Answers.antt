use Rattle.std.proofs.Common.{sym, subst}
use Rattle.desk_records.specs.Effects.{state_with}
use Rattle.desk_state.specs.Deeds.{Fits, IsNext, config_of, effect_of}
use Rattle.desk_state.specs.Standing.{IsRunning}
use Rattle.desk_state.specs.declared.deed.Deed.{Deed}
use Rattle.desk_state.proofs.ApplyLemmas.{became-active}
use Rattle.desk_state.proofs.running.Running.apply.Goals as goal

pub returns-in-Become : goal.returns-in-Become
returns-in-Become c = λ s lawful is fits.
    let w = c.in-Become in
    let next : IsNext s w.count w.config w.volumes w.statuses = subst (Fits s c.args.self.now) w.is fits in
    subst (λ (d : Deed). IsRunning (state_with s (effect_of d) (config_of d)) c.become_active.new.self) (sym w.is)
    (became-active s w.count w.config w.volumes w.statuses c.become_active.new.self next (c.become_active.ensures s w.statuses lawful is next))
