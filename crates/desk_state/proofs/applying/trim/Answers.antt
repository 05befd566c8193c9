use Rattle.std.proofs.Common.{◌∙◌, sym}
use Rattle.desk_state.proofs.ApplyLemmas.{copied-none, front-none}
use Rattle.desk_state.proofs.applying.trim.Goals as goal

pub returns-in_default : goal.returns-in_default
returns-in_default c = λ s lawful are found front.
    front-none s c.args.kept.now c.args.volumes.now (sym found ∙ copied-none c.args.old c.in_default.not-Some) front lawful are
