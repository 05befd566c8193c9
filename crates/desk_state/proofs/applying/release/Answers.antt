use Rattle.std.proofs.Common.{◌∙◌, sym}
use Rattle.desk_state.proofs.ApplyLemmas.{copied-none, without-absent}
use Rattle.desk_state.proofs.applying.release.Goals as goal

pub returns-in_default : goal.returns-in_default
returns-in_default c = λ s dsn lawful are found.
    without-absent s dsn c.args.volumes.now (sym found ∙ copied-none c.args.old c.in_default.not-Some) are
