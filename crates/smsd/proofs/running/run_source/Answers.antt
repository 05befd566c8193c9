use Rattle.std.proofs.Common.{refl}
use Rattle.smsd.proofs.EndLemmas.{script_end}
use Rattle.smsd.proofs.running.run_source.Goals as goal

pub returns-in-Ok-clause-unopened : goal.returns-in-Ok-clause-unopened
returns-in-Ok-clause-unopened g c = rw c.in-Ok.is tt

-- the number is that of the status with which the script was answered
pub returns-in-Ok-clause-ran : goal.returns-in-Ok-clause-ran
returns-in-Ok-clause-ran g c = let ended = c.answer-keeper.ensures in rw c.in-Ok.is (script_end c.args.running.strict ended.status ended.good _ ended.lenient ended.code_is)

pub returns-in-Err-clause-unopened : goal.returns-in-Err-clause-unopened
returns-in-Err-clause-unopened g c = rw c.in-Err.is refl

pub returns-in-Err-clause-ran : goal.returns-in-Err-clause-ran
returns-in-Err-clause-ran g c = rw c.in-Err.is tt
