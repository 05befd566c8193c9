use Rattle.sms_core.proofs.ToldLemmas.{told_self}
use Rattle.desk_calls.proofs.script_run.run_script.Goals as goal

pub returns-in_default-clause-told : goal.returns-in_default-clause-told
returns-in_default-clause-told g c = told_self (g.P.Keeper.told c.args.core.keeper)
