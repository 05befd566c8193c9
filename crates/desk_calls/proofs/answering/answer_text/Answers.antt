use Rattle.sms_core.proofs.ToldLemmas.{told_self}
use Rattle.desk_calls.proofs.answering.answer_text.Goals as goal

pub returns-in-Err-clause-told : goal.returns-in-Err-clause-told
returns-in-Err-clause-told g c = rw c.into_parts.ensures.keeper (told_self (g.P.Keeper.told c.args.core.keeper))
