use Rattle.store_calls.proofs.DayLemmas.{left_day, told_day}
use Rattle.store_calls.proofs.managing.tell_day.Goals as goal

pub returns-clause-told : goal.returns-clause-told
returns-clause-told g c = told_day c.args.core.opening c.args.day _ _ c.do_day-acts.result.0 c.acts_text.result c.do_day-acts.ensures.done c.acts_text.ensures

pub returns-clause-left : goal.returns-clause-left
returns-clause-left g c = left_day c.args.core.opening c.args.day _ _ c.do_day-acts.result.0 c.acts_text.result c.do_day-acts.ensures.done c.do_day-acts.ensures.cut
