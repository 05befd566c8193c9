use Rattle.desk_state.proofs.WorkLemmas.{classified-longer, work-longer}
use Rattle.desk_state.proofs.staying.work_stays.Goals as goal

pub returns-clause-classified : goal.returns-clause-classified
returns-clause-classified c = classified-longer

pub returns-clause-work : goal.returns-clause-work
returns-clause-work c = work-longer
