use Rattle.desk_law.proofs.ActiveLemmas.{active-once}
use Rattle.desk_law.proofs.laws.was_active_once.Goals as goal

pub returns : goal.returns
returns c = active-once
