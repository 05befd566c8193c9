use Rattle.desk_law.proofs.FloorLemmas.{floor-more}
use Rattle.desk_law.proofs.laws.floors_never_fall.Goals as goal

pub returns : goal.returns
returns c = floor-more
