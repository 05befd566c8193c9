use Rattle.desk_law.proofs.FloorLemmas.{kept-more}
use Rattle.desk_law.proofs.laws.kept_replies_stay.Goals as goal

pub returns : goal.returns
returns c = kept-more
