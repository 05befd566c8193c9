use Rattle.acs_run.proofs.MemoLemmas.{none_there}
use Rattle.acs_run.proofs.answers.Answers.new.Goals as goal

pub returns : goal.returns
returns c = λ filters text place answer e. absurd (none_there 256 place answer e)
