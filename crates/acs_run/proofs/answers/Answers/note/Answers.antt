use Rattle.acs_run.proofs.MemoLemmas.{remembered}
use Rattle.acs_run.proofs.answers.Answers.note.Goals as goal

pub returns-then-place : goal.returns-then-place
returns-then-place c = λ filters text before found. remembered filters text c.args.self.now.answers c.args.place c.args.answer before found
