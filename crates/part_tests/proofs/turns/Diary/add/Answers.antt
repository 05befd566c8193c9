use Rattle.std.specs.Prelude.{is_ok}
use Rattle.part_tests.proofs.SigningLemmas.{grew}
use Rattle.part_tests.proofs.turns.Diary.add.Goals as goal

pub returns : goal.returns
returns c = grew (is_ok c.push.result) c.args.by c.args.entry _ _ _ c.self.view_is c.push.ensures.items
