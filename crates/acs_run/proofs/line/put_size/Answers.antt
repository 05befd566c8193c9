use Rattle.std.specs.Prelude.{codes, decimal}
use Rattle.acs_run.proofs.LineLemmas.{cut_two}
use Rattle.acs_run.proofs.line.put_size.Goals as goal

pub returns : goal.returns
returns c = cut_two c.args.draft.now (decimal c.args.kilobytes) (codes "KB") c.put_number.new.draft c.put.new.self c.put_number.ensures c.put.ensures
