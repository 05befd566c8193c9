use Rattle.std.proofs.Common.{rules}
use Rattle.std.proofs.lemmas.List.Edits.{map_over_more}
use Rattle.acs_code.specs.Inner.Upward.{placed}
use Rattle.acs_code.proofs.upward.tell_from_front.Goals as goal

pub loop-instr-preserved : goal.loop-instr-preserved
loop-instr-preserved c = search (rules, map_over_more (placed c.args.count))
