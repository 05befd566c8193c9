use Rattle.std.proofs.Common.{arith}
use Rattle.std.proofs.lemmas.Grind.{common_steps}
use Rattle.acs_run.proofs.LineLemmas.{cut_short, names_all, names_none}
use Rattle.acs_run.proofs.line.put_volumes.Goals as goal

pub put_more_volumes-requires : goal.put_more_volumes-requires
put_more_volumes-requires c = cut_short _ _ c.put_volume.ensures

pub returns-in-Some : goal.returns-in-Some
returns-in-Some c = names_all c.args.volumes.now c.in-Some.rest.now c.in-Some.first.now c.args.draft.now c.put_volume.new.draft c.put_more_volumes.new.draft (grind (arith, common_steps)) c.put_volume.ensures c.put_more_volumes.ensures

pub returns-in_default : goal.returns-in_default
returns-in_default c = names_none c.args.volumes.now c.args.draft.now (grind (arith, common_steps)) c.requires
