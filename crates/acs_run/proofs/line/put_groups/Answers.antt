use Rattle.std.proofs.Common.{arith}
use Rattle.std.proofs.lemmas.Grind.{common_steps}
use Rattle.acs_run.proofs.LineLemmas.{cut_short, names_all, names_none}
use Rattle.acs_run.proofs.line.put_groups.Goals as goal

pub put_more_groups-requires : goal.put_more_groups-requires
put_more_groups-requires c = cut_short _ _ c.put_group.ensures

pub returns-in-Some : goal.returns-in-Some
returns-in-Some c = names_all c.args.groups.now c.in-Some.rest.now c.in-Some.first.now c.args.draft.now c.put_group.new.draft c.put_more_groups.new.draft (grind (arith, common_steps)) c.put_group.ensures c.put_more_groups.ensures

pub returns-in_default : goal.returns-in_default
returns-in_default c = names_none c.args.groups.now c.args.draft.now (grind (arith, common_steps)) c.requires
