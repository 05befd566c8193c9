use Rattle.std.proofs.Common.{rules}
use Rattle.std.proofs.lemmas.List.Edits.{map_over_more}
use Rattle.sms_keeper.specs.Tables.{row_with}
use Rattle.sms_keeper.proofs.replaying.set_status.Goals as goal

pub loop-row-preserved : goal.loop-row-preserved
loop-row-preserved c = search (rules, map_over_more (row_with c.args.target.now c.args.status))
