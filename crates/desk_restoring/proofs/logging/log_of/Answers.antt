use Rattle.std.proofs.Common.{List, subst}
use Rattle.std.proofs.lemmas.List.{take_all}
use Rattle.sms_keeper.specs.declared.kept_row.KeptRow.{KeptRow}
use Rattle.desk_records.specs.Tied.{IsLogOf}
use Rattle.desk_restoring.proofs.LogLemmas.{log-next}
use Rattle.desk_restoring.proofs.logging.log_of.Goals as goal

pub loop-row-preserved : goal.loop-row-preserved
loop-row-preserved c =
    log-next c.args.floors.now c.args.replies.now c.loop-row.row-index c.row-item.result c.loop-row.log c.reserve.new.self c.keep.new.log c.loop-row-test.true c.row-item.is c.loop-row.invariant
    (record { kept = c.in_ok-reserve.ensures.kept; floors = c.in_ok-reserve.ensures.floors }) c.in_ok-keep.ensures.replies c.in_ok-keep.ensures.floors

pub returns : goal.returns
returns c = subst (λ (l : List KeptRow). IsLogOf c.args.floors.now l c.loop-row.log) (take_all c.loop-row.row-index c.args.replies.now c.loop-row-test.false) c.loop-row.invariant
