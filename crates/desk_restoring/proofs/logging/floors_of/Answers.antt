use Rattle.std.proofs.Common.{◌∙◌, ap}
use Rattle.std.proofs.lemmas.List.{take_all}
use Rattle.sms_keeper.specs.Log.{kept_in}
use Rattle.desk_law.specs.Kept.{greatest_floor}
use Rattle.desk_restoring.proofs.LogLemmas.{floors-next}
use Rattle.desk_restoring.proofs.logging.floors_of.Goals as goal

pub loop-row-preserved : goal.loop-row-preserved
loop-row-preserved c = record {
  raised = λ job.
      c.purge.ensures.floors job
      ∙ floors-next c.args.floors.now c.loop-row.row-index c.row-item.result c.reserve.new.self.floors job c.loop-row-test.true c.row-item.is (λ j. c.in_ok-reserve.ensures.floors j ∙ c.loop-row.invariant.raised j);
  none = λ key. ap (kept_in key) c.purge.ensures.kept ∙ (c.in_ok-reserve.ensures.kept key ∙ c.loop-row.invariant.none key);
}

pub returns : goal.returns
returns c = record {
  floors_are = λ job. c.loop-row.invariant.raised job ∙ ap (greatest_floor job) (take_all c.loop-row.row-index c.args.floors.now c.loop-row-test.false);
  replies_are = λ job number above. c.loop-row.invariant.none (record { job = job; number = number });
}
