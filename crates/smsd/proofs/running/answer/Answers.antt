use Rattle.std.proofs.Common.{refl}
use Rattle.smsd.proofs.running.answer.Goals as goal

pub returns : goal.returns
returns g c =
    record {
      ran = c.store_run-ran.result.0;
      between = _;
      answered = c.store_run-ran.result.1;
      script = c.store_run-ran.ensures.ends;
      status = c.manage_behind-status.result.0;
      unread = refl;
      managed = c.manage_behind-status.ensures;
      good = c.is_good-good.result;
      lenient = c.is_good-good.ensures;
      code_is = c.end_judged.ensures;
    }
