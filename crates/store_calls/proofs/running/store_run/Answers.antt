use Rattle.store_calls.proofs.OpenedLemmas.{begun_of}
use Rattle.store_calls.proofs.running.store_run.Goals as goal

pub returns-in-Ok-clause-ends : goal.returns-in-Ok-clause-ends
returns-in-Ok-clause-ends g c =
    let ran = c.run_source-status.ensures in
    record {
      mid = c.in-Ok.core.keeper;
      opening = c.in-Ok.core.opening;
      opened = c.in-Ok.ensures.opened;
      ends = ran.ends;
      begun = begun_of _ _ _ _ c.in-Ok.ensures.opened.tables ran.told c.in-Ok.ensures.opened.opened.tables;
      unrun = λ left. ran.unrun left;
    }
