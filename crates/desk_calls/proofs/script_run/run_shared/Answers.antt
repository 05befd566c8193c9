use Rattle.std.proofs.Common.{◌∙◌}
use Rattle.desk_calls.proofs.script_run.run_shared.Goals as goal

-- what is legal behind a sound opening is lawful, and the keeper's count and tables go with it
pub returns-clause-recorded : goal.returns-clause-recorded
returns-clause-recorded g c =
    let ran = c.run_workers.ensures in
    record {
      lawful = c.legal_is_lawful.ensures c.args.core.opening c.run_workers.result.1.journal c.journal-journal.ensures.sound (rw ran.opening at ran.legal);
      faults = rw (ran.mark ∙ c.requires.mark) at ran.counted;
      tables = rw ran.opening at ran.tables;
    }
