use Rattle.serve_calls.proofs.HistoryLaws.{WasHeard-none}
use Rattle.serve_calls.proofs.serve.new_core.Goals as goal

pub returns-clause-heard : goal.returns-clause-heard
returns-clause-heard g c =
    WasHeard-none _ c.new-core.result _ _ c.new-core.ensures.opening c.new-core.ensures.journal c.new-core.ensures.mark
    c.journal-journal.ensures.legal c.journal-journal.ensures.counted c.journal-journal.ensures.tables c.new_is_lawful.ensures
