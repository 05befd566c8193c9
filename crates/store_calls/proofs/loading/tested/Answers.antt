use Rattle.store_calls.proofs.ListedLemmas.{names_rows, not_failed, opened_rows}
use Rattle.store_calls.proofs.loading.tested.Goals as goal

pub returns-in-Ok-clause-opened : goal.returns-in-Ok-clause-opened
returns-in-Ok-clause-opened g c = opened_rows _ c.args.rows c.in-Ok.config c.requires.loaded c.in-Ok.ensures.verdict

pub returns-in-Err-clause-refused : goal.returns-in-Err-clause-refused
returns-in-Err-clause-refused g c = rw c.refusal_of_rows.ensures (names_rows _ _ c.args.rows c.in-Err.err c.requires.undamaged c.requires.loaded c.in-Err.ensures.verdict)

pub returns-in-Err-clause-unfailed : goal.returns-in-Err-clause-unfailed
returns-in-Err-clause-unfailed g c = rw c.refusal_of_rows.ensures (not_failed c.in-Err.err)
