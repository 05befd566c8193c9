use Rattle.acs_test.specs.Layout.{parts_seen}
use Rattle.acs_test.proofs.ReadingLemmas.{old_ends, old_refused}
use Rattle.acs_test.proofs.reading.read_parts.Goals as goal

pub read_new-requires-clause-old : goal.read_new-requires-clause-old
read_new-requires-clause-old c = c.in-Ok.ensures.ok

pub read_new-requires-clause-only : goal.read_new-requires-clause-only
read_new-requires-clause-only c = c.in-Ok.ensures.exactly

pub returns-in-Ok-clause-ok : goal.returns-in-Ok-clause-ok
returns-in-Ok-clause-ok c = c.read_new.ensures.ok

pub returns-in-Ok-clause-err : goal.returns-in-Ok-clause-err
returns-in-Ok-clause-err c = c.read_new.ensures.err

pub returns-in-Ok-clause-exactly : goal.returns-in-Ok-clause-exactly
returns-in-Ok-clause-exactly c = c.read_new.ensures.exactly

pub returns-in-Err-clause-err : goal.returns-in-Err-clause-err
returns-in-Err-clause-err c = old_refused (parts_seen c.args.parts) c.in-Err.err c.in-Err.ensures.err

pub returns-in-Err-clause-exactly : goal.returns-in-Err-clause-exactly
returns-in-Err-clause-exactly c = old_ends (parts_seen c.args.parts) c.in-Err.err c.in-Err.ensures.exactly
