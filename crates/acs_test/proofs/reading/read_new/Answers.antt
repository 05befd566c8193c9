use Rattle.acs_test.specs.Layout.{parts_seen}
use Rattle.acs_test.proofs.ReadingLemmas.{new_ends, new_refused}
use Rattle.acs_test.proofs.reading.read_new.Goals as goal

pub read_list-requires-clause-old : goal.read_list-requires-clause-old
read_list-requires-clause-old c = c.requires.old

pub read_list-requires-clause-only : goal.read_list-requires-clause-only
read_list-requires-clause-only c = c.requires.only

pub read_list-requires-clause-new : goal.read_list-requires-clause-new
read_list-requires-clause-new c = c.in-Ok.ensures.ok

pub read_list-requires-clause-only_new : goal.read_list-requires-clause-only_new
read_list-requires-clause-only_new c = c.in-Ok.ensures.exactly

pub returns-in-Ok-clause-ok : goal.returns-in-Ok-clause-ok
returns-in-Ok-clause-ok c = c.read_list.ensures.ok

pub returns-in-Ok-clause-err : goal.returns-in-Ok-clause-err
returns-in-Ok-clause-err c = c.read_list.ensures.err

pub returns-in-Ok-clause-exactly : goal.returns-in-Ok-clause-exactly
returns-in-Ok-clause-exactly c = c.read_list.ensures.exactly

pub returns-in-Err-clause-err : goal.returns-in-Err-clause-err
returns-in-Err-clause-err c = new_refused (parts_seen c.args.parts) c.args.before c.in-Err.err c.requires.old c.in-Err.ensures.err

pub returns-in-Err-clause-exactly : goal.returns-in-Err-clause-exactly
returns-in-Err-clause-exactly c = new_ends (parts_seen c.args.parts) c.args.before c.in-Err.err c.requires.only c.in-Err.ensures.exactly
