use Rattle.acs_test.specs.Layout.{parts_seen}
use Rattle.acs_test.proofs.ReadingLemmas.{cases_end, cases_read, cases_refused}
use Rattle.acs_test.proofs.reading.read_list.Goals as goal

pub returns-in-Ok-clause-ok : goal.returns-in-Ok-clause-ok
returns-in-Ok-clause-ok c = record { before = c.requires.old; after = c.requires.new; listed = c.in-Ok.ensures.ok }

pub returns-in-Ok-clause-exactly : goal.returns-in-Ok-clause-exactly
returns-in-Ok-clause-exactly c = cases_read (parts_seen c.args.parts) c.args.before c.args.after c.in-Ok.list c.requires.only c.requires.only_new c.in-Ok.ensures.ok

pub returns-in-Err-clause-err : goal.returns-in-Err-clause-err
returns-in-Err-clause-err c = cases_refused (parts_seen c.args.parts) c.args.before c.args.after c.in-Err.err c.requires.old c.requires.new c.in-Err.ensures.err

pub returns-in-Err-clause-exactly : goal.returns-in-Err-clause-exactly
returns-in-Err-clause-exactly c = cases_end (parts_seen c.args.parts) c.args.before c.args.after c.in-Err.err c.requires.only c.requires.only_new c.in-Err.ensures.err
