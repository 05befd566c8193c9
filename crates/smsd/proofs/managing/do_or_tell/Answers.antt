use Rattle.smsd.proofs.managing.do_or_tell.Goals as goal

pub returns-then-dry : goal.returns-then-dry
returns-then-dry g c = rw c.if-dry.true c.store_due.ensures.ends

pub returns-else-dry : goal.returns-else-dry
returns-else-dry g c = rw c.if-dry.false c.store_manage.ensures.ends
