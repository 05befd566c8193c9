use Rattle.smsd.proofs.managing.manage_store.Goals as goal

pub returns : goal.returns
returns g c = record { status = c.do_or_tell-status.result.0; ends = c.do_or_tell-status.ensures; code_is = c.end_with.ensures }
