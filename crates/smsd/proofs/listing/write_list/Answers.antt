use Rattle.smsd.proofs.listing.write_list.Goals as goal

pub returns : goal.returns
returns g c = record { status = c.store_list-status.result.0; ends = c.store_list-status.ensures.ends; code_is = c.end_with.ensures }
