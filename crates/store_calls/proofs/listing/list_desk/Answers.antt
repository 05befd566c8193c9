use Rattle.desk_restoring.specs.Opened.{opening_of}
use Rattle.store_calls.proofs.listing.list_desk.Goals as goal

pub returns-in-Ok-clause-ends : goal.returns-in-Ok-clause-ends
returns-in-Ok-clause-ends g c =
    let o = opening_of c.in-Ok.found.rows c.in-Ok.found.config in
    record { opening = o; opened = c.in-Ok.ensures.opened; ends = c.write_text.ensures.ends _ o c.desk_text-text.ensures }
