use Rattle.desk_restoring.specs.Opened.{opening_of}
use Rattle.store_calls.proofs.DayLemmas.{day_ends}
use Rattle.store_calls.proofs.managing.manage_found.Goals as goal

pub returns-clause-ends : goal.returns-clause-ends
returns-clause-ends g c =
    day_ends (opening_of c.args.found.rows c.args.found.config) c.args.day _ _ _ _ c.day_text-text.result.0 c.write_made.result c.day_text-text.ensures.told c.day_text-text.ensures.left
    c.write_made.ensures.wanting c.write_made.ensures.ends
