use Rattle.desk_restoring.specs.Opened.{opening_of}
use Rattle.store_calls.proofs.managing.store_manage.Goals as goal

pub manage_found-status-requires : goal.manage_found-status-requires
manage_found-status-requires g c = record { sound = c.in-Ok.ensures.sound; loaded = c.in-Ok.ensures.opened.opened.tables }

pub returns-in-Ok-clause-ends : goal.returns-in-Ok-clause-ends
returns-in-Ok-clause-ends g c =
    record {
      mid = c.in-Ok.keeper;
      opening = opening_of c.in-Ok.found.rows c.in-Ok.found.config;
      opened = c.in-Ok.ensures.opened;
      ends = c.manage_found-status.ensures.ends;
    }
