use Rattle.std.proofs.Common.{refl}
use Rattle.std.specs.Prelude.{[]}
use Rattle.desk_law.specs.State.{start_of}
use Rattle.desk_law.proofs.HistoryLemmas.{leads-lawful}
use Rattle.desk_law.proofs.OrderLemmas.{lawful-same}
use Rattle.desk_law.proofs.laws.tables_are_lawful.Goals as goal

pub returns : goal.returns
returns c = λ o history s rows base lawful reaches tables.
    lawful-same s (start_of (record { rows = rows; config = s.active; base = base })) (leads-lawful o [] (start_of o) history s lawful reaches) refl tables.sets_are tables.statuses_are
