-- What is told of a table, where nothing was told before.
use Rattle.std.proofs.Common.{ℕ, List, subst}
use Rattle.toml.specs.View.{table_view}
use Rattle.sms_construct.specs.declared.fault.Fault.{Fault}
use Rattle.deck_faults.specs.Inner.Telling.{TellFaults}
use Rattle.deck_faults.proofs.ReadLemmas.{table_told}
use Rattle.deck_faults.proofs.every.table_faults.Goals as goal

pub returns : goal.returns
returns c =
    table_told c.requires.fits c.requires.means
    (subst (λ (before : List Fault). TellFaults (table_view c.args.top.now) before c.tell_table.new.told.items) c.new-told.ensures.items c.in_ok-tell_table.ensures)
