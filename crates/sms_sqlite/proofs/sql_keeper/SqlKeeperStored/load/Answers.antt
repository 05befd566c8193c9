use Rattle.std.proofs.Common.{Err, subst}
use Rattle.sqlite.specs.Held.{state}
use Rattle.keeper_statements.specs.Tables.{tables_in}
use Rattle.sms_sqlite.specs.Damage.{ordered}
use Rattle.sms_sqlite.specs.Reading.{ReadsAll}
use Rattle.sms_sqlite.specs.declared.load_fault.LoadFault.{LoadFault}
use Rattle.sms_sqlite.proofs.sql_keeper.SqlKeeperStored.load.Goals as goal

pub returns-in-Err-Damaged-clause-reads : goal.returns-in-Err-Damaged-clause-reads
returns-in-Err-Damaged-clause-reads g c clean legible =
    subst (λ (e : LoadFault). ReadsAll (ordered (tables_in (state g.S.Store c.args.self.now.connection).now)) (Err e)) c.in-Err-Damaged.field-0-is (c.in-Err-Damaged.ensures.reads clean legible)
