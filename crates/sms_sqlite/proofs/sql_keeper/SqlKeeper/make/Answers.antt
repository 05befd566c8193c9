use Rattle.std.proofs.Common.{OnErr, subst}
use Rattle.sqlite.specs.Held.{state}
use Rattle.sms_keeper.specs.Loading.{SameDamage}
use Rattle.sms_keeper.specs.Told.{Stays}
use Rattle.sms_keeper.specs.declared.rows.Rows.{Rows}
use Rattle.sms_sqlite.specs.Told.{KeeperView, damage_by, damage_seen, told_by, told_of}
use Rattle.sms_sqlite.specs.Writing.{IsAsBefore}
use Rattle.sms_sqlite.proofs.CommitLemmas.{refused_by, settled_by}
use Rattle.sms_sqlite.proofs.LoadLemmas.{made_damage}
use Rattle.sms_sqlite.proofs.ToldLemmas.{made_stays, readable_by}
use Rattle.sms_sqlite.proofs.sql_keeper.SqlKeeper.make.Goals as goal

pub invariant_of-self : goal.invariant_of-self
invariant_of-self g c =
    readable_by _ (state g.S.Store c.self.inside.base.value).now (state g.S.Store c.self.inside.connection) (state g.S.Store c.write_tables.new.connection)
    (λ (rows : Rows). rows) c.write_tables.result
    c.self.invariant c.write_tables.ensures.crash.clean c.write_tables.ensures.was_open c.write_tables.ensures.made c.write_tables.ensures.kept

pub returns-clause-kept : goal.returns-clause-kept
returns-clause-kept g c =
    let base = (state g.S.Store c.self.inside.base.value).now in
    let new = state g.S.Store c.write_tables.new.connection in
    subst (λ (k : KeeperView _). Stays (told_by g.S.Store k) (told_of base new)) c.self.view_is
    (made_stays _ base (state g.S.Store c.self.inside.connection) new c.write_tables.result
    c.self.invariant c.write_tables.ensures.crash.clean c.write_tables.ensures.was_open c.write_tables.ensures.made c.write_tables.ensures.kept)

pub returns-clause-unchanged : goal.returns-clause-unchanged
returns-clause-unchanged g c clean is_open =
    let new = state g.S.Store c.write_tables.new.connection in
    subst (λ (k : KeeperView _). OnErr c.write_tables.result (IsAsBefore (state g.S.Store k.connection) new)) c.self.view_is
    (refused_by (state g.S.Store c.self.inside.connection) new c.write_tables.result (c.write_tables.ensures.kept clean is_open) (c.write_tables.ensures.kept_committed clean is_open))

pub returns-clause-settled : goal.returns-clause-settled
returns-clause-settled g c clean =
    settled_by (state g.S.Store c.write_tables.new.connection) c.write_tables.result (c.write_tables.ensures.open clean) (c.write_tables.ensures.committed clean)
    (λ is_open db left. g.met.S.Store.settled _ db is_open left)

pub returns-clause-damage_kept : goal.returns-clause-damage_kept
returns-clause-damage_kept g c =
    let new = state g.S.Store c.write_tables.new.connection in
    subst (λ (k : KeeperView _). SameDamage (damage_by g.S.Store k) (damage_seen new)) c.self.view_is
    (made_damage (state g.S.Store c.self.inside.connection) new c.write_tables.result
    c.write_tables.ensures.crash.clean c.write_tables.ensures.was_open c.write_tables.ensures.tables c.write_tables.ensures.kept)
