use Rattle.std.proofs.Common.{OnErr, OnOk, subst}
use Rattle.sqlite.specs.Held.{state}
use Rattle.sms_keeper.specs.Tables.{with_change}
use Rattle.sms_keeper.specs.Told.{Applies, Stays}
use Rattle.sms_keeper.specs.declared.rows.Rows.{Rows}
use Rattle.sms_sqlite.specs.Told.{KeeperView, told_by, told_of}
use Rattle.sms_sqlite.specs.Writing.{IsAsBefore}
use Rattle.sms_sqlite.proofs.CommitLemmas.{refused_by, settled_by}
use Rattle.sms_sqlite.proofs.ToldLemmas.{alone_by, applied_by, readable_by, stays_by}
use Rattle.sms_sqlite.proofs.sql_keeper.SqlKeeper.write.Goals as goal

pub invariant_of-self : goal.invariant_of-self
invariant_of-self g c =
    readable_by _ (state g.S.Store c.self.inside.base.value).now (state g.S.Store c.self.inside.connection) (state g.S.Store c.write_change.new.connection)
    (λ (rows : Rows). with_change rows c.args.change.now) c.write_change.result
    c.self.invariant c.write_change.ensures.crash.clean c.write_change.ensures.was_open c.write_change.ensures.made c.write_change.ensures.kept

pub returns-clause-applied : goal.returns-clause-applied
returns-clause-applied g c =
    let base = (state g.S.Store c.self.inside.base.value).now in
    let new = state g.S.Store c.write_change.new.connection in
    subst (λ (k : KeeperView _). OnOk c.write_change.result (Applies c.args.change.now (told_by g.S.Store k) (told_of base new))) c.self.view_is
    (applied_by _ base (state g.S.Store c.self.inside.connection) new c.args.change.now c.write_change.result
    c.self.invariant c.write_change.ensures.crash.clean c.write_change.ensures.was_open c.write_change.ensures.made)

pub returns-clause-kept : goal.returns-clause-kept
returns-clause-kept g c =
    let base = (state g.S.Store c.self.inside.base.value).now in
    let new = state g.S.Store c.write_change.new.connection in
    subst (λ (k : KeeperView _). OnErr c.write_change.result (Stays (told_by g.S.Store k) (told_of base new))) c.self.view_is
    (stays_by base (state g.S.Store c.self.inside.connection) new c.write_change.result
    c.self.invariant c.write_change.ensures.crash.clean c.write_change.ensures.was_open c.write_change.ensures.kept)

pub returns-clause-unchanged : goal.returns-clause-unchanged
returns-clause-unchanged g c clean is_open =
    let new = state g.S.Store c.write_change.new.connection in
    subst (λ (k : KeeperView _). OnErr c.write_change.result (IsAsBefore (state g.S.Store k.connection) new)) c.self.view_is
    (refused_by (state g.S.Store c.self.inside.connection) new c.write_change.result (c.write_change.ensures.kept clean is_open) (c.write_change.ensures.kept_committed clean is_open))

pub returns-clause-settled : goal.returns-clause-settled
returns-clause-settled g c clean =
    settled_by (state g.S.Store c.write_change.new.connection) c.write_change.result (c.write_change.ensures.open clean) (c.write_change.ensures.committed clean)
    (λ is_open db left. g.met.S.Store.settled _ db is_open left)

pub returns-clause-alone : goal.returns-clause-alone
returns-clause-alone g c =
    alone_by _ (state g.S.Store c.self.inside.base.value).now (state g.S.Store c.self.inside.connection) (state g.S.Store c.write_change.new.connection)
    (λ (rows : Rows). with_change rows c.args.change.now) c.write_change.result
    c.self.invariant c.write_change.ensures.crash.clean c.write_change.ensures.was_open c.write_change.ensures.made (λ is_open db left. g.met.S.Store.settled _ db is_open left)
