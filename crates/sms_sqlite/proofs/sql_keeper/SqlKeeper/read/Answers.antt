use Rattle.std.proofs.Common.{subst}
use Rattle.sqlite.specs.Held.{state}
use Rattle.sms_keeper.specs.Loading.{StaysDamaged}
use Rattle.sms_keeper.specs.Told.{Stays}
use Rattle.sqlite.specs.State.{HasCleanDisk}
use Rattle.keeper_statements.proofs.GrowLemmas.{serves_legible}
use Rattle.keeper_statements.specs.Tables.{IsLegible, tables_in}
use Rattle.sms_sqlite.specs.Damage.{ordered}
use Rattle.sms_sqlite.specs.Reading.{ReadsAll}
use Rattle.sms_sqlite.specs.Told.{KeeperView, damage_by, damage_seen, told_by, told_of}
use Rattle.sms_sqlite.specs.Writing.{IsAsBefore}
use Rattle.sms_sqlite.proofs.LoadLemmas.{damage_stays, damaged_by, loaded_by, sound_by}
use Rattle.sms_sqlite.proofs.ToldLemmas.{readable_err, told_err}
use Rattle.sms_sqlite.proofs.sql_keeper.SqlKeeper.read.Goals as goal

pub invariant_of-self : goal.invariant_of-self
invariant_of-self g c =
    readable_err (state g.S.Store c.self.inside.base.value).now (state g.S.Store c.self.inside.connection) (state g.S.Store c.load_rows.new.connection)
    c.self.invariant c.load_rows.ensures.crash.clean c.load_rows.ensures.was_open c.load_rows.ensures.kept

pub returns-clause-loaded : goal.returns-clause-loaded
returns-clause-loaded g c =
    loaded_by (state g.S.Store c.self.inside.base.value).now (state g.S.Store c.self.inside.connection) (state g.S.Store c.load_rows.new.connection)
    c.self.invariant c.load_rows.ensures.crash.clean c.load_rows.ensures.was_open c.load_rows.ensures.kept c.load_rows.result (λ clean serves. c.load_rows.ensures.reads clean (serves_legible _ serves))

pub returns-clause-sound : goal.returns-clause-sound
returns-clause-sound g c =
    sound_by (state g.S.Store c.self.inside.base.value).now (state g.S.Store c.self.inside.connection) (state g.S.Store c.load_rows.new.connection)
    c.self.invariant c.load_rows.ensures.crash.clean c.load_rows.ensures.was_open c.load_rows.ensures.kept c.load_rows.result (λ clean serves. c.load_rows.ensures.reads clean (serves_legible _ serves))

pub returns-clause-damaged : goal.returns-clause-damaged
returns-clause-damaged g c =
    damaged_by (state g.S.Store c.self.inside.base.value).now (state g.S.Store c.self.inside.connection) (state g.S.Store c.load_rows.new.connection)
    c.self.invariant c.load_rows.ensures.crash.clean c.load_rows.ensures.was_open c.load_rows.ensures.kept c.load_rows.result (λ clean serves. c.load_rows.ensures.reads clean (serves_legible _ serves))

pub returns-clause-kept : goal.returns-clause-kept
returns-clause-kept g c =
    let base = (state g.S.Store c.self.inside.base.value).now in
    let new = state g.S.Store c.load_rows.new.connection in
    subst (λ (k : KeeperView _). Stays (told_by g.S.Store k) (told_of base new)) c.self.view_is
    (told_err base (state g.S.Store c.self.inside.connection) new
    c.self.invariant c.load_rows.ensures.crash.clean c.load_rows.ensures.was_open c.load_rows.ensures.kept)

pub returns-clause-damage_kept : goal.returns-clause-damage_kept
returns-clause-damage_kept g c =
    let base = (state g.S.Store c.self.inside.base.value).now in
    let new = state g.S.Store c.load_rows.new.connection in
    subst (λ (k : KeeperView _). StaysDamaged (damage_by g.S.Store k) (damage_seen new)) c.self.view_is
    (damage_stays base (state g.S.Store c.self.inside.connection) new
    c.self.invariant c.load_rows.ensures.crash.clean c.load_rows.ensures.was_open c.load_rows.ensures.kept)

pub returns-clause-unchanged : goal.returns-clause-unchanged
returns-clause-unchanged g c clean is_open =
    let new = state g.S.Store c.load_rows.new.connection in
    subst (λ (k : KeeperView _). IsAsBefore (state g.S.Store k.connection) new) c.self.view_is
    (record { now = c.load_rows.ensures.kept clean is_open; committed = c.load_rows.ensures.kept_committed clean is_open })

pub returns-clause-reads : goal.returns-clause-reads
returns-clause-reads g c =
    let new = state g.S.Store c.load_rows.new.connection in
    subst (λ (k : KeeperView _). HasCleanDisk new → IsLegible (state g.S.Store k.connection).now → ReadsAll (ordered (tables_in (state g.S.Store k.connection).now)) c.load_rows.result) c.self.view_is c.load_rows.ensures.reads
