use Rattle.std.proofs.Common.{◌≡◌, ◌∙◌, OnOk, ap, arith, rules, subst, sym}
use Rattle.sqlite.specs.Held.{state}
use Rattle.sqlite.specs.State.{HasCleanDisk, Survives}
use Rattle.sqlite.specs.Schema.{Schema}
use Rattle.sqlite.proofs.Callers.{survives_begin}
use Rattle.sqlite.proofs.StateLemmas.{survives_then}
use Rattle.keeper_statements.specs.Presence.{present_in}
use Rattle.sms_sqlite.specs.Reading.{IsMadeReady}
use Rattle.sms_sqlite.specs.Writing.{HoldsLike, IsCommitted, IsMadeLeft}
use Rattle.sms_sqlite.proofs.CommitLemmas.{commit_kept, made_committed, ready_left, ready_like}
use Rattle.sms_sqlite.proofs.writing.write_tables.Goals as goal

pub returns-clause-made : goal.returns-clause-made
returns-clause-made g c clean rows told =
    let old = state g.S.Store c.args.connection.now in
    let begun = c.transaction-tx.ensures.begun in
    let found : c.present_among-there.result ≡ present_in (state g.S.Store c.args.connection.now).now.schema.tables =
    c.present_among-there.ensures ∙ ap present_in (c.as_slice.ensures ∙ ap (λ (s : Schema). s.tables) c.schema.ensures.value) in
    let last = state g.S.Store c.make_tables.new.tx.conn.now in
    let end = c.commit.new.self.0 in
    let same : end ≡ c.connection-2-1.given.0 = search rules in
    let late : HasCleanDisk (state g.S.Store end) = subst (λ h. HasCleanDisk (state g.S.Store h)) (sym same) clean in
    let early : HasCleanDisk last = omega (arith, late, c.commit.ensures.survives.clean) in
    let made = c.in_ok-make_tables.ensures.made early (rw begun) in
    let like : HoldsLike last.now last.now rows = ready_like old.now last.now rows (rw (begun, found) at made) told in
    subst (λ h. OnOk c.commit.result (IsCommitted (state g.S.Store h).now (state g.S.Store h) rows)) same (commit_kept last (state g.S.Store end) rows c.commit.result like (c.commit.ensures.ok late))

pub returns-clause-tables : goal.returns-clause-tables
returns-clause-tables g c clean =
    let old = state g.S.Store c.args.connection.now in
    let begun = c.transaction-tx.ensures.begun in
    let found : c.present_among-there.result ≡ present_in (state g.S.Store c.args.connection.now).now.schema.tables =
    c.present_among-there.ensures ∙ ap present_in (c.as_slice.ensures ∙ ap (λ (s : Schema). s.tables) c.schema.ensures.value) in
    let last = state g.S.Store c.make_tables.new.tx.conn.now in
    let end = c.commit.new.self.0 in
    let same : end ≡ c.connection-2-1.given.0 = search rules in
    let late : HasCleanDisk (state g.S.Store end) = subst (λ h. HasCleanDisk (state g.S.Store h)) (sym same) clean in
    let early : HasCleanDisk last = omega (arith, late, c.commit.ensures.survives.clean) in
    let made = c.in_ok-make_tables.ensures.made early (rw begun) in
    subst (λ h. OnOk c.commit.result (IsMadeReady old.now (state g.S.Store h).now)) same
    (made_committed old.now last (state g.S.Store end) c.commit.result (rw (begun, found) at made) (c.commit.ensures.ok late))

pub returns-clause-crash : goal.returns-clause-crash
returns-clause-crash g c =
    let old = c.args.connection.now in
    let begun = c.transaction-tx.ensures.begun in
    let found : c.present_among-there.result ≡ present_in (state g.S.Store c.args.connection.now).now.schema.tables =
    c.present_among-there.ensures ∙ ap present_in (c.as_slice.ensures ∙ ap (λ (s : Schema). s.tables) c.schema.ensures.value) in
    let start = c.transaction-tx.result.conn.now in
    let last = c.make_tables.new.tx.conn.now in
    let end = c.commit.new.self.0 in
    let P = IsMadeLeft (state g.S.Store old).now in
    let whole = survives_then (state g.S.Store old) (state g.S.Store last) (state g.S.Store end) _ _ P (λ _ db none. absurd none)
    (λ clean db is.
    let early : HasCleanDisk (state g.S.Store last) = omega (arith, clean, c.commit.ensures.survives.clean) in
    let made = c.in_ok-make_tables.ensures.made early (rw begun) in
    ready_left (state g.S.Store old).now (state g.S.Store last).now db (rw (begun, found) at made) is)
    (survives_begin g.S.Store old (state g.S.Store last) _ (rw begun at c.make_tables.ensures.survives)) c.commit.ensures.survives in
    let same : end ≡ c.connection-2-1.given.0 = search rules in
    subst (λ h. Survives (state g.S.Store old) (state g.S.Store h) P) same whole
