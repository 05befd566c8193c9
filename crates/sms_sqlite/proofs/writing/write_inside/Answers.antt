use Rattle.std.proofs.Common.{◌≡◌, OnOk, arith, rules, subst, sym}
use Rattle.sqlite.specs.Held.{state}
use Rattle.sqlite.specs.State.{HasCleanDisk, Survives}
use Rattle.sqlite.specs.Tree.{Trees}
use Rattle.sqlite.proofs.Callers.{survives_begin}
use Rattle.sqlite.proofs.StateLemmas.{survives_then}
use Rattle.sms_keeper.specs.Tables.{with_change}
use Rattle.sms_keeper.specs.declared.rows.Rows.{Rows}
use Rattle.sms_sqlite.specs.Writing.{Holds, IsChangeLeft, IsCommitted}
use Rattle.sms_sqlite.proofs.CommitLemmas.{both_made, commit_made, last_left}
use Rattle.sms_sqlite.proofs.writing.write_inside.Goals as goal

pub returns-clause-made : goal.returns-clause-made
returns-clause-made g c clean rows holds =
    let old = c.args.connection.now in
    let begun = c.transaction-tx.ensures.begun in
    let mid = c.make_effect.new.tx.conn.now in
    let last = c.keep_reply.new.tx.conn.now in
    let end = c.commit.new.self.0 in
    let same : end ≡ c.connection-2-1.given.0 = search rules in
    let ended : HasCleanDisk (state g.S.Store end) = subst (λ h. HasCleanDisk (state g.S.Store h)) (sym same) clean in
    let late : HasCleanDisk (state g.S.Store last) = omega (arith, ended, c.commit.ensures.survives.clean) in
    let early : HasCleanDisk (state g.S.Store mid) = omega (arith, late, c.keep_reply.ensures.survives.clean) in
    let one = c.in_ok-make_effect.ensures.leads early (rw begun) rows (rw begun holds) in
    let on = (c.in_ok-make_effect.ensures.stays early (rw begun)).inside in
    let both = both_made c.args.change.now _ _ _ rows (rw begun at one) (λ found has. c.in_ok-keep_reply.ensures.leads late on found has) in
    subst (λ h. OnOk c.commit.result (IsCommitted (state g.S.Store old).now (state g.S.Store h) (with_change rows c.args.change.now))) same
    (commit_made (state g.S.Store old).now (state g.S.Store last) (state g.S.Store end) (with_change rows c.args.change.now) c.commit.result both (c.commit.ensures.ok ended))

pub returns-clause-crash : goal.returns-clause-crash
returns-clause-crash g c =
    let old = c.args.connection.now in
    let begun = c.transaction-tx.ensures.begun in
    let start = c.transaction-tx.result.conn.now in
    let mid = c.make_effect.new.tx.conn.now in
    let last = c.keep_reply.new.tx.conn.now in
    let end = c.commit.new.self.0 in
    let P = λ (db : Trees). (rows : Rows) → Holds (state g.S.Store old).now rows → IsChangeLeft (state g.S.Store old).now db (with_change rows c.args.change.now) in
    let inside = survives_then (state g.S.Store start) (state g.S.Store mid) (state g.S.Store last) _ _ (λ _. ⊥) (λ _ db none. none) (λ _ db none. none) c.make_effect.ensures.survives c.keep_reply.ensures.survives in
    let whole = survives_then (state g.S.Store old) (state g.S.Store last) (state g.S.Store end) _ _ P (λ _ db none. absurd none)
    (λ clean db is rows holds.
    let late : HasCleanDisk (state g.S.Store last) = omega (arith, clean, c.commit.ensures.survives.clean) in
    let early : HasCleanDisk (state g.S.Store mid) = omega (arith, late, c.keep_reply.ensures.survives.clean) in
    let one = c.in_ok-make_effect.ensures.leads early (rw begun) rows (rw begun holds) in
    let on = (c.in_ok-make_effect.ensures.stays early (rw begun)).inside in
    last_left (state g.S.Store old).now (state g.S.Store last) (with_change rows c.args.change.now) db
    (both_made c.args.change.now _ _ _ rows (rw begun at one) (λ found has. c.in_ok-keep_reply.ensures.leads late on found has)) is)
    (survives_begin g.S.Store old (state g.S.Store last) _ (rw begun at inside)) c.commit.ensures.survives in
    let same : end ≡ c.connection-2-1.given.0 = search rules in
    subst (λ h. Survives (state g.S.Store old) (state g.S.Store h) P) same whole
