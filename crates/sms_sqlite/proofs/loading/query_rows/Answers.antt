use Rattle.std.proofs.Common.{◌≡◌, arith, rules, subst, sym}
use Rattle.sqlite.specs.Held.{state}
use Rattle.sqlite.specs.State.{HasCleanDisk}
use Rattle.sms_sqlite.proofs.loading.query_rows.Goals as goal

pub returns-clause-found : goal.returns-clause-found
returns-clause-found g c clean serves there =
    let begun = c.transaction-tx.ensures.begun in
    let last = c.find_rows.new.tx.conn.now in
    let end = c.drop-tx.new.self.0 in
    let same : end ≡ c.connection-1.given.0 = search rules in
    let ended : HasCleanDisk (state g.S.Store end) = subst (λ h. HasCleanDisk (state g.S.Store h)) (sym same) clean in
    let late : HasCleanDisk (state g.S.Store last) = omega (arith, ended, c.drop-tx.ensures.survives.clean) in
    let it = c.find_rows.ensures.found late (rw begun) (rw begun serves) (rw begun there) in
    rw begun at it
