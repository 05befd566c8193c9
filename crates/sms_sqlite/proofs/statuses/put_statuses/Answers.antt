use Rattle.std.proofs.Common.{arith, refl, ◌∙◌}
use Rattle.sqlite.specs.Held.{state}
use Rattle.sqlite.specs.State.{HasCleanDisk}
use Rattle.sqlite.proofs.StateLemmas.{survives_then}
use Rattle.keeper_statements.proofs.StayLemmas.{err_stays}
use Rattle.sms_sqlite.proofs.LeadLemmas.{stays_then, survives_itself}
use Rattle.sms_sqlite.proofs.StatusLemmas.{all_added, none_added, one_added, one_readable}
use Rattle.sms_sqlite.proofs.statuses.put_statuses.Goals as goal

pub loop-row-init : goal.loop-row-init
loop-row-init g c = (
  refl,
  survives_itself _,
  (λ clean inside. record { inside = inside; was_open = λ h. h; committed = λ _. refl }),
  (λ clean inside ready. none_added _ ready),
  tt,
)

pub loop-row-preserved : goal.loop-row-preserved
loop-row-preserved g c =
    let was = c.loop-row.invariant in
    let old = state g.S.Store c.args.tx.now.conn.now in
    let mid = state g.S.Store c.loop-row.tx.conn.now in
    let new = state g.S.Store c.put_status.new.tx.conn.now in
    let before = λ (clean : HasCleanDisk new). (let it : HasCleanDisk mid = omega (arith, clean, c.put_status.ensures.survives.clean) in it) in (
      c.put_status.ensures.same_reference ∙ was.0,
      survives_then old mid new _ _ (λ _. ⊥) (λ _ db none. none) (λ _ db none. none) was.1 c.put_status.ensures.survives,
      (λ clean inside.
          let one = was.2 (before clean) inside in
          stays_then old mid new _ _ one (c.in_ok-put_status.ensures.stays clean one.inside)),
      (λ clean inside ready.
          let one = was.2 (before clean) inside in
          let made = was.3 (before clean) inside ready in
          one_added c.args.statuses.now c.loop-row.row-index c.row-item.result old.now mid.now new.now c.loop-row-test.true c.row-item.is made (c.in_ok-put_status.ensures.made clean one.inside made.ready)),
      one_readable c.args.statuses.now c.loop-row.row-index c.row-item.result c.loop-row-test.true c.row-item.is was.4 c.put_status.ensures.read,
    )

pub returns-in_err-put_status-clause-stays : goal.returns-in_err-put_status-clause-stays
returns-in_err-put_status-clause-stays g c clean inside =
    let was = c.loop-row.invariant in
    let old = state g.S.Store c.args.tx.now.conn.now in
    let mid = state g.S.Store c.loop-row.tx.conn.now in
    let new = state g.S.Store c.put_status.new.tx.conn.now in
    let before : HasCleanDisk mid = omega (arith, clean, c.put_status.ensures.survives.clean) in
    let one = was.2 before inside in
    err_stays old new c.from_residual.result c.in_err-put_status.field-0.0 c.from_residual.ensures.0 (stays_then old mid new _ _ one (c.in_err-put_status.ensures.stays clean one.inside))

pub returns-clause-made : goal.returns-clause-made
returns-clause-made g c clean inside ready = all_added c.args.statuses.now c.loop-row.row-index _ _ c.loop-row-test.false (c.loop-row.invariant.3 clean inside ready)
