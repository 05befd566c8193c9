use Rattle.std.proofs.Common.{◌≡◌, ◌<◌, ◌++◌, [], All, length, take, drop, arith, sym, ap, subst, ◌∙◌}
use Rattle.desk_signing.specs.Signing.{signed}
use Rattle.desk_workers.specs.Inner.Shared.{IsIdle}
use Rattle.desk_workers.proofs.SharedLemmas.{closed-desk, lent-all, new-idle, plan-below}
use Rattle.desk_workers.proofs.sharing.share_phase.Goals as goal

-- each item's worker has a seat
pub answer_all-done-requires-clause-below : goal.answer_all-done-requires-clause-below
answer_all-done-requires-clause-below g c κs within =
    let planned = c.in-Ok.ensures in
    let count : length c.deref_mut.result.now ≡ c.in-Ok.workers = ap length c.deref_mut.ensures.value ∙ c.in-Ok-new.ensures.count in
    subst (All (λ k. k < length c.deref_mut.result.now)) (sym (c.deref.ensures.value ∙ planned.plan_is)) (plan-below planned.worker c.in-Ok.workers (length c.deref_mut.result.now) c.args.items.now planned.below count)

-- there is a seat, and not too many
pub new-requires : goal.new-requires
new-requires g c = let planned = c.in-Ok.ensures in (omega (arith, planned.below []), planned.few)

-- the seats are new
pub answer_all-done-requires-clause-idle : goal.answer_all-done-requires-clause-idle
answer_all-done-requires-clause-idle g c κs within =
    let lock = c.in-Ok-new.desk.lock.table.shared.table_id in
    let list = signed c.args.core.opening c.args.core.mark (length c.args.core.journal) c.args.core.journal [] in
    subst (All (IsIdle lock)) (sym c.deref_mut.ensures.value) (new-idle lock list c.in-Ok-new.seats.jobs.items c.in-Ok-new.ensures.new c.in-Ok-new.ensures.idle)

-- all seats are handed back
pub close-core-requires : goal.close-core-requires
close-core-requires g c =
    let new = c.answer_all-done.new.seats in
    let rest = drop (length new) c.in-Ok-new.seats.jobs.items in
    let whole : c.in-Ok-new.seats.jobs.len ≡ length new = omega (arith, c.answer_all-done.ensures.count, ap length c.deref_mut.ensures.value, c.in-Ok-new.seats.jobs.ok.0) in
    rw (lent-all new rest c.in-Ok-new.seats.jobs.len whole) (c.answer_all-done.ensures.count ∙ ap length c.deref_mut.ensures.value ∙ c.in-Ok-new.ensures.all.0, c.answer_all-done.ensures.jobs)

pub returns-in-Ok-new-clause-answered : goal.returns-in-Ok-new-clause-answered
returns-in-Ok-new-clause-answered g c =
    let planned = c.in-Ok.ensures in
    let done =
    closed-desk c.answer_all-done.result c.in-Ok-new.desk.lock.table.shared.table_id planned.worker c.in-Ok.workers c.args.items.now c.deref.result.now c.in-Ok-new.seats.jobs.items c.deref_mut.result.now c.answer_all-done.new.seats
    (take c.in-Ok-new.seats.jobs.len (c.answer_all-done.new.seats ++ drop (length c.answer_all-done.new.seats) c.in-Ok-new.seats.jobs.items)) c.args.answers.now.items c.answer_all-done.new.answers.items
    c.args.core.opening c.args.core.mark c.close-core.result.0.opening c.close-core.result.0.mark c.args.core.journal c.close-core.result.0.journal c.close-core.result.1
    planned.below (c.deref.ensures.value ∙ planned.plan_is) c.deref_mut.ensures.value
    (lent-all c.answer_all-done.new.seats (drop (length c.answer_all-done.new.seats) c.in-Ok-new.seats.jobs.items) c.in-Ok-new.seats.jobs.len (omega (arith, c.answer_all-done.ensures.count, ap length c.deref_mut.ensures.value, c.in-Ok-new.seats.jobs.ok.0)))
    c.in-Ok-new.ensures.count c.in-Ok-new.ensures.new c.answer_all-done.ensures.answered c.answer_all-done.ensures.wanting c.close-core.ensures.stands c.close-core.ensures.by c.close-core.ensures.few in
    done.answered

pub returns-in-Ok-new-clause-wanting : goal.returns-in-Ok-new-clause-wanting
returns-in-Ok-new-clause-wanting g c =
    let planned = c.in-Ok.ensures in
    let done =
    closed-desk c.answer_all-done.result c.in-Ok-new.desk.lock.table.shared.table_id planned.worker c.in-Ok.workers c.args.items.now c.deref.result.now c.in-Ok-new.seats.jobs.items c.deref_mut.result.now c.answer_all-done.new.seats
    (take c.in-Ok-new.seats.jobs.len (c.answer_all-done.new.seats ++ drop (length c.answer_all-done.new.seats) c.in-Ok-new.seats.jobs.items)) c.args.answers.now.items c.answer_all-done.new.answers.items
    c.args.core.opening c.args.core.mark c.close-core.result.0.opening c.close-core.result.0.mark c.args.core.journal c.close-core.result.0.journal c.close-core.result.1
    planned.below (c.deref.ensures.value ∙ planned.plan_is) c.deref_mut.ensures.value
    (lent-all c.answer_all-done.new.seats (drop (length c.answer_all-done.new.seats) c.in-Ok-new.seats.jobs.items) c.in-Ok-new.seats.jobs.len (omega (arith, c.answer_all-done.ensures.count, ap length c.deref_mut.ensures.value, c.in-Ok-new.seats.jobs.ok.0)))
    c.in-Ok-new.ensures.count c.in-Ok-new.ensures.new c.answer_all-done.ensures.answered c.answer_all-done.ensures.wanting c.close-core.ensures.stands c.close-core.ensures.by c.close-core.ensures.few in
    done.wanting

pub returns-in-Ok-new-clause-opening : goal.returns-in-Ok-new-clause-opening
returns-in-Ok-new-clause-opening g c =
    let planned = c.in-Ok.ensures in
    let done =
    closed-desk c.answer_all-done.result c.in-Ok-new.desk.lock.table.shared.table_id planned.worker c.in-Ok.workers c.args.items.now c.deref.result.now c.in-Ok-new.seats.jobs.items c.deref_mut.result.now c.answer_all-done.new.seats
    (take c.in-Ok-new.seats.jobs.len (c.answer_all-done.new.seats ++ drop (length c.answer_all-done.new.seats) c.in-Ok-new.seats.jobs.items)) c.args.answers.now.items c.answer_all-done.new.answers.items
    c.args.core.opening c.args.core.mark c.close-core.result.0.opening c.close-core.result.0.mark c.args.core.journal c.close-core.result.0.journal c.close-core.result.1
    planned.below (c.deref.ensures.value ∙ planned.plan_is) c.deref_mut.ensures.value
    (lent-all c.answer_all-done.new.seats (drop (length c.answer_all-done.new.seats) c.in-Ok-new.seats.jobs.items) c.in-Ok-new.seats.jobs.len (omega (arith, c.answer_all-done.ensures.count, ap length c.deref_mut.ensures.value, c.in-Ok-new.seats.jobs.ok.0)))
    c.in-Ok-new.ensures.count c.in-Ok-new.ensures.new c.answer_all-done.ensures.answered c.answer_all-done.ensures.wanting c.close-core.ensures.stands c.close-core.ensures.by c.close-core.ensures.few in
    done.opening

pub returns-in-Ok-new-clause-mark : goal.returns-in-Ok-new-clause-mark
returns-in-Ok-new-clause-mark g c =
    let planned = c.in-Ok.ensures in
    let done =
    closed-desk c.answer_all-done.result c.in-Ok-new.desk.lock.table.shared.table_id planned.worker c.in-Ok.workers c.args.items.now c.deref.result.now c.in-Ok-new.seats.jobs.items c.deref_mut.result.now c.answer_all-done.new.seats
    (take c.in-Ok-new.seats.jobs.len (c.answer_all-done.new.seats ++ drop (length c.answer_all-done.new.seats) c.in-Ok-new.seats.jobs.items)) c.args.answers.now.items c.answer_all-done.new.answers.items
    c.args.core.opening c.args.core.mark c.close-core.result.0.opening c.close-core.result.0.mark c.args.core.journal c.close-core.result.0.journal c.close-core.result.1
    planned.below (c.deref.ensures.value ∙ planned.plan_is) c.deref_mut.ensures.value
    (lent-all c.answer_all-done.new.seats (drop (length c.answer_all-done.new.seats) c.in-Ok-new.seats.jobs.items) c.in-Ok-new.seats.jobs.len (omega (arith, c.answer_all-done.ensures.count, ap length c.deref_mut.ensures.value, c.in-Ok-new.seats.jobs.ok.0)))
    c.in-Ok-new.ensures.count c.in-Ok-new.ensures.new c.answer_all-done.ensures.answered c.answer_all-done.ensures.wanting c.close-core.ensures.stands c.close-core.ensures.by c.close-core.ensures.few in
    done.mark_is
