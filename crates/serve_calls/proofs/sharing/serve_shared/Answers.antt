use Rattle.std.proofs.Common.{◌≤◌, length, arith, sym, subst, ◌∙◌}
use Rattle.sms_desk.specs.Seats.{AreNumberedDown}
use Rattle.serve_calls.proofs.ShiftLaws.{all-served, jobs-after, same-count}
use Rattle.serve_calls.proofs.SharedLaws.{desk-shared}
use Rattle.serve_calls.proofs.sharing.serve_shared.Goals as goal

-- all seats are handed back
pub close-core-requires : goal.close-core-requires
close-core-requires g c =
    let did = c.serve_all.ensures.done in
    (same-count _ _ _ c.args.most did ∙ c.in-Ok-new.ensures.all.0, jobs-after _ _ _ c.args.most did)

pub returns-in-Ok-new-clause-served : goal.returns-in-Ok-new-clause-served
returns-in-Ok-new-clause-served g c = rw c.from_vec-visits.ensures (all-served _ _ _ c.args.most c.serve_all.ensures.done)

-- the desk's close has one history
pub returns-in-Ok-new-clause-once : goal.returns-in-Ok-new-clause-once
returns-in-Ok-new-clause-once g c =
    let jobs = c.in-Ok-new.seats.jobs.items in
    let two : 2 ≤ length jobs = omega (arith, c.requires.count, c.in-Ok-new.ensures.count, c.len-2.ensures) in
    let shared =
    desk-shared _ _ _ c.args.most c.args.core.opening c.args.core.mark c.close-core.result.0.opening c.close-core.result.0.mark c.args.core.journal c.close-core.result.0.journal c.close-core.result.1
    c.serve_all.ensures.done two c.requires.new c.in-Ok-new.ensures.new (subst (λ n. AreNumberedDown n jobs) (sym c.in-Ok-new.ensures.count) c.in-Ok-new.ensures.numbers)
    c.close-core.ensures.stands c.close-core.ensures.by c.close-core.ensures.few in
    rw c.from_vec-visits.ensures shared.once

pub returns-in-Ok-new-clause-opening : goal.returns-in-Ok-new-clause-opening
returns-in-Ok-new-clause-opening g c =
    let jobs = c.in-Ok-new.seats.jobs.items in
    let two : 2 ≤ length jobs = omega (arith, c.requires.count, c.in-Ok-new.ensures.count, c.len-2.ensures) in
    let shared =
    desk-shared _ _ _ c.args.most c.args.core.opening c.args.core.mark c.close-core.result.0.opening c.close-core.result.0.mark c.args.core.journal c.close-core.result.0.journal c.close-core.result.1
    c.serve_all.ensures.done two c.requires.new c.in-Ok-new.ensures.new (subst (λ n. AreNumberedDown n jobs) (sym c.in-Ok-new.ensures.count) c.in-Ok-new.ensures.numbers)
    c.close-core.ensures.stands c.close-core.ensures.by c.close-core.ensures.few in
    shared.opening

pub returns-in-Ok-new-clause-mark : goal.returns-in-Ok-new-clause-mark
returns-in-Ok-new-clause-mark g c =
    let jobs = c.in-Ok-new.seats.jobs.items in
    let two : 2 ≤ length jobs = omega (arith, c.requires.count, c.in-Ok-new.ensures.count, c.len-2.ensures) in
    let shared =
    desk-shared _ _ _ c.args.most c.args.core.opening c.args.core.mark c.close-core.result.0.opening c.close-core.result.0.mark c.args.core.journal c.close-core.result.0.journal c.close-core.result.1
    c.serve_all.ensures.done two c.requires.new c.in-Ok-new.ensures.new (subst (λ n. AreNumberedDown n jobs) (sym c.in-Ok-new.ensures.count) c.in-Ok-new.ensures.numbers)
    c.close-core.ensures.stands c.close-core.ensures.by c.close-core.ensures.few in
    shared.mark_is
