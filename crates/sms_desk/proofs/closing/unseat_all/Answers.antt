use Rattle.std.proofs.Common.{◌≡◌, [], All, Some, length, sym, subst, rules, arith}
use Rattle.std.proofs.lemmas.List.Elements.{All-nil}
use Rattle.sms_desk.specs.Seats.{StandsJob}
use Rattle.sms_desk.proofs.JobLemmas.{lock_moves, none-left, stands_back, number_back}
use Rattle.sms_desk.proofs.closing.unseat_all.Goals as goal

pub loop-job-preserved : goal.loop-job-preserved
loop-job-preserved g c =
    let inv = c.loop-job.invariant in
    let job = c.in-Some.job in
    let seat = c.in-Some-seat.seat in
    let is : job.seat ≡ Some seat = search rules in (
      (search rules),
      (search rules),
      (λ lock h. lock_moves lock c.loop-job.jobs.items c.pop.new.self.items job c.loop-job.room.items c.push_reserved.new.self.items seat c.in-Some.ensures.items c.push_reserved.ensures.items is (inv.2 lock h)),
      (λ list h h2. let t = stands_back list c.loop-job.jobs.items c.pop.new.self.items job c.loop-job.room.items c.push_reserved.new.self.items seat c.in-Some.ensures.items c.push_reserved.ensures.items is h h2 in inv.3 list t.0 t.1),
      (λ k h. inv.4 k (number_back k c.loop-job.jobs.items c.pop.new.self.items job c.loop-job.room.items c.push_reserved.new.self.items seat c.in-Some.ensures.items c.push_reserved.ensures.items is h)),
    )

pub returns-clause-stands : goal.returns-clause-stands
returns-clause-stands g c list h =
    let none : length c.loop-job.jobs.items ≡ 0 = omega (arith, c.loop-job.jobs.ok.0, c.in_default.ensures.cases.0) in
    let empty : c.loop-job.jobs.items ≡ [] = none-left c.loop-job.jobs.items none in
    c.loop-job.invariant.3 list (subst (All (StandsJob list)) (sym empty) (All-nil (StandsJob list))) h
