use Rattle.std.proofs.Common.{refl, rules}
use Rattle.sms_desk.proofs.JobLemmas.{idle_moves, new_moves, number_moves}
use Rattle.sms_desk.proofs.seating.seat_all.Goals as goal

pub loop-seat-preserved : goal.loop-seat-preserved
loop-seat-preserved g c =
    let inv = c.loop-seat.invariant in (
      (search rules),
      (search rules),
      (search rules),
      (search rules),
      (idle_moves c.loop-seat.jobs.items c.push_reserved.new.self.items _ c.push_reserved.ensures.items (search rules) inv.4),
      (λ lock list some legal h outfits. new_moves lock list c.loop-seat.seats.items c.pop.new.self.items c.in-Some.seat c.loop-seat.outfits.items _ _ c.loop-seat.jobs.items c.push_reserved.new.self.items _
          c.in-Some.ensures.items c.in-Some-pop.ensures.items c.push_reserved.ensures.items refl refl some legal (inv.5 lock list some legal h outfits)),
      (λ h. number_moves _ c.loop-seat.seats.items c.pop.new.self.items c.in-Some.seat c.loop-seat.jobs.items c.push_reserved.new.self.items _ c.in-Some.ensures.items c.push_reserved.ensures.items refl inv.0 (inv.6 h)),
    )

pub returns-clause-new : goal.returns-clause-new
returns-clause-new g c lock list some legal h outfits = (c.loop-seat.invariant.5 lock list some legal h outfits).2
