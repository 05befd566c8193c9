use Rattle.std.proofs.Common.{rules, Some, map, refl, ap, ◌∙◌}
use Rattle.std.proofs.lemmas.List.{map_push}
use Rattle.serve_calls.specs.Inner.Workers.{HasMost, door_of, seat_of}
use Rattle.serve_calls.proofs.ManningLaws.{handed, more}
use Rattle.serve_calls.proofs.manning.hand_out.Goals as goal

-- one more worker has its seat and its door
pub loop-door-preserved : goal.loop-door-preserved
loop-door-preserved g c =
    let inv = c.loop-door.invariant in
    let workers = c.loop-door.workers.items in (
      (search rules),
      (search rules),
      (handed seat_of workers c.push_reserved.new.self.items _ (map (λ seat. Some seat) c.loop-door.seats.items) (map (λ seat. Some seat) c.pop-in-Some.new.self.items) _ (Some c.in-Some-pop.seat)
          c.push_reserved.ensures.items (ap (map (λ seat. Some seat)) c.in-Some-pop.ensures.items ∙ map_push (λ seat. Some seat) c.pop-in-Some.new.self.items c.in-Some-pop.seat) refl inv.2),
      (handed door_of workers c.push_reserved.new.self.items _ c.loop-door.doors.items c.pop.new.self.items _ c.in-Some.door c.push_reserved.ensures.items c.in-Some.ensures.items refl inv.3),
      (more (HasMost c.args.most) workers c.push_reserved.new.self.items _ c.push_reserved.ensures.items inv.4 refl),
      (search rules),
      (search rules),
    )
