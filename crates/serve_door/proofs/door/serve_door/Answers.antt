-- Each link adds its visit.
use Rattle.std.proofs.Common.{◌≡◌, [], ◌∷◌, ◌++◌, refl, ap, sym, ◌∙◌, arith, length-append}
use Rattle.sms_base.specs.Counts.{one_call_more}
use Rattle.serve_door.proofs.VisitLaws.{Serves-more, Serves-nil, after_calls-push, talks_of-push}
use Rattle.serve_door.proofs.door.serve_door.Goals as goal

pub loop-init : goal.loop-init
loop-init g c = record {
  serves = rw c.new-visits.ensures.items (Serves-nil _ _);
  bench = rw c.new-visits.ensures.items (g.met.B.Bench.stays c.args.bench);
  counted = rw c.new-visits.ensures.items refl;
  asked = rw c.new-visits.ensures.items refl;
  door_faults = refl;
}

-- one more link was given and served
pub loop-preserved : goal.loop-preserved
loop-preserved g c =
    let before = c.loop.invariant in
    let visits = c.loop.visits.items in
    let visit = c.serve_link-visit.result.0 in
    let came = c.in-Ok-Some.ensures in
    let gives = rw c.in-Ok-Some.field-0-is at came.gives in
    let links = rw c.in-Ok-Some.field-0-is at came.links in
    let fresh = rw c.in-Ok-Some.field-0-is at came.fresh in
    let whole : c.push_reserved.new.self.items ≡ visits ++ visit ∷ [] = c.push_reserved.ensures.items ∙ ap (λ l. l ++ visit ∷ []) c.reserve.ensures.items in
    record {
      serves = rw whole (Serves-more _ _ _ _ _ visits c.in-Ok-Some.link visit before.serves (record {
        given = gives.0;
        waiting = links;
        reads = fresh.0;
        writes = fresh.1;
        fair = came.fair;
        back = came.back;
        link_faults = came.link_faults;
        door_faults = came.cause.stands;
      }) c.serve_link-visit.ensures.served);
      bench = rw (whole, talks_of-push visits visit) (g.met.B.Bench.joins _ _ _ _ visit.talks before.bench c.serve_link-visit.ensures.bench);
      counted = rw whole (omega (arith, before.counted, length-append visits (visit ∷ [])));
      asked = rw whole (c.serve_link-visit.ensures.served.asked ∙ came.asked ∙ ap one_call_more before.asked ∙ sym (after_calls-push _ visits visit));
      door_faults = c.serve_link-visit.ensures.served.door_faults ∙ came.cause.stands ∙ before.door_faults;
    }
