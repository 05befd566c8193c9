use Rattle.std.proofs.Common.{add-one, length, arith}
use Rattle.std.proofs.lemmas.Grind.{common_steps}
use Rattle.acs_places.proofs.PlaceLemmas.{stands}
use Rattle.acs_places.proofs.spots.placed.Goals as goal

pub further-place-requires-clause-order : goal.further-place-requires-clause-order
further-place-requires-clause-order c =
    let here = stands c.loop-token.at (length c.args.text.now) c.loop-token.token-index c.args.tokens.now _ c.loop-token-test.true c.loop-token.invariant.order in
    (here.begins, here.within)

pub loop-token-preserved : goal.loop-token-preserved
loop-token-preserved c = record {
  order = rw add-one (stands c.loop-token.at (length c.args.text.now) c.loop-token.token-index c.args.tokens.now _ c.loop-token-test.true c.loop-token.invariant.order).order;
  place = c.further-place.ensures;
  spots = grind (arith, common_steps, c.in_ok-push.ensures.ok);
}
