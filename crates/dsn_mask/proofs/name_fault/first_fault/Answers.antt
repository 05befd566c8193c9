use Rattle.std.proofs.Common.{arith, ◌∙◌, refl}
use Rattle.dsn_mask.proofs.Faults.{walk_stops, walk_goes_on, walk_all}
use Rattle.dsn_mask.proofs.name_fault.first_fault.Goals as goal

pub returns-in-Some : goal.returns-in-Some
returns-in-Some c =
    let found = walk_stops _ _ _ _ _ _ c.first_qualifier-cut.ensures.split c.in-Some.ensures in
    (c.walk.invariant.good ∙ found.0, c.walk.invariant.first _ found.1)

pub walk-preserved : goal.walk-preserved
walk-preserved c =
    let split = rw c.in-Some-rest.is at c.first_qualifier-cut.ensures.split in
    let count = rw c.in-Some-rest.is at c.first_qualifier-cut.ensures.count in
    record {
      fits = omega arith;
      counted = omega arith;
      good = c.walk.invariant.good ∙ walk_all _ _ _ split c.in_default.ensures;
      first = λ err found. c.walk.invariant.first err (walk_goes_on _ _ _ _ _ _ _ err split c.in_default.ensures (omega arith) refl found);
    }
