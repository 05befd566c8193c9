use Rattle.std.proofs.Common.{false, Err, ap, refl}
use Rattle.dsn_mask.proofs.MaskFaults.{no_first, one_first}
use Rattle.dsn_mask.proofs.MaskPlaces.{simple_text, no_simple, not_both_ways}
use Rattle.dsn_mask.proofs.simple.Simple.parse.Goals as goal

pub invariant_of-result : goal.invariant_of-result
invariant_of-result c = rw c.new.ensures (simple_text c.args.bytes.now c.in-None.ensures)

pub returns-in-None-clause-value : goal.returns-in-None-clause-value
returns-in-None-clause-value c = rw (simple_text c.args.bytes.now c.in-None.ensures, c.new.ensures) refl

pub returns-in-None-clause-exact : goal.returns-in-None-clause-exact
returns-in-None-clause-exact c = (simple_text c.args.bytes.now c.in-None.ensures, c.new.ensures)

pub returns-in-None-clause-refused : goal.returns-in-None-clause-refused
returns-in-None-clause-refused c = λ err first. absurd (no_first false c.args.bytes.now c.in-None.ensures err first)

pub returns-in-Some-clause-value : goal.returns-in-Some-clause-value
returns-in-Some-clause-value c = rw (no_simple c.args.bytes.now c.in-Some.fault c.in-Some.ensures.1) refl

pub returns-in-Some-clause-exact : goal.returns-in-Some-clause-exact
returns-in-Some-clause-exact c = (λ made. not_both_ways _ (no_simple c.args.bytes.now c.in-Some.fault c.in-Some.ensures.1) made, c.in-Some.ensures.1)

pub returns-in-Some-clause-refused : goal.returns-in-Some-clause-refused
returns-in-Some-clause-refused c = λ err first. ap Err (one_first false c.args.bytes.now c.in-Some.fault err c.in-Some.ensures.1 first)
