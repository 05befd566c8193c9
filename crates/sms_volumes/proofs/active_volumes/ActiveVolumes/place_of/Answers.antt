use Rattle.std.proofs.Common.{◌∙◌, sym, arith, rules}
use Rattle.sms_volumes.proofs.ViewLemmas.{place-found}
use Rattle.sms_volumes.proofs.active_volumes.ActiveVolumes.place_of.Goals as goal

pub returns-then-eq-clause-found : goal.returns-then-eq-clause-found
returns-then-eq-clause-found c =
    sym c.loop-place.invariant ∙ place-found c.args.volser.now c.args.self.now.volumes.items c.loop-place.place c.index.result.now (omega (arith, c.loop-place-test.true, c.len-place-end.ensures)) (search rules) (search rules)
