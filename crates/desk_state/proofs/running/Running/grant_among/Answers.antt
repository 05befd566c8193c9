use Rattle.std.proofs.Common.{subst, arith}
use Rattle.sms_volumes.specs.Viewing.{IsPick, Picks}
use Rattle.desk_state.proofs.FewLemmas.{grant-few}
use Rattle.desk_state.proofs.running.Running.grant_among.Goals as goal

pub with_room-requires-clause-few : goal.with_room-requires-clause-few
with_room-requires-clause-few c =
    let some = c.requires.stands in
    let running = c.choose.new.self in
    let candidates = c.args.candidates.now in
    let asked = c.args.asked.now in
    let pick = c.in-Some.pick in
    let stand = c.choose.ensures.same some.state some.stands.volumes in
    let picks : Picks some.state running candidates asked pick = subst (IsPick some.state running candidates asked) c.in-Some.is (c.choose.ensures.pick some.state some.lawful some.stands.volumes) in
    grant-few some.state running pick.place picks.volume asked 0 pick.grant.items some.lawful stand c.requires.asked (omega arith) picks.at picks.granted

pub returns-in_err-with_room-in-Some-clause-same : goal.returns-in_err-with_room-in-Some-clause-same
returns-in_err-with_room-in-Some-clause-same c = λ s is. c.with_room.ensures.same s (record { activations = is.activations; active = is.active; volumes = c.choose.ensures.same s is.volumes; sets = is.sets })

pub returns-in_ok-with_room-in-Some-clause-same : goal.returns-in_ok-with_room-in-Some-clause-same
returns-in_ok-with_room-in-Some-clause-same c = λ s is. c.with_room.ensures.same s (record { activations = is.activations; active = is.active; volumes = c.choose.ensures.same s is.volumes; sets = is.sets })
