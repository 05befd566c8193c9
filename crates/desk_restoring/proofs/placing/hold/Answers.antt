use Rattle.std.proofs.Common.{◌∷◌, [], arith}
use Rattle.desk_law.specs.Extents.{piece_of}
use Rattle.desk_restoring.proofs.HoldLemmas.{all-held, free-at, serial-at, volume-there}
use Rattle.desk_restoring.proofs.placing.hold.Goals as goal

pub unreachable-requires : goal.unreachable-requires
unreachable-requires c = volume-there c.args.extent.now c.args.volumes.now c.requires c.in_default.ensures.found

pub install-requires : goal.install-requires
install-requires c =
    c.in_ok-reserve.ensures.ready (piece_of c.args.extent.now ∷ []) (omega arith)
    (free-at c.args.extent.now c.args.volumes.now c.in-Some.place c.requires c.in-Some.ensures.within c.in-Some.ensures.found)

pub returns : goal.returns
returns c = λ s set lawful are at.
    let e = c.args.extent.now in
    let running = c.args.volumes.now in
    let roomy = c.reserve.new.self in
    let ready = c.in_ok-reserve.ensures.ready (piece_of e ∷ []) (omega arith) (free-at e running c.in-Some.place c.requires c.in-Some.ensures.within c.in-Some.ensures.found) in
    all-held s set e roomy c.install.new.self c.in-Some.place ready.volume lawful (c.in_ok-reserve.ensures.same s are) ready.at
    (serial-at e.volser running roomy c.in-Some.place ready.volume c.in-Some.ensures.within c.in-Some.ensures.found c.in_ok-reserve.ensures.named ready.at) at c.install.ensures
