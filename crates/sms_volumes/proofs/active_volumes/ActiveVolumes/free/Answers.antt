use Rattle.std.proofs.Common.{◌∷◌, List, subst, sym}
use Rattle.track_ledger.specs.declared.piece.Piece.{Piece}
use Rattle.track_ledger.specs.Ledger.{Holds, IsLedgerOf}
use Rattle.sms_volumes.proofs.ExtentLemmas.{all-freed, all-freed-none, holds-at}
use Rattle.sms_volumes.proofs.active_volumes.ActiveVolumes.free.Goals as goal

pub release-requires : goal.release-requires
release-requires c =
    let x = c.index_mut-volume.result.now in
    subst (Holds x.ledger) (sym c.piece_of.ensures)
    (holds-at c.args.extent.now c.args.self.now.volumes.items c.in-Some.place x c.in-Some.ensures.within c.index_mut-volume.ensures.value c.in-Some.ensures.found c.requires.held)

pub returns-in-Some-clause-volumes : goal.returns-in-Some-clause-volumes
returns-in-Some-clause-volumes c =
    let x = c.index_mut-volume.result.now in
    let after = c.release.new.self in
    all-freed c.args.extent.now c.args.self.now.volumes.items c.in-Some.place x after c.in-Some.ensures.within c.index_mut-volume.ensures.value c.in-Some.ensures.found c.requires.apart c.release.ensures.capacity
    (subst (λ (p : Piece). (others : List Piece) → IsLedgerOf (p ∷ others) x.ledger → IsLedgerOf others after) c.piece_of.ensures c.release.ensures.held)

pub returns-in_default-clause-volumes : goal.returns-in_default-clause-volumes
returns-in_default-clause-volumes c = all-freed-none c.args.extent.now c.args.self.now.volumes.items c.in_default.ensures.found
