use Rattle.std.proofs.Common.{◌∷◌, List, subst, sym}
use Rattle.track_ledger.specs.declared.piece.Piece.{Piece}
use Rattle.track_ledger.specs.GapRule.{front_of}
use Rattle.track_ledger.specs.Ledger.{Holds, IsLedgerOf}
use Rattle.sms_volumes.proofs.ExtentLemmas.{all-cut, all-cut-none, all-whole, holds-at}
use Rattle.sms_volumes.proofs.active_volumes.ActiveVolumes.cut.Goals as goal

pub returns-then-part-extent-clause-volumes : goal.returns-then-part-extent-clause-volumes
returns-then-part-extent-clause-volumes c = all-whole c.args.extent.now c.args.part.now c.args.self.now.volumes.items c.requires.part c.if-part-extent.true

pub cut-requires-clause-held : goal.cut-requires-clause-held
cut-requires-clause-held c =
    let x = c.index_mut-volume.result.now in
    subst (Holds x.ledger) (sym c.piece_of.ensures)
    (holds-at c.args.extent.now c.args.self.now.volumes.items c.in-Some.place x c.in-Some.ensures.within c.index_mut-volume.ensures.value c.in-Some.ensures.found c.requires.held)

pub returns-in-Some-clause-volumes : goal.returns-in-Some-clause-volumes
returns-in-Some-clause-volumes c =
    let x = c.index_mut-volume.result.now in
    let after = c.cut.new.self in
    let keep = c.args.part.now.length in
    all-cut c.args.extent.now c.args.part.now c.args.self.now.volumes.items c.in-Some.place x after c.requires.part c.in-Some.ensures.within c.index_mut-volume.ensures.value c.in-Some.ensures.found c.requires.apart
    c.cut.ensures.capacity
    (subst (λ (p : Piece). (others : List Piece) → IsLedgerOf (p ∷ others) x.ledger → IsLedgerOf (front_of p keep ∷ others) after) c.piece_of.ensures c.cut.ensures.held)

pub returns-in_default-clause-volumes : goal.returns-in_default-clause-volumes
returns-in_default-clause-volumes c = all-cut-none c.args.extent.now c.args.part.now c.args.self.now.volumes.items c.requires.part c.in_default.ensures.found
