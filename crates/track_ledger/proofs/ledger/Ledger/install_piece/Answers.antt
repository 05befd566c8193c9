use Rattle.std.proofs.Common.{arith, ◌≡◌, ◌+◌, ◌-◌, ◌∷◌, ◌++◌, [], ap, subst, sym}
use Rattle.std.proofs.lemmas.List.Sums.{sum_by_push}
use Rattle.track_ledger.specs.declared.piece.Piece.{Piece}
use Rattle.track_ledger.specs.Extents.{LieInGaps, LiesInside}
use Rattle.track_ledger.specs.Inner.GapChanges.{gaps_without}
use Rattle.track_ledger.specs.Ledger.{IsLedgerOf, LedgerView, ledger_view}
use Rattle.track_ledger.proofs.KeptLemmas.{after, ledger-count, ledger-few, ledger-order, ledger-small, ledger-sum}
use Rattle.track_ledger.proofs.KeptLemmas.{ledger-times, settled, taken-after}
use Rattle.track_ledger.proofs.ledger.Ledger.install_piece.Goals as goal

pub take_piece-requires-clause-order : goal.take_piece-requires-clause-order
take_piece-requires-clause-order c = ledger-order c.self.invariant.held (ledger_view c.self.inside.capacity c.self.inside.extents c.self.inside.gaps) c.self.invariant.is

pub take_piece-requires-clause-inside : goal.take_piece-requires-clause-inside
take_piece-requires-clause-inside c = ledger-small c.self.invariant.held (ledger_view c.self.inside.capacity c.self.inside.extents c.self.inside.gaps) c.self.invariant.fits c.self.invariant.is

pub take_piece-requires-clause-room : goal.take_piece-requires-clause-room
take_piece-requires-clause-room c =
    let here = subst (λ (v : LedgerView). LiesInside v.capacity c.args.piece) (sym c.self.view_is) c.requires.inside in
    let in_gaps = subst (λ (v : LedgerView). LieInGaps v.gaps (c.args.piece ∷ [])) (sym c.self.view_is) c.requires.free in
    let spare_is : c.args.self.now.spare ≡ c.self.inside.gaps.room - 1 - c.self.inside.extents = ap (λ (v : LedgerView). v.spare) (sym c.self.view_is) in
    let count = ledger-count (c.self.invariant.held ++ c.args.piece ∷ []) (after c.self.inside.capacity (c.self.inside.extents + 1) (gaps_without c.args.piece c.self.inside.gaps.items)) c.self.invariant.some (taken-after c.self.invariant.held c.args.piece c.self.inside.capacity c.self.inside.extents c.self.inside.gaps c.self.invariant.is here in_gaps) in
    omega (arith, count, spare_is, c.requires.room)

pub overflow_add-self : goal.overflow_add-self
overflow_add-self c =
    let here = subst (λ (v : LedgerView). LiesInside v.capacity c.args.piece) (sym c.self.view_is) c.requires.inside in
    let in_gaps = subst (λ (v : LedgerView). LieInGaps v.gaps (c.args.piece ∷ [])) (sym c.self.view_is) c.requires.free in
    let within = here.1 in
    omega (arith, within, c.self.invariant.sum, c.self.invariant.fits, ledger-sum c.self.invariant.held (ledger_view c.self.inside.capacity c.self.inside.extents c.self.inside.gaps) c.self.invariant.some c.self.invariant.is, c.from.ensures)

pub overflow_add-self-2 : goal.overflow_add-self-2
overflow_add-self-2 c =
    let here = subst (λ (v : LedgerView). LiesInside v.capacity c.args.piece) (sym c.self.view_is) c.requires.inside in
    let in_gaps = subst (λ (v : LedgerView). LieInGaps v.gaps (c.args.piece ∷ [])) (sym c.self.view_is) c.requires.free in
    let few = ledger-few (c.self.invariant.held ++ c.args.piece ∷ []) (after c.self.inside.capacity (c.self.inside.extents + 1) (gaps_without c.args.piece c.self.inside.gaps.items)) c.self.invariant.some (taken-after c.self.invariant.held c.args.piece c.self.inside.capacity c.self.inside.extents c.self.inside.gaps c.self.invariant.is here in_gaps) in
    omega (arith, few, c.self.invariant.fits)

pub invariant_of-self : goal.invariant_of-self
invariant_of-self c =
    let here = subst (λ (v : LedgerView). LiesInside v.capacity c.args.piece) (sym c.self.view_is) c.requires.inside in
    let in_gaps = subst (λ (v : LedgerView). LieInGaps v.gaps (c.args.piece ∷ [])) (sym c.self.view_is) c.requires.free in
    let spare_is : c.args.self.now.spare ≡ c.self.inside.gaps.room - 1 - c.self.inside.extents = ap (λ (v : LedgerView). v.spare) (sym c.self.view_is) in record {
      held = c.self.invariant.held ++ c.args.piece ∷ [];
      is = settled (c.self.invariant.held ++ c.args.piece ∷ []) c.self.inside.capacity (c.self.inside.extents + 1) _ c.take_piece.new.gaps (taken-after c.self.invariant.held c.args.piece c.self.inside.capacity c.self.inside.extents c.self.inside.gaps c.self.invariant.is here in_gaps) c.take_piece.ensures.items;
      some = c.self.invariant.some;
      fits = c.self.invariant.fits;
      sum = omega (arith, c.self.invariant.sum, sum_by_push (λ (p : Piece). p.length) c.self.invariant.held c.args.piece, c.from.ensures);
      room = omega (arith, spare_is, c.requires.room, c.take_piece.ensures.room);
    }

pub returns-clause-held : goal.returns-clause-held
returns-clause-held c = λ held is.
    let here = subst (λ (v : LedgerView). LiesInside v.capacity c.args.piece) (sym c.self.view_is) c.requires.inside in
    let in_gaps = subst (λ (v : LedgerView). LieInGaps v.gaps (c.args.piece ∷ [])) (sym c.self.view_is) c.requires.free in
    let was = subst (λ (v : LedgerView). IsLedgerOf held v) (sym c.self.view_is) is in
    settled (held ++ c.args.piece ∷ []) c.self.inside.capacity (c.self.inside.extents + 1) _ c.take_piece.new.gaps (taken-after held c.args.piece c.self.inside.capacity c.self.inside.extents c.self.inside.gaps was here in_gaps) c.take_piece.ensures.items

pub returns-clause-gaps : goal.returns-clause-gaps
returns-clause-gaps c = λ track.
    let held = c.self.invariant.held in
    let was = subst (λ (v : LedgerView). IsLedgerOf held v) c.self.view_is c.self.invariant.is in
    ledger-times held c.args.piece c.args.self.now (ledger_view c.self.inside.capacity (c.self.inside.extents + 1) c.take_piece.new.gaps) track was (returns-clause-held c held was) (ap (λ (v : LedgerView). v.capacity) c.self.view_is)
