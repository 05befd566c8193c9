use Rattle.std.proofs.Common.{arith, ◌+◌, ◌-◌, ◌∷◌, subst, sym}
use Rattle.std.proofs.lemmas.List.Elements.{All-head}
use Rattle.std.proofs.lemmas.List.Sums.{sum_by-cons}
use Rattle.track_ledger.specs.declared.piece.Piece.{Piece}
use Rattle.track_ledger.specs.Extents.{LiesInside}
use Rattle.track_ledger.specs.Inner.GapChanges.{gaps_with}
use Rattle.track_ledger.specs.GapRule.{front_of}
use Rattle.track_ledger.specs.Ledger.{IsLedgerOf, LedgerView, ledger_view}
use Rattle.track_ledger.proofs.KeptLemmas.{after, cut-after, kept-granted, ledger-count, ledger-order, ledger-small}
use Rattle.track_ledger.proofs.KeptLemmas.{settled}
use Rattle.track_ledger.proofs.LineLemmas.{piece_of}
use Rattle.track_ledger.proofs.ledger.Ledger.cut.Goals as goal

pub overflow_add-freed : goal.overflow_add-freed
overflow_add-freed c =
    let here = subst (λ (v : LedgerView). IsLedgerOf (c.args.piece ∷ c.requires.held.others) v) (sym c.self.view_is) c.requires.held.is in
    let inside = All-head (LiesInside c.self.inside.capacity) c.args.piece c.requires.held.others here.inside in
    let within = inside.1 in omega (arith, within, c.self.invariant.fits, c.requires.less)

pub overflow_sub-self : goal.overflow_sub-self
overflow_sub-self c =
    let here = subst (λ (v : LedgerView). IsLedgerOf (c.args.piece ∷ c.requires.held.others) v) (sym c.self.view_is) c.requires.held.is in
    omega (arith, kept-granted _ _ _ _ (c.args.piece ∷ c.requires.held.others) c.self.invariant here, sum_by-cons (λ (p : Piece). p.length) c.args.piece c.requires.held.others, c.from.ensures)

pub give_piece-requires-clause-order : goal.give_piece-requires-clause-order
give_piece-requires-clause-order c = ledger-order c.self.invariant.held (ledger_view c.self.inside.capacity c.self.inside.extents c.self.inside.gaps) c.self.invariant.is

pub give_piece-requires-clause-inside : goal.give_piece-requires-clause-inside
give_piece-requires-clause-inside c =
    let here = subst (λ (v : LedgerView). IsLedgerOf (c.args.piece ∷ c.requires.held.others) v) (sym c.self.view_is) c.requires.held.is in
    ledger-small (front_of c.args.piece c.args.keep ∷ c.requires.held.others) (after c.self.inside.capacity c.self.inside.extents (gaps_with (piece_of (c.args.piece.start + c.args.keep) (c.args.piece.length - c.args.keep)) c.self.inside.gaps.items)) c.self.invariant.fits
    (cut-after c.args.piece c.args.keep c.requires.held.others c.self.inside.capacity c.self.inside.extents c.self.inside.gaps here c.requires.some c.requires.less)

pub give_piece-requires-clause-room : goal.give_piece-requires-clause-room
give_piece-requires-clause-room c =
    let here = subst (λ (v : LedgerView). IsLedgerOf (c.args.piece ∷ c.requires.held.others) v) (sym c.self.view_is) c.requires.held.is in
    let count = ledger-count (front_of c.args.piece c.args.keep ∷ c.requires.held.others) (after c.self.inside.capacity c.self.inside.extents (gaps_with (piece_of (c.args.piece.start + c.args.keep) (c.args.piece.length - c.args.keep)) c.self.inside.gaps.items)) c.self.invariant.some
    (cut-after c.args.piece c.args.keep c.requires.held.others c.self.inside.capacity c.self.inside.extents c.self.inside.gaps here c.requires.some c.requires.less) in
    omega (arith, count, c.self.invariant.room)

pub invariant_of-self : goal.invariant_of-self
invariant_of-self c =
    let here = subst (λ (v : LedgerView). IsLedgerOf (c.args.piece ∷ c.requires.held.others) v) (sym c.self.view_is) c.requires.held.is in
    let granted = kept-granted c.self.inside.capacity c.self.inside.granted c.self.inside.extents c.self.inside.gaps (c.args.piece ∷ c.requires.held.others) c.self.invariant here in
    let old = sum_by-cons (λ (p : Piece). p.length) c.args.piece c.requires.held.others in
    let new = sum_by-cons (λ (p : Piece). p.length) (front_of c.args.piece c.args.keep) c.requires.held.others in record {
      held = front_of c.args.piece c.args.keep ∷ c.requires.held.others;
      is = settled (front_of c.args.piece c.args.keep ∷ c.requires.held.others) c.self.inside.capacity c.self.inside.extents _ c.give_piece.new.gaps (cut-after c.args.piece c.args.keep c.requires.held.others c.self.inside.capacity c.self.inside.extents c.self.inside.gaps here c.requires.some c.requires.less) c.give_piece.ensures.items;
      some = c.self.invariant.some;
      fits = c.self.invariant.fits;
      sum = omega (arith, granted, old, new, c.from.ensures, c.requires.less);
      room = omega (arith, c.self.invariant.room, c.give_piece.ensures.room);
    }

pub returns-clause-held : goal.returns-clause-held
returns-clause-held c = λ others is.
    let here = subst (λ (v : LedgerView). IsLedgerOf (c.args.piece ∷ others) v) (sym c.self.view_is) is in
    settled (front_of c.args.piece c.args.keep ∷ others) c.self.inside.capacity c.self.inside.extents _ c.give_piece.new.gaps (cut-after c.args.piece c.args.keep others c.self.inside.capacity c.self.inside.extents c.self.inside.gaps here c.requires.some c.requires.less) c.give_piece.ensures.items
