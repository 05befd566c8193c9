use Rattle.std.proofs.Common.{arith, ◌≡◌, ◌+◌, ◌-◌, subst, sym}
use Rattle.track_ledger.specs.Extents.{tracks_held}
use Rattle.track_ledger.specs.Ledger.{IsLedgerOf, LedgerView, ledger_view}
use Rattle.track_ledger.proofs.KeptLemmas.{kept-granted, ledger-sum}
use Rattle.track_ledger.proofs.ledger.Ledger.free.Goals as goal

pub overflow_sub-result : goal.overflow_sub-result
overflow_sub-result c =
    let i = c.self.invariant in
    omega (arith, i.sum, ledger-sum i.held (ledger_view c.self.inside.capacity c.self.inside.extents c.self.inside.gaps) i.some i.is, c.from.ensures)

pub returns-clause-gaps : goal.returns-clause-gaps
returns-clause-gaps c =
    let i = c.self.invariant in
    let rest : c.from.result - c.self.inside.granted ≡ tracks_held c.self.inside.gaps.items = omega (arith, i.sum, ledger-sum i.held (ledger_view c.self.inside.capacity c.self.inside.extents c.self.inside.gaps) i.some i.is, c.from.ensures) in
    subst (λ (v : LedgerView). c.from.result - c.self.inside.granted ≡ tracks_held v.gaps) c.self.view_is rest

pub returns-clause-held : goal.returns-clause-held
returns-clause-held c = λ held is.
    let here : IsLedgerOf held (ledger_view c.self.inside.capacity c.self.inside.extents c.self.inside.gaps) = subst (λ (v : LedgerView). IsLedgerOf held v) (sym c.self.view_is) is in
    let granted = kept-granted c.self.inside.capacity c.self.inside.granted c.self.inside.extents c.self.inside.gaps held c.self.invariant here in
    let sum = ledger-sum held (ledger_view c.self.inside.capacity c.self.inside.extents c.self.inside.gaps) c.self.invariant.some here in
    let rest : c.from.result - c.self.inside.granted + tracks_held held ≡ c.self.inside.capacity = omega (arith, granted, sum, c.from.ensures) in
    subst (λ (v : LedgerView). c.from.result - c.self.inside.granted + tracks_held held ≡ v.capacity) c.self.view_is rest
