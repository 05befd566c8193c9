-- Epochs rise.
use Rattle.std.proofs.Common.{◌≤◌, ◌++◌, ◌∷◌, [], List, inl, inr, arith, ap}
use Rattle.row_store.specs.Histories.{IsHistory, IsRule}
use Rattle.row_store.specs.declared.contents.Contents.{Contents}
use Rattle.row_store.specs.Contents.{contents_after}
use Rattle.row_store.specs.declared.transaction.Transaction.{Transaction}

-- the epoch of a transaction doesn't fall
rule-rises : (t : Transaction) → IsRule t → t.expects.epoch ≤ t.next.epoch
rule-rises t rule =
    elim rule [
      | inl is ↦ let e = ap (λ g. g.epoch) is in omega arith
      | inr more ↦ elim more [
        | inl is ↦ let e = ap (λ g. g.epoch) is in omega arith
        | inr is ↦ let e = ap (λ g. g.epoch) is in omega arith
      ]
    ]

-- no later transaction expects a lower epoch
pub epochs-rise : (c : Contents) (between : List Transaction) (u : Transaction) (more : List Transaction) →
    IsHistory c (between ++ u ∷ more) → c.guard.epoch ≤ u.expects.epoch
epochs-rise c [] u more h = let e = ap (λ g. g.epoch) h.0 in omega arith
epochs-rise c (t ∷ ts) u more h =
    let e = ap (λ g. g.epoch) h.0 in
    let r = rule-rises t h.1.0 in
    let rest = epochs-rise (contents_after t c) ts u more h.1.1 in
    omega arith

-- behind a transaction no one expects an epoch below its own
pub behind_one : (c : Contents) (before : List Transaction) (t : Transaction) (between : List Transaction) (u : Transaction) (more : List Transaction) →
    IsHistory c (before ++ t ∷ (between ++ u ∷ more)) → t.next.epoch ≤ u.expects.epoch
behind_one c [] t between u more h = epochs-rise (contents_after t c) between u more h.1.1
behind_one c (b ∷ bs) t between u more h = behind_one (contents_after b c) bs t between u more h.1.1
