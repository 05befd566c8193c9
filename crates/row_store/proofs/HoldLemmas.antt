-- What a hold goes on to know.
use Rattle.std.proofs.Common.{◌≡◌, inl, inr}
use Rattle.row_store.specs.declared.contents.Contents.{Contents}
use Rattle.row_store.specs.Inner.Holding.{AwaitsOne, IsChange, MayCome, MayWait}
use Rattle.row_store.specs.declared.guard.Guard.{Guard}
use Rattle.row_store.specs.declared.transaction.Transaction.{Transaction}

-- what may come may wait
come_waits : (seen : Contents) (t : Transaction) (c : Contents) → MayCome seen t c → MayWait seen t c
come_waits seen t c come =
    elim come [
      | inl same ↦ inl same
      | inr more ↦ elim more [ inl made ↦ inr (inl made) | inr taken ↦ inr (inr (inr taken)) ]
    ]

-- a change to which no answer came is awaited
pub awaits_one : (guard : Guard) (before after : Contents) (may : Contents → Type 0) (t : Transaction) →
    guard ≡ before.guard → IsChange before t → after ≡ before → ((c : Contents) → may c → MayCome before t c) →
    AwaitsOne guard after may
awaits_one guard before after may t guard_is change same come =
    rw same (record {
      guard_is = guard_is;
      change = t;
      is_change = change;
      waits = λ c may. come_waits before t c (come c may);
    })
