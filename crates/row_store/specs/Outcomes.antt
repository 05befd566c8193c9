-- What a store's answers say of the contents.
use Rattle.std.specs.Prelude.{◌≡◌, ◌⊎◌, false, true}
use Rattle.row_store.specs.declared.guard.Guard.{Guard}
use Rattle.row_store.specs.declared.store.Outcome.{Outcome}
use Rattle.row_store.specs.declared.store.Outcome.TheVariants.{Done, Refused, Failed, Unknown}
use Rattle.row_store.specs.declared.transaction.Transaction.{Transaction}
use Rattle.row_store.specs.declared.contents.Contents.{Contents}
use Rattle.row_store.specs.Contents.{IsFrom, IsTaken, are_absent, contents_after}

-- it is what the transaction makes of contents that could be, have the guard that it expects and none of its absent keys
pub record IsMade (could : Contents → Type 0) (t : Transaction) (c : Contents) : Type 0 where
  pub before : Contents
  pub could_be : could before
  pub expected : before.guard ≡ t.expects
  pub absent : are_absent t.absent before.rows ≡ true
  pub is : c ≡ contents_after t before

-- what may be behind a transaction, where these could be before it. Done: it was made, or another desk took the prefix
-- behind it. Refused: it wasn't, and what has the guard that it expects has one of its absent keys. Failed: it wasn't.
-- Unknown: it may be made then, at any later moment, or never
abbrev pub Leaves : (Contents → Type 0) → Transaction → Outcome → Contents → Type 0
Leaves could t Done c = IsMade could t c ⊎ IsTaken t.next c
Leaves could t Refused c = could c × (c.guard ≡ t.expects → are_absent t.absent c.rows ≡ false)
Leaves could t Failed c = could c
Leaves could t Unknown c = could c ⊎ IsMade could t c

-- what was seen last, behind a transaction: where it was done, what it makes of what was seen before, which had none of
-- its absent keys; else what was seen before
abbrev pub Sees : Contents → Transaction → Outcome → Contents → Type 0
Sees seen t Done now = (now ≡ contents_after t seen) × (are_absent t.absent seen.rows ≡ true)
Sees seen t Refused now = now ≡ seen
Sees seen t Failed now = now ≡ seen
Sees seen t Unknown now = now ≡ seen

-- what is seen could be, and has this guard
pub record IsFound (could : Contents → Type 0) (seen : Contents) (guard : Guard) : Type 0 where
  pub could_be : could seen
  pub guard_is : seen.guard ≡ guard

-- what may come after what was seen: its guard may, and the same guard stands over the same rows
pub record IsLater (seen c : Contents) : Type 0 where
  pub guard : IsFrom seen.guard c.guard
  pub same : c.guard ≡ seen.guard → c ≡ seen
