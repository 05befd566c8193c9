-- What a hold knows of the contents.
use Rattle.std.specs.Prelude.{◌≡◌, ◌⊎◌, true}
use Rattle.row_store.specs.declared.guard.Guard.{Guard}
use Rattle.row_store.specs.declared.passing.Passed.{Passed}
use Rattle.row_store.specs.declared.passing.Passed.TheVariants as passes
use Rattle.row_store.specs.declared.sending.Sent.{Sent}
use Rattle.row_store.specs.declared.sending.Sent.TheVariants as sends
use Rattle.row_store.specs.declared.standing.Standing.{Standing}
use Rattle.row_store.specs.declared.standing.Standing.TheVariants as stands
use Rattle.row_store.specs.declared.transaction.Transaction.{Transaction}
use Rattle.row_store.specs.declared.contents.Contents.{Contents}
use Rattle.row_store.specs.Contents.{IsTaken, are_absent, contents_after, following, passing}
use Rattle.row_store.specs.Holds.{IsSeen}

-- it is what was seen with the transaction, which could be made
abbrev pub IsWith : Contents → Transaction → Contents → Type 0
IsWith seen t c = (c ≡ contents_after t seen) × (are_absent t.absent seen.rows ≡ true)

-- it is what was seen, with the transaction or without, or another desk took the prefix since
abbrev pub MayCome : Contents → Transaction → Contents → Type 0
MayCome seen t c = (c ≡ seen) ⊎ (IsWith seen t c ⊎ IsTaken seen.guard c)

-- the same rows under the guard behind a change that is passed over
abbrev pub passed_over : Contents → Contents
passed_over seen = record { guard = passing seen.guard; rows = seen.rows }

-- so it is, or it was passed over
abbrev pub MayWait : Contents → Transaction → Contents → Type 0
MayWait seen t c = (c ≡ seen) ⊎ (IsWith seen t c ⊎ ((c ≡ passed_over seen) ⊎ IsTaken seen.guard c))

-- the transaction is a change of what was seen
pub record IsChange (seen : Contents) (t : Transaction) : Type 0 where
  pub expects : t.expects ≡ seen.guard
  pub next : t.next ≡ following seen.guard

-- one change may come, and nothing else
pub record AwaitsOne (guard : Guard) (seen : Contents) (may : Contents → Type 0) : Type 0 where
  pub guard_is : guard ≡ seen.guard
  pub change : Transaction
  pub is_change : IsChange seen change
  pub waits : (c : Contents) → may c → MayWait seen change c

-- nothing may come
pub record AwaitsNone (guard : Guard) (seen : Contents) (may : Contents → Type 0) : Type 0 where
  pub guard_is : guard ≡ seen.guard
  pub alone : (c : Contents) → may c → IsSeen seen c

-- what a hold knows: free, it is what was seen; waiting, one change may come; closed, nothing
abbrev pub Knows : Standing → Guard → Contents → (Contents → Type 0) → Type 0
Knows stands.Free guard seen may = AwaitsNone guard seen may
Knows stands.Waiting guard seen may = AwaitsOne guard seen may
Knows stands.Behind guard seen may = Unit {0}
Knows stands.Taken guard seen may = Unit {0}

-- how a transaction ended that was sent until it was answered: made, not made, still without an answer, or another desk
-- took the prefix
abbrev pub Sends : Contents → Contents → (Contents → Type 0) → Transaction → Sent → Type 0
Sends before after may t sends.Made = IsWith before t after × ((c : Contents) → may c → IsSeen after c)
Sends before after may t sends.Unmade = (after ≡ before) × ((c : Contents) → may c → IsSeen before c)
Sends before after may t sends.Unknown = (after ≡ before) × ((c : Contents) → may c → MayCome before t c)
Sends before after may t sends.Taken = (c : Contents) → may c → IsTaken before.guard c

-- how the passing over of a change ended: nothing may come any more, it may still, it came, or another desk took the
-- prefix
abbrev pub Passes : Contents → Contents → (Contents → Type 0) → Passed → Type 0
Passes before after may (passes.Free guard) = (after ≡ passed_over before) × AwaitsNone guard after may
Passes before after may passes.Waiting = (after ≡ before) × AwaitsOne before.guard after may
Passes before after may passes.Behind = Unit {0}
Passes before after may passes.Taken = (c : Contents) → may c → IsTaken before.guard c

-- what a passing over may leave: what could be before it, the same rows, or what another desk makes of the prefix
abbrev pub IsPassedLeft : Contents → (Contents → Type 0) → Contents → Type 0
IsPassedLeft seen could c = could c ⊎ ((c.rows ≡ seen.rows) ⊎ IsTaken seen.guard c)

-- the prefix was taken: rows that could be stand under this guard, or another desk took it behind that
pub record IsUnder (could : Contents → Type 0) (guard : Guard) (c : Contents) : Type 0 where
  pub guard_is : c.guard ≡ guard
  pub before : Contents
  pub could_be : could before
  pub rows : c.rows ≡ before.rows

abbrev pub IsClaimed : (Contents → Type 0) → Guard → Contents → Type 0
IsClaimed could guard c = IsUnder could guard c ⊎ IsTaken guard c
