-- What contracts see of a hold, and what its calls promise.
use Rattle.std.specs.Prelude.{◌≡◌, ◌⊎◌, ℕ, Bool, true, false, List}
use Rattle.row_store.specs.declared.row.Row.{Row}
use Rattle.row_store.specs.declared.standing.Standing.{Standing}
use Rattle.row_store.specs.declared.standing.Standing.TheVariants.{Free, Waiting, Behind, Taken}
use Rattle.row_store.specs.declared.write.Write.{Write}
use Rattle.row_store.specs.declared.contents.Contents.{Contents}
use Rattle.row_store.specs.Contents.{IsTaken, are_absent, rows_after}

-- the store, and how the hold stands
pub record HoldView (S : Type 0) : Type 0 where
  pub store : S
  pub standing : Standing

-- nothing is written any more
abbrev pub is_closed : Standing → Bool
is_closed Free = false
is_closed Waiting = false
is_closed Behind = true
is_closed Taken = true

-- it is what was seen, or another desk took the prefix since
abbrev pub IsSeen : Contents → Contents → Type 0
IsSeen seen c = (c ≡ seen) ⊎ IsTaken seen.guard c

-- what the store showed last has the change, of the same epoch; nothing else may be but that, or what another desk makes
-- of the prefix
pub record IsMadeAlone (before after : Contents) (may : Contents → Type 0) (keys : List (List ℕ)) (writes : List Write) : Type 0 where
  pub absent : are_absent keys before.rows ≡ true
  pub rows : after.rows ≡ rows_after writes before.rows
  pub epoch : after.guard.epoch ≡ before.guard.epoch
  pub alone : (c : Contents) → may c → (c.rows ≡ after.rows) ⊎ IsTaken before.guard c

-- the rows are those with the change, which could be made
abbrev pub HasChange : Contents → List (List ℕ) → List Write → Contents → Type 0
HasChange seen keys writes c = (c.rows ≡ rows_after writes seen.rows) × (are_absent keys seen.rows ≡ true)

-- what a commit may leave: what could be before it, the rows that were seen, these with the change, or what another desk
-- makes of the prefix
abbrev pub IsLeft : Contents → (Contents → Type 0) → List (List ℕ) → List Write → Contents → Type 0
IsLeft seen could keys writes c =
    could c ⊎ ((c.rows ≡ seen.rows) ⊎ (HasChange seen keys writes c ⊎ IsTaken seen.guard c))

-- the rows that are shown stood there before
abbrev pub Stood : (Contents → Type 0) → List Row → Type 0
Stood could rows = (c : Contents) × could c × (c.rows ≡ rows)
