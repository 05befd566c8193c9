-- What always holds of what a store in memory holds.
use Rattle.std.specs.Prelude.{◌≡◌, true}
use Rattle.row_store.specs.declared.contents.Contents.{Contents}
use Rattle.row_store.specs.declared.engine.Engine.{Engine}
use Rattle.row_store.specs.declared.transaction.Transaction.{Transaction}
use Rattle.row_store.specs.Contents.{IsAfter, are_absent}
use Rattle.row_store.specs.Memory.{IsOneOf, MayHold}
use Rattle.row_store.specs.Outcomes.{IsLater}

-- what it holds may come after what was seen, and so does what the changes to which no answer came make of it
pub record Stands (e : Engine) : Type 0 where
  pub later : IsLater e.seen e.held
  pub late : (c : Contents) → IsOneOf e.late c → IsAfter e.seen.guard c.guard

-- what was seen stays, and nothing may be that couldn't
pub record Happens (old new : Engine) : Type 0 where
  pub stands : Stands new
  pub seen : new.seen ≡ old.seen
  pub may : (c : Contents) → MayHold new c → MayHold old c

-- the guard that the transaction expects is there, and none of its absent keys
pub record CanBeMade (t : Transaction) (c : Contents) : Type 0 where
  pub expected : c.guard ≡ t.expects
  pub absent : are_absent t.absent c.rows ≡ true
