-- Which changes a keeper takes.
use Rattle.std.specs.Prelude.{ℕ, ◌≡◌, Bool, true, false, List, Option, Some, None, IsSome}
use Rattle.sms_construct.specs.declared.request.Op.{Op}
use Rattle.sms_construct.specs.declared.request.Op.TheVariants as ops
use Rattle.sms_construct.specs.declared.target.Target.{Target}
use Rattle.sms_construct.specs.declared.target.Target.TheVariants as targets
use Rattle.sms_keeper.specs.declared.change.Change.{Change}
use Rattle.sms_keeper.specs.declared.effect.Effect.{Effect}
use Rattle.sms_keeper.specs.declared.effect.Effect.TheVariants as effects
use Rattle.std.specs.List.{list_all}

-- the deck of an op that activates one
abbrev pub deck_of : Op → Option (List ℕ)
deck_of (ops.Alloc alloc) = None
deck_of (ops.Activate deck) = Some deck
deck_of (ops.Extend dsn) = None
deck_of (ops.Delete dsn) = None
deck_of (ops.Used dsn tracks) = None
deck_of (ops.Release dsn) = None
deck_of (ops.Display target) = None
deck_of (ops.Vary target action) = None
deck_of (ops.Purge job floor) = None

-- a storage group or a volume, which have a status
abbrev pub has_status : Target → Bool
has_status (targets.Group group) = true
has_status (targets.Volume volser) = true
has_status (targets.Set dsn) = false

-- an activation comes with a request for one, and a status is that of a storage group or a volume
abbrev pub SuitsOp : Op → Effect → Type 0
SuitsOp op effects.Nothing = Unit {0}
SuitsOp op (effects.PutSet set) = Unit {0}
SuitsOp op (effects.DropSet dsn) = Unit {0}
SuitsOp op (effects.Activated count statuses) =
    IsSome (deck_of op) × (list_all (λ row. has_status row.target) statuses ≡ true)
SuitsOp op (effects.SetStatus target status) = has_status target ≡ true
SuitsOp op (effects.Floor job floor) = Unit {0}

-- a change that a keeper takes
abbrev pub Suits : Change → Type 0
Suits change = SuitsOp change.request.op change.effect
