-- What a decision owes: its reply and what it does are by the rule.
use Rattle.std.specs.Prelude.{ℕ, ◌≡◌, true, List}
use Rattle.sms_construct.specs.declared.reply.Reply.{Reply}
use Rattle.sms_construct.specs.declared.reply.Reply.TheVariants as replies
use Rattle.sms_construct.specs.declared.request.Op.{Op}
use Rattle.sms_construct.specs.declared.request.Op.TheVariants as ops
use Rattle.desk_law.specs.State.{DeskState}
use Rattle.desk_records.specs.Effects.{state_with, tells_nothing}
use Rattle.desk_state.specs.Deeds.{Fits, config_of, effect_of}
use Rattle.desk_state.specs.declared.decision.Decision.{Decision}
use Rattle.desk_state.specs.declared.deed.Deed.{Deed}
use Rattle.desk_state.specs.declared.deed.Deed.TheVariants as deeds
use Rattle.desk_state.specs.declared.running.Running.{Running}

-- the reply tells what the deed does
abbrev pub Tells : Deed → Reply → Type 0
Tells deeds.Nothing reply = tells_nothing reply ≡ true
Tells (deeds.Get set place pieces) reply = tells_nothing reply ≡ true
Tells (deeds.Note set) reply = tells_nothing reply ≡ true
Tells (deeds.Keep set) reply = tells_nothing reply ≡ true
Tells (deeds.Remove dsn) reply = tells_nothing reply ≡ true
Tells (deeds.Become count config volumes statuses) reply = reply ≡ replies.Activated count
Tells (deeds.Vary target status) reply = tells_nothing reply ≡ true
Tells (deeds.Raise job floor) reply = reply ≡ replies.Purged job floor

-- the decision is by the rule, its reply tells what is done, and its deed fits this state
pub record Answers (s : DeskState) (running : Running) (Rule : Reply → DeskState →
    Type 0) (made : Decision) : Type 0 where
  pub rule : Rule made.reply (state_with s (effect_of made.deed) (config_of made.deed))
  pub tells : Tells made.deed made.reply
  pub fits : Fits s running made.deed

-- this is the floor before of the job that a PURGE names
abbrev pub IsOldFloor : (List ℕ → ℕ) → Op → ℕ → Type 0
IsOldFloor floors (ops.Alloc alloc) old = Unit {0}
IsOldFloor floors (ops.Activate deck) old = Unit {0}
IsOldFloor floors (ops.Extend dsn) old = Unit {0}
IsOldFloor floors (ops.Delete dsn) old = Unit {0}
IsOldFloor floors (ops.Used dsn tracks) old = Unit {0}
IsOldFloor floors (ops.Release dsn) old = Unit {0}
IsOldFloor floors (ops.Display target) old = Unit {0}
IsOldFloor floors (ops.Vary target action) old = Unit {0}
IsOldFloor floors (ops.Purge job floor) old = floors job ≡ old
