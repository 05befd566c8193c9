-- PURGE (docs/manual/rules.md, "PURGE").
use Rattle.std.specs.Prelude.{ℕ, List, max}
use Rattle.sms_construct.specs.declared.reply.Reply.{Reply}
use Rattle.sms_construct.specs.declared.reply.Reply.TheVariants as replies
use Rattle.desk_law.specs.State.{DeskState}
use Rattle.desk_law.specs.Replies.{Leaves}

-- the floor of the job becomes this one, where the old one isn't greater; it is never refused, and the state stays
abbrev pub PurgeRule : DeskState → ℕ → List ℕ → ℕ → Reply → DeskState → Type 0
PurgeRule s old_floor job floor reply after = Leaves s (replies.Purged job (max old_floor floor)) reply after
