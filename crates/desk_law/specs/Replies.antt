-- Rules as lines: the first line that answers decides, and each other gives what the lines behind it need.
use Rattle.std.specs.Prelude.{◌≡◌, Bool, Option, None, Some, Result, Ok, Err, if◌then◌else◌}
use Rattle.sms_construct.specs.declared.reply.Reply.{Reply}
use Rattle.desk_law.specs.State.{DeskState}

-- what is found, and else this reply
abbrev pub found_or : {A : Type 0} → Reply → Option A → Result A Reply
found_or reply None = Err reply
found_or reply (Some found) = Ok found

-- this reply where the test holds
abbrev pub reply_if : Reply → Bool → Result (Unit {0}) Reply
reply_if reply holds = if holds then Err reply else Ok tt

-- the reply is this one, and nothing changes
pub record Leaves (s : DeskState) (answer reply : Reply) (after : DeskState) : Type 0 where
  pub reply_is : reply ≡ answer
  pub after_is : after ≡ s

-- the reply is this one, and this is the state after it
pub record Makes (next : DeskState) (answer reply : Reply) (after : DeskState) : Type 0 where
  pub reply_is : reply ≡ answer
  pub after_is : after ≡ next
