-- VARY (docs/manual/rules.md, "VARY").
use Rattle.std.specs.Prelude.{◌==◌, MatchResult}
use Rattle.sms_construct.specs.Status.{status_of_action}
use Rattle.sms_construct.specs.declared.action.Action.{Action}
use Rattle.sms_construct.specs.declared.reply.Reply.{Reply}
use Rattle.sms_construct.specs.declared.reply.Reply.TheVariants as replies
use Rattle.sms_construct.specs.declared.target.Target.{Target}
use Rattle.desk_law.specs.State.{DeskState, with_status}
use Rattle.desk_law.specs.Volumes.{times_target}
use Rattle.desk_law.specs.Replies.{reply_if, Leaves, Makes}

-- a storage group or a volume of the active configuration gets the status of the action; nothing else has one
abbrev pub VaryRule : DeskState → Target → Action → Reply → DeskState → Type 0
VaryRule s target action reply after =
    MatchResult (reply_if replies.UnknownName (times_target s.active target == 0))
    (λ _. Makes (with_status s target (status_of_action action))
    (replies.Varied target (status_of_action action)) reply after)
    (λ answer. Leaves s answer reply after)
