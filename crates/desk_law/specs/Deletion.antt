-- DELETE (docs/manual/rules.md, "DELETE").
use Rattle.std.specs.Prelude.{ℕ, List, MatchResult}
use Rattle.sms_construct.specs.declared.reply.Reply.{Reply}
use Rattle.sms_construct.specs.declared.reply.Reply.TheVariants as replies
use Rattle.desk_law.specs.State.{DeskState, set_named, without_name}
use Rattle.desk_law.specs.Extents.{tracks_of_set}
use Rattle.desk_law.specs.Replies.{found_or, Leaves, Makes}

-- the data set is catalogued no more, and all its tracks are free
abbrev pub DeleteRule : DeskState → List ℕ → Reply → DeskState → Type 0
DeleteRule s dsn reply after =
    MatchResult (found_or replies.NotFound (set_named dsn s.sets))
    (λ set. Makes (without_name s dsn) (replies.Deleted (tracks_of_set set)) reply after)
    (λ answer. Leaves s answer reply after)
