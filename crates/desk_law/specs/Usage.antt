-- USED (docs/manual/rules.md, "USED").
use Rattle.std.specs.Prelude.{ℕ, List, nat_lt, Result, Ok, MatchResult}
use Rattle.desk_common.specs.Steps.{◌⊳◌}
use Rattle.sms_construct.specs.declared.data_set.DataSet.{DataSet}
use Rattle.sms_construct.specs.declared.reply.Reply.{Reply}
use Rattle.sms_construct.specs.declared.reply.Reply.TheVariants as replies
use Rattle.desk_law.specs.State.{DeskState, set_named, with_set}
use Rattle.desk_law.specs.Extents.{tracks_of_set, with_extents}
use Rattle.desk_law.specs.Replies.{found_or, reply_if, Leaves, Makes}

-- no such data set; more than was granted
abbrev pub used_case : DeskState → List ℕ → ℕ → Result DataSet Reply
used_case s dsn tracks =
    found_or replies.NotFound (set_named dsn s.sets) ⊳ λ set.
    reply_if (replies.PastGrant (tracks_of_set set)) (nat_lt (tracks_of_set set) tracks) ⊳ λ _.
    Ok set

-- the number of tracks that the data set uses is noted
abbrev pub UsedRule : DeskState → List ℕ → ℕ → Reply → DeskState → Type 0
UsedRule s dsn tracks reply after =
    MatchResult (used_case s dsn tracks)
    (λ set. Makes (with_set s (with_extents set tracks set.extents)) replies.Noted reply after)
    (λ answer. Leaves s answer reply after)
