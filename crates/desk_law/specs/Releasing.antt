-- RELEASE (docs/manual/rules.md, "RELEASE").
use Rattle.std.specs.Prelude.{ℕ, ◌-◌, List, max, MatchResult}
use Rattle.sms_construct.specs.Quantities.{rounded_up, tracks_in}
use Rattle.sms_construct.specs.declared.data_set.DataSet.{DataSet}
use Rattle.sms_construct.specs.declared.reply.Reply.{Reply}
use Rattle.sms_construct.specs.declared.reply.Reply.TheVariants as replies
use Rattle.desk_law.specs.State.{DeskState, set_named, with_set}
use Rattle.desk_law.specs.Extents.{front_tracks, tracks_of_set, with_extents}
use Rattle.desk_law.specs.Replies.{found_or, Leaves, Makes}

-- the tracks that a data set is to keep: those that it uses, at least one, in whole units of its space
abbrev pub tracks_kept : DataSet → ℕ
tracks_kept set = rounded_up (tracks_in set.unit) (max set.used 1)

-- the data set with the first of its tracks, in the order of its extents
abbrev pub kept_of : DataSet → DataSet
kept_of set = with_extents set set.used (front_tracks (tracks_kept set) set.extents)

-- the other tracks are free
abbrev pub ReleaseRule : DeskState → List ℕ → Reply → DeskState → Type 0
ReleaseRule s dsn reply after =
    MatchResult (found_or replies.NotFound (set_named dsn s.sets))
    (λ set. Makes (with_set s (kept_of set))
    (replies.Released (tracks_of_set set - tracks_of_set (kept_of set))) reply after)
    (λ answer. Leaves s answer reply after)
