-- EXTEND (docs/manual/rules.md, "EXTEND").
use Rattle.std.specs.Prelude.{ℕ, ◌≡◌, ◌==◌, ◌||◌, nat_lt, not, Bool, List, [], ◌∷◌, ◌++◌, length, filter, Option, None}
use Rattle.std.specs.Prelude.{Some, option_map, Result, Ok, MatchResult, MatchOption, MatchBool, if◌then◌else◌}
use Rattle.desk_common.specs.Steps.{◌⊳◌}
use Rattle.sms_construct.specs.declared.data_set.DataSet.{DataSet}
use Rattle.sms_construct.specs.declared.extent.Extent.{Extent}
use Rattle.sms_construct.specs.declared.reply.Reply.{Reply}
use Rattle.sms_construct.specs.declared.reply.Reply.TheVariants as replies
use Rattle.sms_construct.specs.declared.volume.VolumeDef.{VolumeDef}
use Rattle.sms_construct.specs.declared.why_no_extend.WhyNoExtend.TheVariants as reasons
use Rattle.track_ledger.specs.declared.piece.Piece.{Piece}
use Rattle.desk_law.specs.State.{DeskState, set_named, with_set}
use Rattle.desk_law.specs.Extents.{extents_at, is_among, pieces_on, volumes_of, with_extents}
use Rattle.desk_law.specs.Statuses.{bars_group_growth, bars_volume_growth, group_status, volume_status}
use Rattle.desk_law.specs.Volumes.{volume_named, volumes_of_group}
use Rattle.desk_law.specs.Replies.{found_or, reply_if, Leaves, Makes}
use Rattle.desk_law.specs.Candidates.{Ask, grant_on, Chosen}

-- the volume of the first extent
abbrev pub first_volume : DeskState → List Extent → Option VolumeDef
first_volume s [] = None
first_volume s (extent ∷ extents) = volume_named s extent.volser

-- the volume of the last extent
abbrev pub last_volume : DeskState → List Extent → Option VolumeDef
last_volume s [] = None
last_volume s (extent ∷ []) = volume_named s extent.volser
last_volume s (extent ∷ next ∷ extents) = last_volume s (next ∷ extents)

-- what is asked for it: the secondary quantity, and no storage group comes before another
abbrev pub ask_more : DataSet → Ask
ask_more set = record { unit = set.unit; tracks = set.secondary; volumes = set.volumes; eattr = set.eattr; tiers = [] }

-- the volume's storage group or the volume itself gives no further tracks
abbrev pub bars_growth : DeskState → VolumeDef → Bool
bars_growth s volume =
    bars_group_growth (group_status s volume.group) || bars_volume_growth (volume_status s volume.volser)

-- what a volume on which the data set lies grants it
abbrev pub growth_on : DeskState → DataSet → Option VolumeDef → Option (List Extent)
growth_on s set None = None
growth_on s set (Some volume) =
    if bars_growth s volume then None
    else option_map (extents_at volume.volser)
    (grant_on s volume (ask_more set) (length (pieces_on volume.volser set.extents)))

-- the volumes of the storage group of this one on which the data set doesn't lie
abbrev pub others_of : DeskState → DataSet → Option VolumeDef → List VolumeDef
others_of s set None = []
others_of s set (Some first) =
    filter (λ volume. not (is_among volume.volser (volumes_of set.extents))) (volumes_of_group s first.group)

-- the data set has these extents too
abbrev pub extended : DataSet → List Extent → DataSet
extended set added = with_extents set set.used (set.extents ++ added)

-- the data set has them from now on
abbrev pub Extends : DeskState → DataSet → List Extent → Reply → DeskState → Type 0
Extends s set added reply after = Makes (with_set s (extended set added)) (replies.Extended added) reply after

-- a further volume grants the secondary quantity
pub record ExtendsOn (s : DeskState) (set : DataSet) (volume : VolumeDef) (reply : Reply)
    (after : DeskState) : Type 0 where
  pub pieces : List Piece
  pub granted : grant_on s volume (ask_more set) 0 ≡ Some pieces
  pub extends : Extends s set (extents_at volume.volser pieces) reply after

-- the lines up to the question where the tracks come from: no such data set; no secondary quantity
abbrev pub extend_case : DeskState → List ℕ → Result DataSet Reply
extend_case s dsn =
    found_or replies.NotFound (set_named dsn s.sets) ⊳ λ set.
    reply_if (replies.NoExtend reasons.Secondary) (set.secondary == 0) ⊳ λ _.
    Ok set

-- where the data set may lie on more volumes a further one grants the tracks, if one can
abbrev pub FurtherRule : DeskState → DataSet → Reply → DeskState → Type 0
FurtherRule s set reply after =
    MatchBool (nat_lt (length (volumes_of set.extents)) set.volumes)
    (Chosen s (ask_more set) (others_of s set (first_volume s set.extents))
    (Leaves s (replies.NoExtend reasons.Room) reply after)
    (λ volume. ExtendsOn s set volume reply after))
    (Leaves s (replies.NoExtend reasons.Room) reply after)

-- the last volume grants the secondary quantity, or else a further one
abbrev pub ExtendRule : DeskState → List ℕ → Reply → DeskState → Type 0
ExtendRule s dsn reply after =
    MatchResult (extend_case s dsn)
    (λ set. MatchOption (growth_on s set (last_volume s set.extents)) (FurtherRule s set reply after)
    (λ added. Extends s set added reply after))
    (λ answer. Leaves s answer reply after)
