-- DISPLAY (docs/manual/rules.md, "DISPLAY").
use Rattle.std.specs.Prelude.{length, sum_by, Option, option_map, MatchResult}
use Rattle.sms_construct.specs.declared.reply.Reply.{Reply}
use Rattle.sms_construct.specs.declared.reply.Reply.TheVariants as replies
use Rattle.sms_construct.specs.declared.storage_group.StorGroup.{StorGroup}
use Rattle.sms_construct.specs.declared.target.Target.{Target}
use Rattle.sms_construct.specs.declared.target.Target.TheVariants as targets
use Rattle.sms_construct.specs.declared.view.View.{View}
use Rattle.sms_construct.specs.declared.view.View.TheVariants as views
use Rattle.sms_construct.specs.declared.vol_row.VolRow.{VolRow}
use Rattle.sms_construct.specs.declared.volume.VolumeDef.{VolumeDef}
use Rattle.desk_law.specs.State.{DeskState, set_named}
use Rattle.desk_law.specs.Extents.{held_on}
use Rattle.desk_law.specs.Statuses.{group_status, volume_status}
use Rattle.desk_law.specs.Volumes.{free_on, group_named, volume_named, volumes_of_group}
use Rattle.desk_law.specs.Replies.{found_or, Leaves}

-- a volume with its status, its tracks, those that are free, and the number of extents on it
abbrev pub shown_volume : DeskState → VolumeDef → VolRow
shown_volume s volume = record {
  volser = volume.volser;
  group = volume.group;
  status = volume_status s volume.volser;
  capacity = volume.tracks;
  free = free_on s volume;
  extents = length (held_on s volume.volser);
}

-- a storage group with its status, the number of its volumes, and their tracks together, all and the free ones
abbrev pub view_of_group : DeskState → StorGroup → View
view_of_group s group = views.Group group.name (group_status s group.name) (length (volumes_of_group s group.name))
    (sum_by (λ volume. volume.tracks) (volumes_of_group s group.name))
    (sum_by (free_on s) (volumes_of_group s group.name))

-- what is shown of a target, if it is there
abbrev pub view_of_target : DeskState → Target → Option View
view_of_target s (targets.Group name) = option_map (view_of_group s) (group_named s name)
view_of_target s (targets.Volume volser) =
    option_map (λ volume. views.Volume (shown_volume s volume)) (volume_named s volser)
view_of_target s (targets.Set dsn) = option_map views.Set (set_named dsn s.sets)

-- the reply where it isn't
abbrev pub reply_for_none : Target → Reply
reply_for_none (targets.Group name) = replies.UnknownName
reply_for_none (targets.Volume volser) = replies.UnknownName
reply_for_none (targets.Set dsn) = replies.NotFound

-- a storage group or a volume of the active configuration, or a catalogued data set, is shown; nothing changes
abbrev pub DisplayRule : DeskState → Target → Reply → DeskState → Type 0
DisplayRule s target reply after =
    MatchResult (found_or (reply_for_none target) (view_of_target s target))
    (λ view. Leaves s (replies.Shown view) reply after)
    (λ answer. Leaves s answer reply after)
