-- The present statuses as the tables have them.
use Rattle.std.specs.Prelude.{List, ◌++◌, map}
use Rattle.sms_construct.specs.declared.target.Target.TheVariants as targets
use Rattle.sms_keeper.specs.declared.status_row.StatusRow.{StatusRow}
use Rattle.sms_volumes.specs.declared.active_group.ActiveGroup.{ActiveGroup}
use Rattle.sms_volumes.specs.declared.active_volume.ActiveVolume.{ActiveVolume}
use Rattle.sms_volumes.specs.declared.active_volumes.ActiveVolumes.{ActiveVolumes}

-- the row of a storage group
abbrev pub group_row : ActiveGroup → StatusRow
group_row group = record { target = targets.Group group.group.name; status = group.status }

-- the row of a volume
abbrev pub volume_row : ActiveVolume → StatusRow
volume_row volume = record { target = targets.Volume volume.volume.volser; status = volume.status }

-- the rows of all groups, and behind them those of all volumes
abbrev pub running_statuses : ActiveVolumes → List StatusRow
running_statuses running = map group_row running.groups.items ++ map volume_row running.volumes.items
